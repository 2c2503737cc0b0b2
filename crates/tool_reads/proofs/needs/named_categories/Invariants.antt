use Rattle.std.proofs.Common.{◌≡◌, ◌++◌, drop, map}
use Rattle.tool_reads.specs.ItemCategories.{named_categories}
use Rattle.tool_reads.proofs.needs.named_categories.Given as goal

-- the categories so far, and those of the names that are left
abbrev pub invariant-loop-name : goal.invariant-loop-name
invariant-loop-name l = l.read.items ++ named_categories (map (λ name. name.now) (drop l.name-index l.names)) ≡ named_categories (map (λ name. name.now) l.names)
