use Rattle.std.proofs.Common.{◌≡◌, ◌++◌, drop}
use Rattle.lc_base.specs.Categories.{categories}
use Rattle.tool_files.specs.Lacking.{lacking_among}
use Rattle.tool_files.proofs.lacking.lacking_in.Given as goal

-- those so far, and those that are left
abbrev pub invariant-loop-category : goal.invariant-loop-category
invariant-loop-category l = l.found.items ++ lacking_among l.sections l.asked (drop l.category-index categories) ≡ lacking_among l.sections l.asked categories
