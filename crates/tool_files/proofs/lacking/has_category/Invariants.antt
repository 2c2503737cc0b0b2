use Rattle.std.proofs.Common.{◌≡◌, drop}
use Rattle.tool_files.specs.Lacking.{has_category}
use Rattle.tool_files.proofs.lacking.has_category.Given as goal

-- none so far is the category
abbrev pub invariant-loop-other : goal.invariant-loop-other
invariant-loop-other l = has_category l.category (drop l.other-index l.categories) ≡ has_category l.category l.categories
