use Rattle.std.proofs.Common.{◌≡◌, drop}
use Rattle.keywords.specs.Keywords.{operands}
use Rattle.keywords.proofs.values.operands.Given as goal

-- no line so far has the keyword
abbrev pub invariant-loop-entry : goal.invariant-loop-entry
invariant-loop-entry l = operands (drop l.entry-index l.entries) l.keyword ≡ operands l.entries l.keyword
