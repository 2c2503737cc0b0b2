use Rattle.std.proofs.Common.{◌≡◌, drop}
use Rattle.keywords.specs.Rules.{checked}
use Rattle.keywords.proofs.rules.check.Given as goal

-- no line so far has a fault
abbrev pub invariant-loop-entry : goal.invariant-loop-entry
invariant-loop-entry l = checked l.category (drop l.entry-index l.entries) ≡ checked l.category l.entries
