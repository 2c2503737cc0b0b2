use Rattle.std.proofs.Common.{◌≡◌, length, map, take}
use Rattle.c_values.specs.Limits.{MOST}
use Rattle.c_values.specs.Answers.{amount_of}
use Rattle.c_values.proofs.amounts.amounts_given.Given as goal

-- there is room for all, and the first are written
abbrev pub invariant-loop-i : goal.invariant-loop-i
invariant-loop-i l = (length l.given ≡ MOST) × (take l.i l.given ≡ map amount_of (take l.i l.amounts))
