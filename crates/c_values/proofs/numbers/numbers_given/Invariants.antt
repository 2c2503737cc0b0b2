use Rattle.std.proofs.Common.{◌≡◌, true, length, take}
use Rattle.std.specs.List.{list_all}
use Rattle.int_format.specs.Ints.{is_number}
use Rattle.c_values.specs.Limits.{MOST}
use Rattle.c_values.proofs.numbers.numbers_given.Given as goal

-- there is room for all, and the first are written and in their range
abbrev pub invariant-loop-i : goal.invariant-loop-i
invariant-loop-i l = (length l.given ≡ MOST) × (take l.i l.given ≡ take l.i l.numbers) × (list_all is_number (take l.i l.numbers) ≡ true)
