use Rattle.std.proofs.Common.{◌≡◌, length, take}
use Rattle.langinfo.specs.Conv.{bare_numbers}
use Rattle.langinfo.specs.Lent.{owned_numbers}
use Rattle.langinfo.proofs.conv.lent_conv_numbers.Given as goal

-- the numbers so far
abbrev pub invariant-loop-i : goal.invariant-loop-i
invariant-loop-i l = (length l.numbers ≡ 14) × (take l.i l.numbers ≡ bare_numbers (owned_numbers (take l.i l.fields)))
