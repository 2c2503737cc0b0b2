use Rattle.std.proofs.Common.{◌≡◌, take}
use Rattle.langinfo.specs.Lent.{owned_numbers}
use Rattle.langinfo.proofs.conv.owned_numbers.Given as goal

-- the fields so far
abbrev pub invariant-loop-name : goal.invariant-loop-name
invariant-loop-name l = l.fields.items ≡ owned_numbers (take l.name-index l.lent)
