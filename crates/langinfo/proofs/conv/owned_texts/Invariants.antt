use Rattle.std.proofs.Common.{◌≡◌, take}
use Rattle.langinfo.specs.Lent.{owned_texts}
use Rattle.langinfo.proofs.conv.owned_texts.Given as goal

-- the fields so far
abbrev pub invariant-loop-name : goal.invariant-loop-name
invariant-loop-name l = l.fields.items ≡ owned_texts (take l.name-index l.lent)
