use Rattle.std.proofs.Common.{◌≡◌, length, take}
use Rattle.langinfo.specs.Conv.{text_fields}
use Rattle.langinfo.specs.Lent.{owned_texts}
use Rattle.langinfo.proofs.conv.text_fields.Given as goal

-- the fields so far
abbrev pub invariant-loop-i : goal.invariant-loop-i
invariant-loop-i l = (length l.fields ≡ 10) × (owned_texts (take l.i l.fields) ≡ take l.i (text_fields l.numeric l.monetary))
