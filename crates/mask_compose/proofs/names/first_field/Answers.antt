-- The first field ends at the first separator.
use Rattle.std.proofs.Common.{◌≡◌, ap, ◌∙◌, ◌∷◌, ◌-◌, ◌+◌, take, drop, length, sym}
use Rattle.std.specs.List.{slice_split}
use Rattle.std.proofs.Math.Seq.{take-length}
use Rattle.std.proofs.lemmas.List.{length-drop}
use Rattle.mask_compose.specs.Names.{is_separator}
use Rattle.mask_compose.proofs.SpanLemmas.{first_ends, one_field}
use Rattle.mask_compose.proofs.names.first_field.Goals as goal

pub returns-in-Some-clause-fields : goal.returns-in-Some-clause-fields
returns-in-Some-clause-fields c =
    let rest = drop (c.in-Some.at + 1) c.args.text.now in
    let whole : rest ≡ take (length c.args.text.now - (c.in-Some.at + 1)) rest = sym (ap (λ n. take n rest) (sym (length-drop (c.in-Some.at + 1) c.args.text.now)) ∙ take-length rest) in
    (first_ends c.args.text.now c.in-Some.at c.in-Some.ensures).0 ∙ ap (λ x. take c.in-Some.at c.args.text.now ∷ slice_split is_separator x) whole

pub returns-in-None-clause-fields : goal.returns-in-None-clause-fields
returns-in-None-clause-fields c = one_field c.args.text.now c.in-None.ensures
