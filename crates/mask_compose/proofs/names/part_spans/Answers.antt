-- Each step reads one field more.
use Rattle.std.proofs.Common.{◌≡◌, arith, ap, sym, ◌∙◌, length, length-set, ◌+◌}
use Rattle.std.specs.Option.{option_copied}
use Rattle.mask_compose.specs.Names.{length_after}
use Rattle.mask_compose.proofs.SpanLemmas.{field_missing, part_missing, part_there, field_too_many}
use Rattle.mask_compose.proofs.names.part_spans.Goals as goal

pub returns-in_err-rest : goal.returns-in_err-rest
returns-in_err-rest c =
    c.from_residual.ensures ∙ field_missing _ _ c.loop-i.i _ _ c.loop-i.invariant.whole (omega arith) (ap option_copied c.in_err-rest.was)

pub returns-in_err-part : goal.returns-in_err-part
returns-in_err-part c =
    c.from_residual-in_err-part.ensures
    ∙ part_missing _ _ c.loop-i.i _ _ c.in_ok-rest.field-0.now c.first_field.result.0.now (option_copied c.first_field.result.1) c.loop-i.invariant.whole (omega arith) (ap option_copied c.in_ok-rest.was) c.first_field.ensures.fields
    (sym c.part_in.ensures.part ∙ ap option_copied c.in_err-part.was)

pub loop-i-preserved : goal.loop-i-preserved
loop-i-preserved c = record {
  whole = part_there _ c.loop-i.spans c.loop-i.i c.loop-i.at _ c.in_ok-rest.field-0.now c.first_field.result.0.now c.in_ok-part.part.now (option_copied c.first_field.result.1) c.loop-i.invariant.whole (omega arith) c.loop-i.invariant.five (ap option_copied c.in_ok-rest.was) c.first_field.ensures.fields (sym c.in_ok-part.ensures.part);
  fits =
      let before : length_after (option_copied c.loop-i.rest) ≡ length c.in_ok-rest.field-0.now + 1 = ap length_after (ap option_copied c.in_ok-rest.was) in
      omega arith;
  five = simp length-set c.loop-i.invariant.five;
}

pub returns-in-Some : goal.returns-in-Some
returns-in-Some c =
    field_too_many _ _ c.loop-i.i _ _ c.in-Some.field-0.now c.loop-i.invariant.whole (omega arith) (ap option_copied c.in-Some.is)
