use Rattle.std.specs.Prelude.{option_map}
use Rattle.std.proofs.Common.{Option, arith, ap, sym, ◌∙◌}
use Rattle.lc_base.specs.declared.refusal.FormatRefusal.{FormatRefusal}
use Rattle.text_buffer.specs.declared.unwritten.Unwritten.{Unwritten}
use Rattle.text_buffer.specs.declared.unwritten.Unwritten.TheVariants.{Refused}
use Rattle.digit_groups.specs.Formats.{unwritten_of}
use Rattle.digit_groups.proofs.FormatLemmas.{refusal_bad, refusal_more, refusal_over}
use Rattle.digit_groups.proofs.format.refusal.Goals as goal

refused : Option FormatRefusal → Option Unwritten
refused r = option_map (λ why. Refused why) r

pub returns-in_default : goal.returns-in_default
unfolding refused
returns-in_default g c =
    sym (ap refused (c.loop-at.invariant.rest
    ∙ refusal_bad g.C.FormatConversion.conversion g.C.FormatConversion.lacks c.loop-at.lacking c.loop-at.left c.args.format.now c.loop-at.at (omega arith) (sym c.piece_of.ensures.is ∙ c.in_default.is)))

pub loop-at-preserved : goal.loop-at-preserved
loop-at-preserved g c = record {
  rest = c.loop-at.invariant.rest
      ∙ refusal_more g.C.FormatConversion.conversion g.C.FormatConversion.lacks c.loop-at.lacking c.behind_piece.result.1 c.loop-at.left c.behind_piece.result.0 c.args.format.now c.loop-at.at c.in-Some.used c.in-Some.piece (omega arith) (sym c.piece_of.ensures.is ∙ c.in-Some.is) (c.behind_piece.ensures g.C.FormatConversion.lacks);
  within = omega (arith, c.in-Some.ensures.within);
}

pub returns : goal.returns
unfolding refused
returns g c =
    sym (ap refused (c.loop-at.invariant.rest
    ∙ refusal_over g.C.FormatConversion.conversion g.C.FormatConversion.lacks c.loop-at.lacking c.loop-at.left c.args.format.now c.loop-at.at (omega arith)
    ∙ ap (λ l. option_map g.C.FormatConversion.lacks l) c.in_ok-lacking.was))

pub returns-in_err-lacking : goal.returns-in_err-lacking
unfolding refused
returns-in_err-lacking g c =
    ap (λ r. option_map (λ stop. unwritten_of g.C.FormatConversion.lacks stop) r) c.from_residual.ensures
    ∙ sym (ap refused (c.loop-at.invariant.rest
    ∙ refusal_over g.C.FormatConversion.conversion g.C.FormatConversion.lacks c.loop-at.lacking c.loop-at.left c.args.format.now c.loop-at.at (omega arith)
    ∙ ap (λ l. option_map g.C.FormatConversion.lacks l) c.in_err-lacking.was))
