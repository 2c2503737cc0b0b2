use Rattle.std.proofs.Common.{◌-◌, ◌^◌, arith, ap, refl, sym, ◌∙◌}
use Rattle.std.specs.Prelude.{min, ◌+◌}
use Rattle.std.specs.List.{list_all}
use Rattle.digit_groups.proofs.FormatLemmas.{values_stay}
use Rattle.digit_groups.proofs.TextLemmas.{none_measured, more_measured, all_accepted, all_measured}
use Rattle.digit_groups.proofs.text.measured.Goals as goal

pub loop-at-init : goal.loop-at-init
loop-at-init g c = record {
  good = c.requires.good;
  measured = none_measured _ _ _ _ _ _;
  within = omega arith;
}

pub loop-at-preserved : goal.loop-at-preserved
loop-at-preserved g c = record {
  good = ap (λ l. list_all g.C.FormatConversion.is_value l) c.in-Some.ensures.behind ∙ values_stay g.C.FormatConversion.is_value c.in-Some.piece c.loop-at.left.now c.loop-at.invariant.good;
  measured = more_measured _ _ _ _ _ (2 ^ 128 - 1) _ _ _ _ _ _ c.in-Some.piece c.loop-at.invariant.measured c.in-Some.ensures.pieces c.in-Some.ensures.same c.in-Some.ensures.behind
      (c.saturating_add-total.ensures ∙ ap (λ n. min (c.loop-at.total + n) (2 ^ 128 - 1)) c.piece_width.ensures);
  within = c.in-Some.ensures.within;
}

pub returns-in_default-clause-none : goal.returns-in_default-clause-none
returns-in_default-clause-none g c = λ none e. c.in_default.ensures.none refl (sym c.loop-at.invariant.measured.written.same ∙ e)

pub returns-clause-some : goal.returns-clause-some
returns-clause-some g c = all_accepted _ _ _ _ _ (2 ^ 128 - 1) _ _ _ c.loop-at.invariant.measured c.loop-at-test.false

pub returns-clause-length : goal.returns-clause-length
returns-clause-length g c = all_measured _ _ _ _ _ (2 ^ 128 - 1) _ _ _ c.loop-at.invariant.measured c.loop-at-test.false
