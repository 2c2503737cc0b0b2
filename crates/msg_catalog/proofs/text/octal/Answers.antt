use Rattle.std.proofs.Common.{rules, arith, ◌≡◌, ◌∙◌, ◌<◌, ◌-◌, sym, true}
use Rattle.msg_catalog.specs.Texts.{is_octal}
use Rattle.msg_catalog.proofs.Reading.{octal_digit, octal_small, octal_fits, octal_step, octal_stop, octal_full, octal_line_end, octal_other, drop_after}
use Rattle.msg_catalog.proofs.text.octal.Goals as goal
use Rattle.msg_catalog.proofs.text.octal.Goals.{else-loop-count-test, then-loop-count-test+in_default-2, then-loop-count-test+in_default}

pub overflow_mul-value : goal.overflow_mul-value
overflow_mul-value c =
    let small = octal_small c.loop-count.count c.loop-count.value c.loop-count-test.true c.loop-count.invariant.fits in
    search rules

pub overflow_add-value : goal.overflow_add-value
overflow_add-value c =
    let small = octal_small c.loop-count.count c.loop-count.value c.loop-count-test.true c.loop-count.invariant.fits in
    let digit : c.in-Some.spot.byte - 48 < 8 = octal_digit c.in-Some.spot.byte (sym c.is_octal.ensures ∙ c.if-is_octal.true) in
    search rules

pub loop-count-preserved : goal.loop-count-preserved
loop-count-preserved c =
    let octal : is_octal c.in-Some.spot.byte ≡ true = sym c.is_octal.ensures ∙ c.if-is_octal.true in
    record {
      is = octal_step c.loop-count.count c.loop-count.value c.in-Some.spot _ _ _ c.in-Some.ensures.line c.loop-count-test.true octal c.loop-count.invariant.is;
      rest = drop_after _ c.loop-count.count c.in-Some.spot _ (sym c.loop-count.invariant.rest ∙ c.in-Some.ensures.line);
      most = omega arith;
      fits = octal_fits c.loop-count.count c.loop-count.value (c.in-Some.spot.byte - 48) c.loop-count-test.true c.loop-count.invariant.fits (octal_digit c.in-Some.spot.byte octal);
      within = omega (arith, c.in-Some.ensures.shorter, c.loop-count.invariant.within);
    }

pub returns-clause-value : goal.returns-clause-value
returns-clause-value c =
    elim c.loop-count-test.branch [
      | else-loop-count-test w ↦ octal_stop _ _ _ _ (octal_full c.loop-count.count c.loop-count.value _ (omega arith)) c.loop-count.invariant.is
      | then-loop-count-test+in_default-2 w ↦
          octal_stop _ _ _ _ (octal_other c.loop-count.count c.loop-count.value w.in-Some.spot _ _ w.in-Some.ensures.line w.loop-count-test.true (sym w.is_octal.ensures ∙ w.if-is_octal.false)) c.loop-count.invariant.is
      | then-loop-count-test+in_default w ↦
          octal_stop _ _ _ _ (octal_line_end c.loop-count.count c.loop-count.value _ (rw w.in_default.is at w.next.ensures.line)) c.loop-count.invariant.is
    ]
