use Rattle.std.proofs.Common.{◌≡◌, ◌+◌, ◌-◌, ◌<◌, length, take, drop, Ok, None, refl, sym, ap, ◌∙◌, arith, length-drop, take_all}
use Rattle.std.proofs.lemmas.Bool.{eqb-true}
use Rattle.std.proofs.lemmas.List.{drop-drop}
use Rattle.time_cat.specs.Conversions.{conversion}
use Rattle.strftime_fields.specs.Cost.{read_for, reads}
use Rattle.std.proofs.lemmas.Result.{err_from_is_err_and}
use Rattle.time_cat.specs.Shown.{expanded}
use Rattle.strftime_fields.specs.Going.{place_of}
use Rattle.strftime_fields.proofs.Adding.{ends}
use Rattle.strftime_fields.proofs.Left.{no_levels, nothing_left}
use Rattle.strftime_fields.proofs.Counting.{no_levels_read}
use Rattle.strftime_fields.proofs.Going.{goes_both, goes_literal, goes_conversion, ends_all, ends_wrong, ends_wrong_inside, ends_byte, ends_conversion, ends_behind, whole_text, whole_reads, whole_bad}
use Rattle.strftime_fields.proofs.expand.+expand.Goals as goal
use Rattle.strftime_fields.proofs.expand.+expand.Goals.{put_left-in-Byte+in_ok-put_byte-in-Byte, put_left-in-Conv+in_ok-put_other-in-Conv}

-- a format without levels
pub put_format-returns-then-levels-eq0-clause-text : goal.put_format-returns-then-levels-eq0-clause-text
put_format-returns-then-levels-eq0-clause-text g t c =
    let none = no_levels c.args.levels c.args.t.now c.args.tm.now c.args.format.now c.if-levels-eq0.true in
    ends _ c.args.max (g.O.Output.text c.args.out.now c.args.lent.now) (expanded c.args.levels c.args.t.now c.args.tm.now c.args.format.now) (g.O.Output.text c.args.out.now c.args.lent.now) (expanded c.args.levels c.args.t.now c.args.tm.now c.args.format.now) refl none c.requires.short

pub put_format-returns-then-levels-eq0-clause-steps : goal.put_format-returns-then-levels-eq0-clause-steps
put_format-returns-then-levels-eq0-clause-steps g t c =
    let none = no_levels_read c.args.max c.args.levels c.args.t.now c.args.tm.now (length (g.O.Output.text c.args.out.now c.args.lent.now)) c.args.format.now c.if-levels-eq0.true in
    omega (arith, none)

-- a format of which nothing is left
pub put_format-returns-then-is_empty-clause-text : goal.put_format-returns-then-is_empty-clause-text
put_format-returns-then-is_empty-clause-text g t c =
    let some : 0 < c.args.levels = omega (arith, c.if-levels-eq0.false) in
    let none : length c.put_quick_apart.new.left.rest.now ≡ 0 = eqb-true _ 0 (sym c.if-is_empty.ensures) in
    let end = ends_all _ _ _ _ _ _ _ _ _ _ c.put_quick_apart.ensures.goes (nothing_left c.put_quick_apart.new.left.format.now (length c.put_quick_apart.new.left.format.now - length c.put_quick_apart.new.left.rest.now) (omega (arith, none))) c.put_quick_apart.ensures.short in
    whole_text _ c.args.max c.args.t.now c.args.tm.now (g.O.Output.text c.args.out.now c.args.lent.now) c.args.steps.now c.args.levels c.args.format.now (g.O.Output.text c.put_quick_apart.new.out c.put_quick_apart.new.lent) c.put_quick_apart.new.steps (Ok None) some end

pub put_format-returns-then-is_empty-clause-bad : goal.put_format-returns-then-is_empty-clause-bad
put_format-returns-then-is_empty-clause-bad g t c =
    let none : length c.put_quick_apart.new.left.rest.now ≡ 0 = eqb-true _ 0 (sym c.if-is_empty.ensures) in
    let end = ends_all _ _ _ _ _ _ _ _ _ _ c.put_quick_apart.ensures.goes (nothing_left c.put_quick_apart.new.left.format.now (length c.put_quick_apart.new.left.format.now - length c.put_quick_apart.new.left.rest.now) (omega (arith, none))) c.put_quick_apart.ensures.short in
    whole_bad _ c.args.max c.args.t.now c.args.tm.now (g.O.Output.text c.args.out.now c.args.lent.now) c.args.steps.now c.args.levels c.args.format.now (g.O.Output.text c.put_quick_apart.new.out c.put_quick_apart.new.lent) c.put_quick_apart.new.steps (Ok None) end

pub put_format-returns-then-is_empty-clause-steps : goal.put_format-returns-then-is_empty-clause-steps
put_format-returns-then-is_empty-clause-steps g t c =
    let some : 0 < c.args.levels = omega (arith, c.if-levels-eq0.false) in
    let none : length c.put_quick_apart.new.left.rest.now ≡ 0 = eqb-true _ 0 (sym c.if-is_empty.ensures) in
    let end = ends_all _ _ _ _ _ _ _ _ _ _ c.put_quick_apart.ensures.goes (nothing_left c.put_quick_apart.new.left.format.now (length c.put_quick_apart.new.left.format.now - length c.put_quick_apart.new.left.rest.now) (omega (arith, none))) c.put_quick_apart.ensures.short in
    whole_reads _ c.args.max c.args.t.now c.args.tm.now (g.O.Output.text c.args.out.now c.args.lent.now) c.args.steps.now c.args.levels c.args.format.now (g.O.Output.text c.put_quick_apart.new.out c.put_quick_apart.new.lent) c.put_quick_apart.new.steps (Ok None) some end

-- a format of which something is left
pub put_format-returns-clause-text : goal.put_format-returns-clause-text
put_format-returns-clause-text g t c =
    let some : 0 < c.args.levels = omega (arith, c.if-levels-eq0.false) in
    whole_text _ c.args.max c.args.t.now c.args.tm.now (g.O.Output.text c.args.out.now c.args.lent.now) c.args.steps.now c.args.levels c.args.format.now (g.O.Output.text c.put_left.new.out c.put_left.new.lent) c.put_left.new.steps c.put_left.result some
    (ends_behind _ _ _ _ _ _ _ _ _ _ _ _ _ c.put_quick_apart.ensures.goes c.put_left.ensures)

pub put_format-returns-clause-bad : goal.put_format-returns-clause-bad
put_format-returns-clause-bad g t c =
    whole_bad _ c.args.max c.args.t.now c.args.tm.now (g.O.Output.text c.args.out.now c.args.lent.now) c.args.steps.now c.args.levels c.args.format.now (g.O.Output.text c.put_left.new.out c.put_left.new.lent) c.put_left.new.steps c.put_left.result
    (ends_behind _ _ _ _ _ _ _ _ _ _ _ _ _ c.put_quick_apart.ensures.goes c.put_left.ensures)

pub put_format-returns-clause-steps : goal.put_format-returns-clause-steps
put_format-returns-clause-steps g t c =
    let some : 0 < c.args.levels = omega (arith, c.if-levels-eq0.false) in
    whole_reads _ c.args.max c.args.t.now c.args.tm.now (g.O.Output.text c.args.out.now c.args.lent.now) c.args.steps.now c.args.levels c.args.format.now (g.O.Output.text c.put_left.new.out c.put_left.new.lent) c.put_left.new.steps c.put_left.result some
    (ends_behind _ _ _ _ _ _ _ _ _ _ _ _ _ c.put_quick_apart.ensures.goes c.put_left.ensures)

-- what is left
pub put_left-returns-in-End : goal.put_left-returns-in-End
put_left-returns-in-End g t c =
    let same : c.step_at.new.steps ≡ c.reading.steps = omega (arith, c.in-End.ensures.counted) in
    rw same (ends_all _ _ _ _ _ _ _ _ _ _ c.reading.invariant.goes c.in-End.ensures.stands c.reading.invariant.short)

pub put_left-returns-in-Bad : goal.put_left-returns-in-Bad
put_left-returns-in-Bad g t c =
    let same : c.step_at.new.steps ≡ c.reading.steps = omega (arith, c.in-Bad.ensures.counted) in
    rw same (ends_wrong _ _ _ _ _ _ _ _ _ _ c.reading.invariant.goes c.in-Bad.ensures.stands c.if-left.true c.reading.invariant.short)

pub put_left-returns-in-Bad-2 : goal.put_left-returns-in-Bad-2
put_left-returns-in-Bad-2 g t c =
    let same : c.step_at.new.steps ≡ c.reading.steps = omega (arith, c.in-Bad-2.ensures.counted) in
    rw same (ends_wrong_inside _ _ _ _ _ _ _ _ _ _ c.reading.invariant.goes c.in-Bad-2.ensures.stands c.if-left.false c.reading.invariant.short)

pub put_left-returns-in_err-put_byte-in-Byte : goal.put_left-returns-in_err-put_byte-in-Byte
put_left-returns-in_err-put_byte-in-Byte g t c =
    let same : c.step_at.new.steps ≡ c.reading.steps = omega (arith, c.in-Byte.ensures.counted) in
    let p = err_from_is_err_and c.from_residual.result c.from_residual.ensures.1 in
    rw (p.1, p.2, same) (ends_byte _ _ _ _ _ _ _ _ _ _ _ c.in-Byte.byte c.in_err-put_byte-in-Byte.field-0.0 c.reading.invariant.goes c.in-Byte.ensures.stands c.in_err-put_byte-in-Byte.ensures)

pub put_left-returns-in_err-put_other-in-Conv : goal.put_left-returns-in_err-put_other-in-Conv
put_left-returns-in_err-put_other-in-Conv g t c =
    let same : c.step_at.new.steps ≡ c.reading.steps + 1 = c.in-Conv.ensures.counted in
    let p = err_from_is_err_and c.from_residual-in_err-put_other-in-Conv.result c.from_residual-in_err-put_other-in-Conv.ensures.1 in
    rw (p.1, p.2) (ends_conversion _ _ _ _ _ _ _ _ _ _ _ _ c.in-Conv.modifier c.in-Conv.letter _ c.in-Conv.next c.in_err-put_other-in-Conv.field-0.0 c.reading.invariant.goes c.in-Conv.ensures.stands c.reading.invariant.short c.in_err-put_other-in-Conv.ensures.text (rw (sym same) c.in_err-put_other-in-Conv.ensures.steps))

-- a piece that is read as a whole, and what is told at first sight behind it
pub put_left-reading-preserved : goal.put_left-reading-preserved
put_left-reading-preserved g t c =
    let format = c.reading.left.format.now in
    let at = length format - length c.reading.left.rest.now in
    elim c.match-step_at.branch [
      | put_left-in-Byte+in_ok-put_byte-in-Byte w ↦
          let same : c.step_at.new.steps ≡ c.reading.steps = omega (arith, w.in-Byte.ensures.counted) in
          let cut : take (length format - (at + 1)) (drop (at + 1) format) ≡ drop 1 c.reading.left.rest.now = take_all (length format - (at + 1)) (drop (at + 1) format) (omega (arith, length-drop (at + 1) format)) ∙ (sym (drop-drop 1 at format) ∙ sym (ap (drop 1) c.reading.invariant.goes.stands.left)) in
          let goes = goes_literal _ c.args.max c.args.t.now c.args.tm.now (g.O.Output.text c.reading.out c.reading.lent) (g.O.Output.text w.put_byte.new.out w.put_byte.new.lent) c.reading.steps (place_of c.reading.left) _ w.in-Byte.byte c.reading.invariant.goes.stands w.in-Byte.ensures.stands w.in_ok-put_byte-in-Byte.ensures.0 cut in
          let quick = rw (w.left-is, w.steps-is, w.out-is, w.lent-is, same) at c.put_quick_apart.ensures.goes in
          record {
            goes = goes_both _ _ _ _ _ _ _ _ _ _ _ _ _ c.reading.invariant.goes (goes_both _ _ _ _ _ _ _ _ _ _ _ _ _ goes quick);
            short = c.put_quick_apart.ensures.short;
          }
      | put_left-in-Conv+in_ok-put_other-in-Conv w ↦
          let cut : take (length format - w.in-Conv.next) (drop w.in-Conv.next format) ≡ drop w.in-Conv.next format = take_all (length format - w.in-Conv.next) (drop w.in-Conv.next format) (omega (arith, length-drop w.in-Conv.next format)) in
          let counts : w.put_other.new.steps ≡ c.reading.steps + 1 + read_for c.args.t.now c.args.tm.now (reads c.args.max (c.reading.left.levels - 1) c.args.t.now c.args.tm.now (length (g.O.Output.text c.reading.out c.reading.lent))) (conversion w.in-Conv.modifier w.in-Conv.letter) = omega (arith, w.in_ok-put_other-in-Conv.ensures.steps, w.in-Conv.ensures.counted) in
          let goes = goes_conversion _ c.args.max c.args.t.now c.args.tm.now (g.O.Output.text c.reading.out c.reading.lent) (g.O.Output.text w.put_other.new.out w.put_other.new.lent) c.reading.steps w.put_other.new.steps (place_of c.reading.left) _ w.in-Conv.modifier w.in-Conv.letter _ w.in-Conv.next c.reading.invariant.goes.stands w.in-Conv.ensures.stands c.reading.invariant.short w.in_ok-put_other-in-Conv.ensures.text.0 counts cut in
          let quick = rw (w.left-is, w.steps-is, w.out-is, w.lent-is) at c.put_quick_apart.ensures.goes in
          record {
            goes = goes_both _ _ _ _ _ _ _ _ _ _ _ _ _ c.reading.invariant.goes (goes_both _ _ _ _ _ _ _ _ _ _ _ _ _ goes quick);
            short = c.put_quick_apart.ensures.short;
          }
    ]
