use Rattle.std.proofs.Common.{◌≡◌, ◌-◌, ◌<◌, length, Ok, None, refl, sym, arith}
use Rattle.std.proofs.lemmas.Bool.{eqb-true}
use Rattle.time_cat.specs.Shown.{expanded}
use Rattle.strftime_fields.proofs.Adding.{ends}
use Rattle.strftime_fields.proofs.Left.{no_levels, nothing_left}
use Rattle.strftime_fields.proofs.Counting.{no_levels_read}
use Rattle.strftime_fields.proofs.Going.{ends_all, ends_behind, whole_text, whole_reads, whole_bad}
use Rattle.strftime_fields.proofs.expand.put_whole.Goals as goal

-- a format without levels
pub returns-then-levels-eq0-clause-text : goal.returns-then-levels-eq0-clause-text
returns-then-levels-eq0-clause-text g c =
    let none = no_levels c.args.levels c.args.t.now c.args.tm.now c.args.format.now c.if-levels-eq0.true in
    ends _ c.args.max (g.O.Output.text c.args.out.now c.args.lent.now) (expanded c.args.levels c.args.t.now c.args.tm.now c.args.format.now) (g.O.Output.text c.args.out.now c.args.lent.now) (expanded c.args.levels c.args.t.now c.args.tm.now c.args.format.now) refl none c.requires.short

pub returns-then-levels-eq0-clause-steps : goal.returns-then-levels-eq0-clause-steps
returns-then-levels-eq0-clause-steps g c =
    let none = no_levels_read c.args.max c.args.levels c.args.t.now c.args.tm.now (length (g.O.Output.text c.args.out.now c.args.lent.now)) c.args.format.now c.if-levels-eq0.true in
    omega (arith, none)

-- a format of which nothing is left
pub returns-then-is_empty-clause-text : goal.returns-then-is_empty-clause-text
returns-then-is_empty-clause-text g c =
    let some : 0 < c.args.levels = omega (arith, c.if-levels-eq0.false) in
    let none : length c.put_quick.new.left.rest.now ≡ 0 = eqb-true _ 0 (sym c.if-is_empty.ensures) in
    let end = ends_all _ _ _ _ _ _ _ _ _ _ c.put_quick.ensures.goes (nothing_left c.put_quick.new.left.format.now (length c.put_quick.new.left.format.now - length c.put_quick.new.left.rest.now) (omega (arith, none))) c.put_quick.ensures.short in
    whole_text _ c.args.max c.args.t.now c.args.tm.now (g.O.Output.text c.args.out.now c.args.lent.now) c.args.steps.now c.args.levels c.args.format.now (g.O.Output.text c.put_quick.new.out c.put_quick.new.lent) c.put_quick.new.steps (Ok None) some end

pub returns-then-is_empty-clause-bad : goal.returns-then-is_empty-clause-bad
returns-then-is_empty-clause-bad g c =
    let none : length c.put_quick.new.left.rest.now ≡ 0 = eqb-true _ 0 (sym c.if-is_empty.ensures) in
    let end = ends_all _ _ _ _ _ _ _ _ _ _ c.put_quick.ensures.goes (nothing_left c.put_quick.new.left.format.now (length c.put_quick.new.left.format.now - length c.put_quick.new.left.rest.now) (omega (arith, none))) c.put_quick.ensures.short in
    whole_bad _ c.args.max c.args.t.now c.args.tm.now (g.O.Output.text c.args.out.now c.args.lent.now) c.args.steps.now c.args.levels c.args.format.now (g.O.Output.text c.put_quick.new.out c.put_quick.new.lent) c.put_quick.new.steps (Ok None) end

pub returns-then-is_empty-clause-steps : goal.returns-then-is_empty-clause-steps
returns-then-is_empty-clause-steps g c =
    let some : 0 < c.args.levels = omega (arith, c.if-levels-eq0.false) in
    let none : length c.put_quick.new.left.rest.now ≡ 0 = eqb-true _ 0 (sym c.if-is_empty.ensures) in
    let end = ends_all _ _ _ _ _ _ _ _ _ _ c.put_quick.ensures.goes (nothing_left c.put_quick.new.left.format.now (length c.put_quick.new.left.format.now - length c.put_quick.new.left.rest.now) (omega (arith, none))) c.put_quick.ensures.short in
    whole_reads _ c.args.max c.args.t.now c.args.tm.now (g.O.Output.text c.args.out.now c.args.lent.now) c.args.steps.now c.args.levels c.args.format.now (g.O.Output.text c.put_quick.new.out c.put_quick.new.lent) c.put_quick.new.steps (Ok None) some end

-- a format of which something is left
pub returns-clause-text : goal.returns-clause-text
returns-clause-text g c =
    let some : 0 < c.args.levels = omega (arith, c.if-levels-eq0.false) in
    whole_text _ c.args.max c.args.t.now c.args.tm.now (g.O.Output.text c.args.out.now c.args.lent.now) c.args.steps.now c.args.levels c.args.format.now (g.O.Output.text c.put_left.new.out c.put_left.new.lent) c.put_left.new.steps c.put_left.result some
    (ends_behind _ _ _ _ _ _ _ _ _ _ _ _ _ c.put_quick.ensures.goes c.put_left.ensures)

pub returns-clause-bad : goal.returns-clause-bad
returns-clause-bad g c =
    whole_bad _ c.args.max c.args.t.now c.args.tm.now (g.O.Output.text c.args.out.now c.args.lent.now) c.args.steps.now c.args.levels c.args.format.now (g.O.Output.text c.put_left.new.out c.put_left.new.lent) c.put_left.new.steps c.put_left.result
    (ends_behind _ _ _ _ _ _ _ _ _ _ _ _ _ c.put_quick.ensures.goes c.put_left.ensures)

pub returns-clause-steps : goal.returns-clause-steps
returns-clause-steps g c =
    let some : 0 < c.args.levels = omega (arith, c.if-levels-eq0.false) in
    whole_reads _ c.args.max c.args.t.now c.args.tm.now (g.O.Output.text c.args.out.now c.args.lent.now) c.args.steps.now c.args.levels c.args.format.now (g.O.Output.text c.put_left.new.out c.put_left.new.lent) c.put_left.new.steps c.put_left.result some
    (ends_behind _ _ _ _ _ _ _ _ _ _ _ _ _ c.put_quick.ensures.goes c.put_left.ensures)
