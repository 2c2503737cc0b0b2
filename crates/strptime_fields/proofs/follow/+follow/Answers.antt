use Rattle.std.proofs.Common.{◌+◌, ◌-◌, ◌<◌, List, refl, sym, ap, ◌∙◌, arith}
use Rattle.time_cat.specs.Formats.{Piece, Converted}
use Rattle.strptime_fields.specs.Scans.{followed, through, reads}
use Rattle.strptime_fields.specs.Seen.{seen}
use Rattle.strptime_fields.proofs.Through.{followed_left, left_at_start, left_at_end, left_at_wrong, left_at_byte, left_at_conversion, no_levels, conversion_none, conversion_some, reads_none, reads_some}
use Rattle.strptime_fields.proofs.follow.+follow.Goals as goal

pub follow_format-returns-then-levels-eq0-clause-progress : goal.follow_format-returns-then-levels-eq0-clause-progress
follow_format-returns-then-levels-eq0-clause-progress g t c =
    let none = no_levels c.args.levels c.args.t.now c.args.format.now c.if-levels-eq0.true in
    rw none refl

pub follow_format-returns-then-levels-eq0-clause-steps : goal.follow_format-returns-then-levels-eq0-clause-steps
follow_format-returns-then-levels-eq0-clause-steps g t c =
    let none = no_levels c.args.levels c.args.t.now c.args.format.now c.if-levels-eq0.true in
    omega (arith, ap reads none)

pub follow_format-reading-init : goal.follow_format-reading-init
follow_format-reading-init g t c =
    let some : 0 < c.args.levels = omega (arith, c.if-levels-eq0.false) in
    let start = left_at_start c.args.levels c.args.t.now c.args.format.now some in
    record {
      within = omega arith;
      some = some;
      progress = ap (λ (ps : List Piece). through c.args.t.now ps (seen c.args.progress)) start;
      steps = ap (λ (ps : List Piece). c.args.steps.now + reads ps) start;
    }

pub follow_format-returns-in-End-clause-progress : goal.follow_format-returns-in-End-clause-progress
follow_format-returns-in-End-clause-progress g t c =
    rw (left_at_end c.args.levels c.args.t.now c.args.format.now c.reading.at c.in-End.ensures.stands) at c.reading.invariant.progress

pub follow_format-returns-in-End-clause-steps : goal.follow_format-returns-in-End-clause-steps
follow_format-returns-in-End-clause-steps g t c =
    let none = left_at_end c.args.levels c.args.t.now c.args.format.now c.reading.at c.in-End.ensures.stands in
    omega (arith, ap reads none, c.reading.invariant.steps, c.in-End.ensures.counted)

pub follow_format-returns-in-Bad-clause-progress : goal.follow_format-returns-in-Bad-clause-progress
follow_format-returns-in-Bad-clause-progress g t c =
    rw (left_at_wrong c.args.levels c.args.t.now c.args.format.now c.reading.at c.in-Bad.ensures.stands) at c.reading.invariant.progress

pub follow_format-returns-in-Bad-clause-steps : goal.follow_format-returns-in-Bad-clause-steps
follow_format-returns-in-Bad-clause-steps g t c =
    let wrong = left_at_wrong c.args.levels c.args.t.now c.args.format.now c.reading.at c.in-Bad.ensures.stands in
    omega (arith, ap reads wrong, c.reading.invariant.steps, c.in-Bad.ensures.counted)

pub follow_format-reading-preserved-in-Byte : goal.follow_format-reading-preserved-in-Byte
follow_format-reading-preserved-in-Byte g t c =
    let left = left_at_byte c.args.levels c.args.t.now c.args.format.now c.reading.at c.in-Byte.byte (c.reading.at + 1) c.in-Byte.ensures.stands.1 in
    let rest = followed_left c.args.levels c.args.t.now c.args.format.now (c.reading.at + 1) in
    record {
      within = omega (arith, c.in-Byte.ensures.stands.0);
      some = c.reading.invariant.some;
      progress = rw (c.read_item-progress.ensures, c.byte_item.ensures) (rw left at c.reading.invariant.progress);
      steps = omega (arith, ap reads left, c.reading.invariant.steps, c.in-Byte.ensures.counted);
    }

pub follow_format-returns-in-None-clause-progress : goal.follow_format-returns-in-None-clause-progress
follow_format-returns-in-None-clause-progress g t c =
    let p : Piece = Converted c.in-Conv.modifier c.in-Conv.letter c.in-Conv.rank in
    let left = left_at_conversion c.args.levels c.args.t.now c.args.format.now c.reading.at c.in-Conv.modifier c.in-Conv.letter _ c.in-Conv.next c.in-Conv.ensures.stands.2 in
    sym (conversion_none c.args.t.now (followed (c.args.levels - 1) c.args.t.now) p (followed_left c.args.levels c.args.t.now c.args.format.now c.in-Conv.next) (seen c.reading.progress) (sym c.in-None.ensures.progress)) ∙ (rw left at c.reading.invariant.progress)

pub follow_format-returns-in-None-clause-steps : goal.follow_format-returns-in-None-clause-steps
follow_format-returns-in-None-clause-steps g t c =
    let left = left_at_conversion c.args.levels c.args.t.now c.args.format.now c.reading.at c.in-Conv.modifier c.in-Conv.letter _ c.in-Conv.next c.in-Conv.ensures.stands.2 in
    let cost = reads_none c.args.t.now (followed (c.args.levels - 1) c.args.t.now) c.in-Conv.modifier c.in-Conv.letter c.in-Conv.rank (followed_left c.args.levels c.args.t.now c.args.format.now c.in-Conv.next) (seen c.reading.progress) (sym c.in-None.ensures.progress) in
    omega (arith, ap reads left, cost, c.reading.invariant.steps, c.in-Conv.ensures.counted, c.in-None.ensures.steps)

pub follow_format-reading-preserved : goal.follow_format-reading-preserved
follow_format-reading-preserved g t c =
    let p : Piece = Converted c.in-Conv.modifier c.in-Conv.letter c.in-Conv.rank in
    let follow = followed (c.args.levels - 1) c.args.t.now in
    let rest = followed_left c.args.levels c.args.t.now c.args.format.now c.in-Conv.next in
    let left = left_at_conversion c.args.levels c.args.t.now c.args.format.now c.reading.at c.in-Conv.modifier c.in-Conv.letter _ c.in-Conv.next c.in-Conv.ensures.stands.2 in
    let cost = reads_some c.args.t.now follow c.in-Conv.modifier c.in-Conv.letter c.in-Conv.rank rest (seen c.reading.progress) (seen c.in-Some.further) (sym c.in-Some.ensures.progress) in
    record {
      within = c.in-Conv.ensures.stands.1;
      some = c.reading.invariant.some;
      progress = sym (conversion_some c.args.t.now follow p rest (seen c.reading.progress) (seen c.in-Some.further) (sym c.in-Some.ensures.progress)) ∙ (rw left at c.reading.invariant.progress);
      steps = omega (arith, ap reads left, cost, c.reading.invariant.steps, c.in-Conv.ensures.counted, c.in-Some.ensures.steps);
    }
