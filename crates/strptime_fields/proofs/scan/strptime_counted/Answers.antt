use Rattle.std.proofs.Common.{◌≡◌, ◌+◌, List, drop, None, Ok, sym, ap, ◌∙◌, arith}
use Rattle.time_cat.specs.Formats.{Piece, Converted, pieces}
use Rattle.strptime_fields.specs.Keeping.{nothing}
use Rattle.strptime_fields.specs.Scans.{bad_from, followed, through, reads}
use Rattle.strptime_fields.specs.Seen.{seen}
use Rattle.strptime_fields.proofs.Bound.{cost_most}
use Rattle.strptime_fields.proofs.Scanning.{next_is, bad_at_byte, bad_at_end, bad_at_known, scan_read, left_within}
use Rattle.strptime_fields.proofs.Through.{followed_left, pieces_at_start, left_at_start, left_at_end, left_at_wrong, left_at_byte, left_at_conversion, conversion_some, reads_none, reads_some}
use Rattle.strptime_fields.proofs.scan.strptime_counted.Goals as goal

pub reading-init : goal.reading-init
reading-init g c =
    let start = left_at_start 5 c.args.t.now c.args.format.now (omega arith) in
    record {
      within = omega arith;
      bad = ap (λ (ps : List Piece). bad_from c.args.t.now 0 ps) (pieces_at_start c.args.format.now);
      progress = rw (c.nothing.ensures) (ap (λ (ps : List Piece). through c.args.t.now ps (Ok (c.args.text.now, nothing))) start);
      steps = ap (λ (ps : List Piece). c.args.steps.now + reads ps) start;
    }

pub ended-requires : goal.ended-requires
ended-requires g c =
    let read = rw (left_at_end 5 c.args.t.now c.args.format.now c.reading.at c.in-End.ensures.stands) at c.reading.invariant.progress in
    left_within c.args.t.now c.args.format.now c.args.text.now (seen c.reading.progress) (sym read)

pub returns-in-End-clause-answer : goal.returns-in-End-clause-answer
returns-in-End-clause-answer g c =
    let read = rw (left_at_end 5 c.args.t.now c.args.format.now c.reading.at c.in-End.ensures.stands) at c.reading.invariant.progress in
    let good : bad_from c.args.t.now 0 (pieces c.args.format.now) ≡ None = sym c.reading.invariant.bad ∙ bad_at_end c.args.t.now c.args.format.now c.reading.at c.in-End.ensures.stands in
    c.ended.ensures ∙ sym (scan_read c.args.t.now c.args.format.now c.args.text.now (seen c.reading.progress) good (sym read))

pub returns-in-End-clause-steps : goal.returns-in-End-clause-steps
returns-in-End-clause-steps g c =
    let none = left_at_end 5 c.args.t.now c.args.format.now c.reading.at c.in-End.ensures.stands in
    omega (arith, ap reads none, c.reading.invariant.steps, c.in-End.ensures.counted)

pub returns-in-End-clause-bound : goal.returns-in-End-clause-bound
returns-in-End-clause-bound g c = cost_most c.args.t.now c.args.format.now c.rules_hold.ensures

pub returns-in-Bad-clause-steps : goal.returns-in-Bad-clause-steps
returns-in-Bad-clause-steps g c =
    let wrong = left_at_wrong 5 c.args.t.now c.args.format.now c.reading.at c.in-Bad.ensures.stands in
    omega (arith, ap reads wrong, c.reading.invariant.steps, c.in-Bad.ensures.counted)

pub returns-in-Bad-clause-bound : goal.returns-in-Bad-clause-bound
returns-in-Bad-clause-bound g c = cost_most c.args.t.now c.args.format.now c.rules_hold.ensures

pub reading-preserved-in-Byte : goal.reading-preserved-in-Byte
reading-preserved-in-Byte g c =
    let left = left_at_byte 5 c.args.t.now c.args.format.now c.reading.at c.in-Byte.byte (c.reading.at + 1) c.in-Byte.ensures.stands.1 in
    let bad = bad_at_byte c.args.t.now c.args.format.now c.reading.at c.in-Byte.byte (c.reading.at + 1) c.in-Byte.ensures.stands.1 in
    record {
      within = omega (arith, c.in-Byte.ensures.stands.0);
      bad = sym bad ∙ c.reading.invariant.bad;
      progress = rw (c.read_item-progress.ensures, c.byte_item.ensures) (rw left at c.reading.invariant.progress);
      steps = omega (arith, ap reads left, c.reading.invariant.steps, c.in-Byte.ensures.counted);
    }

pub returns-in-None-clause-steps : goal.returns-in-None-clause-steps
returns-in-None-clause-steps g c =
    let left = left_at_conversion 5 c.args.t.now c.args.format.now c.reading.at c.in-Conv.modifier c.in-Conv.letter _ c.in-Conv.next c.in-Conv.ensures.stands.2 in
    let cost = reads_none c.args.t.now (followed 4 c.args.t.now) c.in-Conv.modifier c.in-Conv.letter c.in-Conv.rank (followed_left 5 c.args.t.now c.args.format.now c.in-Conv.next) (seen c.reading.progress) (sym c.in-None.ensures.progress) in
    omega (arith, ap reads left, cost, c.reading.invariant.steps, c.in-Conv.ensures.counted, c.in-None.ensures.steps)

pub returns-in-None-clause-bound : goal.returns-in-None-clause-bound
returns-in-None-clause-bound g c = cost_most c.args.t.now c.args.format.now c.rules_hold.ensures

pub reading-preserved : goal.reading-preserved
reading-preserved g c =
    let p : Piece = Converted c.in-Conv.modifier c.in-Conv.letter c.in-Conv.rank in
    let follow = followed 4 c.args.t.now in
    let rest = followed_left 5 c.args.t.now c.args.format.now c.in-Conv.next in
    let left = left_at_conversion 5 c.args.t.now c.args.format.now c.reading.at c.in-Conv.modifier c.in-Conv.letter _ c.in-Conv.next c.in-Conv.ensures.stands.2 in
    let some = sym c.in-Some.ensures.progress in
    let cost = reads_some c.args.t.now follow c.in-Conv.modifier c.in-Conv.letter c.in-Conv.rank rest (seen c.reading.progress) (seen c.in-Some.further) some in
    let next = next_is c.args.t.now follow c.reading.at c.in-Conv.modifier c.in-Conv.letter c.in-Conv.rank c.in-Conv.next (drop c.reading.at c.args.format.now) (seen c.reading.progress) (seen c.in-Some.further) c.in-Conv.ensures.exact some in
    let bad = bad_at_known c.args.t.now c.args.format.now c.reading.at c.in-Conv.modifier c.in-Conv.letter c.in-Conv.rank c.in-Conv.next (seen c.reading.progress) (seen c.in-Some.further) c.in-Conv.ensures.stands.2 some next in
    record {
      within = c.in-Conv.ensures.stands.1;
      bad = sym bad ∙ c.reading.invariant.bad;
      progress = sym (conversion_some c.args.t.now follow p rest (seen c.reading.progress) (seen c.in-Some.further) some) ∙ (rw left at c.reading.invariant.progress);
      steps = omega (arith, ap reads left, cost, c.reading.invariant.steps, c.in-Conv.ensures.counted, c.in-Some.ensures.steps);
    }
