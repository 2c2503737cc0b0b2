use Rattle.std.proofs.Common.{rules, ◌≡◌, ◌-◌, ◌≤◌, ◌∷◌, length, take, drop, get_or, refl, sym, ap, ◌∙◌, arith, length-drop, take_all}
use Rattle.std.proofs.lemmas.List.{drop-drop}
use Rattle.std.proofs.Math.Seq.{drop-cons}
use Rattle.time_cat.specs.Formats.{step, IsStep}
use Rattle.strftime_fields.specs.Going.{Place}
use Rattle.strftime_fields.specs.Reading.{IsShort, IsSeen, width}
use Rattle.strftime_fields.specs.declared.read.Seen.TheVariants.{Inner}
use Rattle.strftime_fields.proofs.Left.{stands_here, short_within}
use Rattle.strftime_fields.proofs.Counting.{counted_byte, counted_plain}
use Rattle.strftime_fields.proofs.Going.{goes_both, goes_nowhere, goes_short, goes_byte, goes_inner, moved}
use Rattle.strftime_fields.proofs.expand.put_pieces.Goals as goal
use Rattle.strftime_fields.proofs.expand.put_pieces.Goals.{in_default-via-then-rest-lt3, in_default-via-in-len3-up+else-byte-ne37}

-- where the reading begins
pub reading-init : goal.reading-init
reading-init g c = record {
  goes = rw c.held-text.ensures (goes_nowhere _ _ _ _ _ _ _ c.requires.stands);
  most = search rules;
  stop = omega (arith, c.if-limit-lt-MOST.false);
  short = rw c.held-text.ensures c.requires.short;
  room = rw c.held-text.ensures (search rules);
}

-- a piece that was told at first sight is no longer than what is left
pub slice_bounds-rest-count : goal.slice_bounds-rest-count
slice_bounds-rest-count g c =
    let p : Place = record { format = c.reading.left.format.now; rest = c.reading.rest.now; levels = c.reading.left.levels; whole = c.reading.left.whole } in
    let at = length p.format - length p.rest in
    let stands : IsStep p.format at (step at p.rest) = stands_here p.format p.rest at c.reading.invariant.goes.stands.left in
    omega (arith, short_within p.format at (step at p.rest) c.in-Added-Byte.field-0 stands (c.in-Added-Byte.ensures.piece at), ap width c.in-Added-Byte.field-0-is, c.reading.invariant.goes.stands.within)

pub slice_bounds-rest-start : goal.slice_bounds-rest-start
slice_bounds-rest-start g c =
    let p : Place = record { format = c.reading.left.format.now; rest = c.reading.rest.now; levels = c.reading.left.levels; whole = c.reading.left.whole } in
    let at = length p.format - length p.rest in
    let stands : IsStep p.format at (step at p.rest) = stands_here p.format p.rest at c.reading.invariant.goes.stands.left in
    omega (arith, short_within p.format at (step at p.rest) c.in-Added-Byte.field-0 stands (c.in-Added-Byte.ensures.piece at), ap width c.in-Added-Byte.field-0-is, c.reading.invariant.goes.stands.within)

pub slice_bounds-rest-count-in_default : goal.slice_bounds-rest-count-in_default
slice_bounds-rest-count-in_default g c =
    let p : Place = record { format = c.reading.left.format.now; rest = c.reading.rest.now; levels = c.reading.left.levels; whole = c.reading.left.whole } in
    let at = length p.format - length p.rest in
    let stands : IsStep p.format at (step at p.rest) = stands_here p.format p.rest at c.reading.invariant.goes.stands.left in
    omega (arith, short_within p.format at (step at p.rest) c.in-Added-Plain.field-0 stands (c.in-Added-Plain.ensures.piece at), ap width c.in-Added-Plain.field-0-is, c.reading.invariant.goes.stands.within)

pub slice_bounds-rest-start-in_default : goal.slice_bounds-rest-start-in_default
slice_bounds-rest-start-in_default g c =
    let p : Place = record { format = c.reading.left.format.now; rest = c.reading.rest.now; levels = c.reading.left.levels; whole = c.reading.left.whole } in
    let at = length p.format - length p.rest in
    let stands : IsStep p.format at (step at p.rest) = stands_here p.format p.rest at c.reading.invariant.goes.stands.left in
    omega (arith, short_within p.format at (step at p.rest) c.in-Added-Plain.field-0 stands (c.in-Added-Plain.ensures.piece at), ap width c.in-Added-Plain.field-0-is, c.reading.invariant.goes.stands.within)

pub reading-smaller-in-Byte-1 : goal.reading-smaller-in-Byte-1
reading-smaller-in-Byte-1 g c =
    let p : Place = record { format = c.reading.left.format.now; rest = c.reading.rest.now; levels = c.reading.left.levels; whole = c.reading.left.whole } in
    let at = length p.format - length p.rest in
    let stands : IsStep p.format at (step at p.rest) = stands_here p.format p.rest at c.reading.invariant.goes.stands.left in
    omega (arith, short_within p.format at (step at p.rest) c.in-Added-Byte.field-0 stands (c.in-Added-Byte.ensures.piece at), ap width c.in-Added-Byte.field-0-is, c.reading.invariant.goes.stands.within, ap length (take_all (length c.reading.rest.now - 1) (drop 1 c.reading.rest.now) (omega (arith, length-drop 1 c.reading.rest.now))), length-drop 1 c.reading.rest.now)

pub reading-smaller-in_default : goal.reading-smaller-in_default
reading-smaller-in_default g c =
    let p : Place = record { format = c.reading.left.format.now; rest = c.reading.rest.now; levels = c.reading.left.levels; whole = c.reading.left.whole } in
    let at = length p.format - length p.rest in
    let stands : IsStep p.format at (step at p.rest) = stands_here p.format p.rest at c.reading.invariant.goes.stands.left in
    omega (arith, short_within p.format at (step at p.rest) c.in-Added-Plain.field-0 stands (c.in-Added-Plain.ensures.piece at), ap width c.in-Added-Plain.field-0-is, c.reading.invariant.goes.stands.within, ap length (take_all (length c.reading.rest.now - 2) (drop 2 c.reading.rest.now) (omega (arith, length-drop 2 c.reading.rest.now))), length-drop 2 c.reading.rest.now)

-- a byte
pub reading-preserved-in-Byte-1 : goal.reading-preserved-in-Byte-1
reading-preserved-in-Byte-1 g c =
    let p : Place = record { format = c.reading.left.format.now; rest = c.reading.rest.now; levels = c.reading.left.levels; whole = c.reading.left.whole } in
    let at = length p.format - length p.rest in
    let short = c.in-Added-Byte.field-0 in
    let wide : width short ≡ 1 = ap width c.in-Added-Byte.field-0-is in
    let cut : take (length c.reading.rest.now - 1) (drop 1 c.reading.rest.now) ≡ drop (width short) c.reading.rest.now = rw wide (take_all (length c.reading.rest.now - 1) (drop 1 c.reading.rest.now) (omega (arith, length-drop 1 c.reading.rest.now))) in
    let fits : length (g.O.Output.text c.reading.text c.reading.lent) ≤ c.args.max = c.reading.invariant.short in
    let piece : IsShort at (step at p.rest) short = c.in-Added-Byte.ensures.piece at in
    let none = counted_byte at (step at p.rest) short c.in-Added-Byte.field-0-0 piece c.in-Added-Byte.field-0-is in
    let goes = goes_short _ c.args.max c.args.t.now c.args.tm.now (g.O.Output.text c.reading.text c.reading.lent) (g.O.Output.text c.put_piece.new.out c.put_piece.new.lent) c.reading.steps c.reading.steps p _ short c.reading.invariant.goes.stands piece c.in-Added-Byte.ensures.formatless fits c.in-Added-Byte.ensures.text (omega (arith, none)) cut in
    record {
      goes = goes_both _ _ _ _ _ _ _ _ _ _ _ _ _ c.reading.invariant.goes goes;
      most = c.reading.invariant.most;
      stop = c.reading.invariant.stop;
      short = omega (arith, c.put_piece.ensures.short, c.is_within.ensures c.reading-test.true, c.reading.invariant.stop, c.reading.invariant.most);
      room = omega (arith, c.put_piece.ensures.room, c.reading.invariant.room);
    }

-- a conversion, and a byte behind it
pub reading-preserved-in-len3-up : goal.reading-preserved-in-len3-up
reading-preserved-in-len3-up g c =
    let p : Place = record { format = c.reading.left.format.now; rest = c.reading.rest.now; levels = c.reading.left.levels; whole = c.reading.left.whole } in
    let at = length p.format - length p.rest in
    let short = c.in-Added-Plain.field-0 in
    let wide : width short ≡ 2 = ap width c.in-Added-Plain.field-0-is in
    let fits : length (g.O.Output.text c.reading.text c.reading.lent) ≤ c.args.max = c.reading.invariant.short in
    let piece : IsShort at (step at p.rest) short = c.in-Added-Plain.ensures.piece at in
    let one = counted_plain at (step at p.rest) short c.in-Added-Plain.field-0-0 c.in-Added-Plain.field-0-1 piece c.in-Added-Plain.field-0-is in
    let goes = goes_short _ c.args.max c.args.t.now c.args.tm.now (g.O.Output.text c.reading.text c.reading.lent) (g.O.Output.text c.put_piece.new.out c.put_piece.new.lent) c.reading.steps c.tick.new.self p (drop 2 p.rest) short c.reading.invariant.goes.stands piece c.in-Added-Plain.ensures.formatless fits c.in-Added-Plain.ensures.text (omega (arith, one, c.tick.ensures)) (rw wide refl) in
    let long : 3 ≤ length c.reading.rest.now = c.in-len3-up.len_at_least in
    let begins : drop 2 c.reading.rest.now ≡ get_or c.reading.rest.now 2 0 ∷ drop 3 c.reading.rest.now = drop-cons c.reading.rest.now 2 0 (omega (arith, long)) in
    let within : length (g.O.Output.text c.put_piece.new.out c.put_piece.new.lent) ≤ c.args.max = omega (arith, c.put_piece.ensures.short, c.is_within.ensures c.reading-test.true, c.reading.invariant.stop, c.reading.invariant.most) in
    let cut : take (length c.reading.rest.now - 3) (drop 3 c.reading.rest.now) ≡ drop 1 (drop 2 c.reading.rest.now) = take_all (length c.reading.rest.now - 3) (drop 3 c.reading.rest.now) (omega (arith, length-drop 3 c.reading.rest.now)) ∙ sym (drop-drop 1 2 c.reading.rest.now) in
    let more = goes_byte _ c.args.max c.args.t.now c.args.tm.now (g.O.Output.text c.put_piece.new.out c.put_piece.new.lent) (g.O.Output.text c.put_within.new.self c.put_within.new.lent) c.tick.new.self (moved p (drop 2 p.rest)) _ (get_or c.reading.rest.now 2 0) (drop 3 c.reading.rest.now) goes.stands begins c.if-byte-ne37.true within c.put_within.ensures.text cut in
    record {
      goes = goes_both _ _ _ _ _ _ _ _ _ _ _ _ _ c.reading.invariant.goes (goes_both _ _ _ _ _ _ _ _ _ _ _ _ _ goes more);
      most = c.reading.invariant.most;
      stop = c.reading.invariant.stop;
      short = omega (arith, c.put_piece.ensures.short, c.put_within.ensures.long, c.is_within.ensures c.reading-test.true, c.reading.invariant.stop, c.reading.invariant.most);
      room = omega (arith, c.put_piece.ensures.room, c.put_within.ensures.room, c.reading.invariant.room);
    }

-- a conversion
pub reading-preserved-in_default : goal.reading-preserved-in_default
reading-preserved-in_default g c =
    let p : Place = record { format = c.reading.left.format.now; rest = c.reading.rest.now; levels = c.reading.left.levels; whole = c.reading.left.whole } in
    let at = length p.format - length p.rest in
    let short = c.in-Added-Plain.field-0 in
    let wide : width short ≡ 2 = ap width c.in-Added-Plain.field-0-is in
    let cut : take (length c.reading.rest.now - 2) (drop 2 c.reading.rest.now) ≡ drop (width short) c.reading.rest.now = rw wide (take_all (length c.reading.rest.now - 2) (drop 2 c.reading.rest.now) (omega (arith, length-drop 2 c.reading.rest.now))) in
    let fits : length (g.O.Output.text c.reading.text c.reading.lent) ≤ c.args.max = c.reading.invariant.short in
    let piece : IsShort at (step at p.rest) short = c.in-Added-Plain.ensures.piece at in
    let one = counted_plain at (step at p.rest) short c.in-Added-Plain.field-0-0 c.in-Added-Plain.field-0-1 piece c.in-Added-Plain.field-0-is in
    let goes = goes_short _ c.args.max c.args.t.now c.args.tm.now (g.O.Output.text c.reading.text c.reading.lent) (g.O.Output.text c.put_piece.new.out c.put_piece.new.lent) c.reading.steps c.tick.new.self p _ short c.reading.invariant.goes.stands piece c.in-Added-Plain.ensures.formatless fits c.in-Added-Plain.ensures.text (omega (arith, one, c.tick.ensures)) cut in
    record {
      goes = goes_both _ _ _ _ _ _ _ _ _ _ _ _ _ c.reading.invariant.goes goes;
      most = c.reading.invariant.most;
      stop = c.reading.invariant.stop;
      short = omega (arith, c.put_piece.ensures.short, c.is_within.ensures c.reading-test.true, c.reading.invariant.stop, c.reading.invariant.most);
      room = omega (arith, c.put_piece.ensures.room, c.reading.invariant.room);
    }

-- a format of the locale that ends this one
pub reading-preserved : goal.reading-preserved
reading-preserved g c =
    let p : Place = record { format = c.reading.left.format.now; rest = c.reading.rest.now; levels = c.reading.left.levels; whole = c.reading.left.whole } in
    let at = length p.format - length p.rest in
    let fits : length (g.O.Output.text c.reading.text c.reading.lent) ≤ c.args.max = c.reading.invariant.short in
    let seen : IsSeen at (step at p.rest) (Inner c.in-Inner.key) = c.in-Inner.ensures.piece at in
    let same : (g.O.Output.text c.put_piece.new.out c.put_piece.new.lent) ≡ (g.O.Output.text c.reading.text c.reading.lent) = c.in-Inner.ensures.text in
    let goes = goes_inner _ c.args.max c.args.t.now c.args.tm.now (g.O.Output.text c.reading.text c.reading.lent) c.reading.steps c.tick-in-Inner.new.self p c.text-rest.result.now c.in-Inner.key c.reading.invariant.goes.stands seen fits c.if-rest-eq2.true c.if-left-gt1.true c.text-rest.ensures.is c.tick-in-Inner.ensures (omega arith) in
    record {
      goes = rw same (goes_both _ _ _ _ _ _ _ _ _ _ _ _ _ c.reading.invariant.goes goes);
      most = c.reading.invariant.most;
      stop = c.reading.invariant.stop;
      short = omega (arith, c.put_piece.ensures.short, c.is_within.ensures c.reading-test.true, c.reading.invariant.stop, c.reading.invariant.most);
      room = omega (arith, c.put_piece.ensures.room, c.reading.invariant.room);
    }
