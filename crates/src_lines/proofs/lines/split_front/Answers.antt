use Rattle.std.proofs.Common.{refl, ap, ◌∙◌, arith}
use Rattle.src_lines.specs.Logical.{Front, front}
use Rattle.src_lines.proofs.Splitting.{line_step, last_step}
use Rattle.src_lines.proofs.lines.split_front.Goals as goal

pub loop-part-init : goal.loop-part-init
unfolding front
loop-part-init c = record {
  is = rw (c.new-store.ensures.kept, c.new-store.ensures.draft) refl;
  room = omega (arith, c.new-store.ensures.room, c.requires.text_size);
  line = omega (arith, c.requires.text_size, c.requires.line_size);
}

pub loop-part-preserved : goal.loop-part-preserved
loop-part-preserved c =
    let s = c.loop-part.store in
    let new = c.take_line.new.store in
    let rest_is = line_step c.args.kind c.loop-part.heads c.loop-part.line s.kept s.draft c.loop-part.rest.now c.in-Some.part.now c.in-Some.after.now new.kept new.draft c.in_ok-more.field-0 _ c.in-Some.ensures.line c.loop-part.invariant.is c.in_ok-more.ensures.is c.in_ok-more.ensures.kept in
    record {
      is = rw c.in-Ok.is at rest_is;
      room = omega (arith, c.in_ok-more.ensures.room, c.in-Some.ensures.shorter, c.loop-part.invariant.room);
      line = omega (arith, c.in-Some.ensures.shorter, c.loop-part.invariant.line);
    }

pub returns-in-Err : goal.returns-in-Err
returns-in-Err c =
    let s = c.loop-part.store in
    let new = c.take_line.new.store in
    let rest_is = line_step c.args.kind c.loop-part.heads c.loop-part.line s.kept s.draft c.loop-part.rest.now c.in-Some.part.now c.in-Some.after.now new.kept new.draft c.in_ok-more.field-0 _ c.in-Some.ensures.line c.loop-part.invariant.is c.in_ok-more.ensures.is c.in_ok-more.ensures.kept in
    let front_is = rw c.in-Err.is at rest_is in
    record {
      lines = ap (λ (f : Front). f.lines) front_is;
      fault = ap (λ (f : Front). f.fault) front_is;
    }

pub returns : goal.returns
returns c =
    let s = c.loop-part.store in
    let new = c.end_line.new.store in
    let ended_is = rw c.in_ok-add.ensures.ok at c.in_ok-last.ensures.is in
    let same = rw c.in_ok-add.ensures.ok at c.in_ok-last.ensures.kept in
    let front_is = last_step c.args.kind c.loop-part.heads c.loop-part.line s.kept s.draft c.loop-part.rest.now new.kept new.draft c.in_ok-last.last _ (c.in_default.ensures.none refl) c.loop-part.invariant.is ended_is same in
    record {
      lines = ap (λ (f : Front). f.lines) front_is;
      fault = c.err.ensures.value ∙ ap (λ (f : Front). f.fault) front_is;
    }
