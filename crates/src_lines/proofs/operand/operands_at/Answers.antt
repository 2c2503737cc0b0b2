use Rattle.std.proofs.Common.{◌≡◌, suc, ◌-◌, ◌+◌, ◌≤◌, length, sym, ◌∙◌, arith}
use Rattle.std.proofs.lemmas.Result.{err_from_is_err_and}
use Rattle.src_lines.specs.Rows.{line_of}
use Rattle.src_lines.specs.Places.{place_at}
use Rattle.src_lines.specs.Atoms.{items_from}
use Rattle.src_lines.specs.Tokens.{next_place}
use Rattle.src_lines.proofs.Operands.{next_place_is, operands_last, operands_more, operands_fail, operands_over}
use Rattle.src_lines.proofs.operand.operands_at.Goals as goal

pub returns-in_err-operand : goal.returns-in_err-operand
returns-in_err-operand c =
    let p = err_from_is_err_and c.from_residual.result c.from_residual.ensures.1 in
    let left : 65536 - c.loop.counter ≡ suc (65536 - (c.loop.counter + 1)) = omega arith in
    rw (p.1, p.2) (operands_fail c.in_err-operand.field-0.0 _ _ c.loop.found.items _ _ _ _ left c.skip_blanks-at.ensures.is c.loop.invariant.is c.in_err-operand.ensures.is)

pub returns-in-None : goal.returns-in-None
returns-in-None c =
    let l = line_of c.args.row.now in
    let at = c.skip_blanks-at.result in
    let left : 65536 - c.loop.counter ≡ suc (65536 - (c.loop.counter + 1)) = omega arith in
    let here : at ≤ at = omega arith in
    let place : next_place (place_at l (length l.bytes)) (items_from l at) ≡ c.place.result =
    next_place_is l at c.skip_blanks-at.ensures.within ∙ sym (c.advanced-mark.ensures.same at here ∙ c.loop.invariant.same at c.skip_blanks-at.ensures.forward) ∙ c.advanced-mark.ensures.here ∙ sym c.place.ensures in
    let last = rw c.in-None.is at c.in_ok-operand.ensures.is in
    rw c.in_ok-push.ensures.items (sym c.loop.invariant.is ∙ operands_last _ _ c.loop.found.items _ c.place.result _ _ c.in_ok-operand.operand left c.skip_blanks-at.ensures.is place last)

pub loop-preserved : goal.loop-preserved
loop-preserved c =
    let l = line_of c.args.row.now in
    let at = c.skip_blanks-at.result in
    let left : 65536 - c.loop.counter ≡ suc (65536 - (c.loop.counter + 1)) = omega arith in
    let here : at ≤ at = omega arith in
    let place : next_place (place_at l (length l.bytes)) (items_from l at) ≡ c.place.result =
    next_place_is l at c.skip_blanks-at.ensures.within ∙ sym (c.advanced-mark.ensures.same at here ∙ c.loop.invariant.same at c.skip_blanks-at.ensures.forward) ∙ c.advanced-mark.ensures.here ∙ sym c.place.ensures in
    let more = rw c.in-Some.is at c.in_ok-operand.ensures.is in
    let within = rw c.in-Some.is at c.in_ok-operand.ensures.within in
    let forward = rw c.in-Some.is at c.in_ok-operand.ensures.forward in
    let one = operands_more _ _ c.loop.found.items _ c.place.result _ _ _ c.in_ok-operand.operand left c.skip_blanks-at.ensures.is place more in
    record {
      within = within;
      reached = omega (arith, forward, c.advanced-mark.ensures.reached);
      same = λ m le. c.advanced-mark.ensures.same m (omega (arith, forward, le)) ∙ c.loop.invariant.same m (omega (arith, forward, le, c.skip_blanks-at.ensures.forward));
      is = rw c.in_ok-push.ensures.items (sym one ∙ c.loop.invariant.is);
    }

pub returns : goal.returns
returns c =
    let l = line_of c.args.row.now in
    let over : 65536 - c.loop.counter ≡ 0 = omega arith in
    operands_over c.too_many.result _ c.loop.found.items _ _ _ _ _ over c.skip_blanks.ensures.is (next_place_is l c.skip_blanks.result c.skip_blanks.ensures.within) c.loop.invariant.is c.too_many.ensures
