use Rattle.std.proofs.Common.{◌≡◌, ℕ, ◌+◌, List, Err, sym, subst, arith}
use Rattle.std.proofs.lemmas.Result.{err_from_is_err_and}
use Rattle.time_cat.specs.Times.{TmValues}
use Rattle.time_cat.specs.Shown.{expanded}
use Rattle.strftime_fields.specs.Appending.{Appends}
use Rattle.strftime_fields.specs.Kept.{Growing}
use Rattle.strftime_fields.specs.Cost.{reads, cost}
use Rattle.strftime_fields.proofs.Bound.{cost_most}
use Rattle.strftime_fields.proofs.Counting.{counts_fault, cost_wrong, cost_right}
use Rattle.strftime_fields.proofs.Answering.{answers_bad, answers_text, answers_fault}
use Rattle.strftime_fields.proofs.text.strftime_counted.Goals as goal

pub returns-in_err-put_format-clause-answer : goal.returns-in_err-put_format-clause-answer
returns-in_err-put_format-clause-answer g c =
    let p = err_from_is_err_and c.from_residual-in_err-put_format.result c.from_residual-in_err-put_format.ensures.1 in
    rw (p.1, p.2) (answers_fault c.args.t.now c.args.tm.now c.args.format.now c.args.max _ c.put_format.new.out.items c.in_err-put_format.field-0.0 (sym c.in_default.ensures.is) c.in_ok-out.ensures.items (subst (λ (x : TmValues). Appends Growing c.args.max c.in_ok-out.out.items (expanded 5 c.args.t.now x c.args.format.now) c.put_format.new.out.items (Err c.in_err-put_format.field-0.0)) c.of.ensures c.in_err-put_format.ensures.text))

pub returns-clause-answer : goal.returns-clause-answer
returns-clause-answer g c =
    let added = rw (c.in_ok-out.ensures.items, c.of.ensures) at c.in_ok-put_format.ensures.text in
    rw c.from_vec.ensures (answers_text c.args.t.now c.args.tm.now c.args.format.now c.args.max c.put_format.new.out.items (sym c.in_default.ensures.is) added)

pub returns-in-Some-clause-answer : goal.returns-in-Some-clause-answer
returns-in-Some-clause-answer g c = answers_bad c.args.t.now c.args.tm.now c.args.format.now c.args.max c.in-Some.at (sym c.in-Some.ensures.is)

pub returns-in_err-put_format-clause-steps : goal.returns-in_err-put_format-clause-steps
returns-in_err-put_format-clause-steps g c =
    let p = err_from_is_err_and c.from_residual-in_err-put_format.result c.from_residual-in_err-put_format.ensures.1 in
    let right = cost_right c.args.t.now c.args.tm.now c.args.format.now c.args.max (sym c.in_default.ensures.is) in
    let read = rw (c.in_ok-out.ensures.items, c.of.ensures) at c.in_err-put_format.ensures.steps in
    let whole : c.bad_byte.new.steps + reads c.args.max 5 c.args.t.now c.args.tm.now 0 c.args.format.now ≡ c.args.steps.now + cost c.args.t.now c.args.tm.now c.args.format.now c.args.max = omega (arith, right, c.in_default.ensures.steps) in
    rw (p.1, p.2, sym whole) (counts_fault (List ℕ) c.in_err-put_format.field-0.0 _ _ read)

pub returns-clause-steps : goal.returns-clause-steps
returns-clause-steps g c =
    let right = cost_right c.args.t.now c.args.tm.now c.args.format.now c.args.max (sym c.in_default.ensures.is) in
    let read = rw (c.in_ok-out.ensures.items, c.of.ensures) at c.in_ok-put_format.ensures.steps in
    omega (arith, right, read, c.in_default.ensures.steps)

pub returns-in-Some-clause-steps : goal.returns-in-Some-clause-steps
returns-in-Some-clause-steps g c =
    let wrong = cost_wrong c.args.t.now c.args.tm.now c.args.format.now c.args.max c.in-Some.at (sym c.in-Some.ensures.is) in
    omega (arith, wrong, c.in-Some.ensures.steps)

pub returns-in_err-put_format-clause-bound : goal.returns-in_err-put_format-clause-bound
returns-in_err-put_format-clause-bound g c = cost_most c.args.t.now c.args.tm.now c.args.format.now c.args.max c.rules_hold.ensures

pub returns-in_err-out-clause-bound : goal.returns-in_err-out-clause-bound
returns-in_err-out-clause-bound g c = cost_most c.args.t.now c.args.tm.now c.args.format.now c.args.max c.rules_hold.ensures

pub returns-clause-bound : goal.returns-clause-bound
returns-clause-bound g c = cost_most c.args.t.now c.args.tm.now c.args.format.now c.args.max c.rules_hold.ensures

pub returns-in-Some-clause-bound : goal.returns-in-Some-clause-bound
returns-in-Some-clause-bound g c = cost_most c.args.t.now c.args.tm.now c.args.format.now c.args.max c.rules_hold.ensures
