use Rattle.std.proofs.Common.{◌≡◌, ◌+◌, ◌/◌, ◌≤◌, arith}
use Rattle.digit_groups.specs.Digits.{digit_count}
use Rattle.digit_groups.proofs.CountLemmas.{some_digits, few_digits, four_more_digits}
use Rattle.digit_groups.proofs.digits.digit_count.Goals as goal

pub overflow_add-count : goal.overflow_add-count
overflow_add-count c =
    let few : digit_count c.args.n ≤ 20 = few_digits c.args.n (omega arith) in
    omega (arith, c.loop-left.invariant)

pub loop-left-preserved : goal.loop-left-preserved
loop-left-preserved c =
    let more : digit_count c.loop-left.left ≡ digit_count (c.loop-left.left / 10000) + 4 = four_more_digits c.loop-left.left (omega arith) in
    omega (arith, c.loop-left.invariant)

pub returns-clause-is : goal.returns-clause-is
returns-clause-is c = omega (arith, c.loop-left.invariant, c.short_count.ensures)

pub returns-clause-some : goal.returns-clause-some
returns-clause-some c =
    let some : 1 ≤ digit_count c.args.n = some_digits c.args.n in
    omega (arith, c.loop-left.invariant, c.short_count.ensures)

pub returns-clause-few : goal.returns-clause-few
returns-clause-few c =
    let few : digit_count c.args.n ≤ 20 = few_digits c.args.n (omega arith) in
    omega (arith, c.loop-left.invariant, c.short_count.ensures)

pub overflow_add-result : goal.overflow_add-result
overflow_add-result c =
    let few : digit_count c.args.n ≤ 20 = few_digits c.args.n (omega arith) in
    omega (arith, c.loop-left.invariant, c.short_count.ensures)
