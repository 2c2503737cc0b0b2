use Rattle.std.proofs.Common.{◌≡◌, Some, None, arith, ◌∙◌}
use Rattle.std.proofs.lemmas.Grind.{common_steps}
use Rattle.digit_groups.specs.Numbers.{number_behind, leading_number}
use Rattle.digit_groups.proofs.NumberLemmas.{leading_number_is}
use Rattle.digit_groups.proofs.number.leading_number.Goals as goal

pub returns-then-value-gt255-clause-value : goal.returns-then-value-gt255-clause-value
unfolding number_behind
returns-then-value-gt255-clause-value c =
    let none : None ≡ leading_number c.args.bytes.now = grind (arith, common_steps) in
    none ∙ leading_number_is c.args.bytes.now

pub returns-clause-value : goal.returns-clause-value
unfolding number_behind
returns-clause-value c =
    let some : Some (c.loop-byte.value, c.loop-byte.count) ≡ leading_number c.args.bytes.now = grind (arith, common_steps) in
    some ∙ leading_number_is c.args.bytes.now
