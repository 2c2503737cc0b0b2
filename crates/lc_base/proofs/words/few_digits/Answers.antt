use Rattle.std.proofs.Common.{◌<◌, ◌^◌, IfSome, ℕ, Option, subst, sym, ◌∙◌, arith}
use Rattle.lc_base.proofs.NumberLemmas.{few_are_decimal, few_below}
use Rattle.lc_base.proofs.words.few_digits.Goals as goal

pub returns-clause-small : goal.returns-clause-small
returns-clause-small c = subst (λ (n : Option ℕ). IfSome n (λ n. n < 10 ^ c.args.most)) (sym (few_are_decimal c.args.most c.args.digits.now c.requires (omega arith)) ∙ sym c.decimal_number.ensures) (few_below c.args.most c.args.digits.now)
