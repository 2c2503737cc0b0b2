use Rattle.std.proofs.Common.{List, map, ap, ◌∙◌}
use Rattle.lc_base.specs.Amounts.{MoneyAmount}
use Rattle.strfmon.specs.Money.{money_text}
use Rattle.shared_objects.specs.Objects.{monetary_in}
use Rattle.c_values.specs.declared.amounts.LobjAmount.{LobjAmount}
use Rattle.c_values.specs.Answers.{amount_of, text_told}
use Rattle.c_values.proofs.TextLemmas.{first_most}
use Rattle.c_values.proofs.texts.put_many_amounts.Goals as goal

pub returns : goal.returns
returns c =
    c.put_money.ensures
    ∙ ap (λ (l : List MoneyAmount). text_told c.args.buffer.now (money_text (monetary_in c.args.view.now) c.args.format.now l))
    (c.amounts_given-given.ensures ∙ ap (λ (l : List LobjAmount). map amount_of l) (first_most c.args.amounts.now c.min.result c.min.ensures))
