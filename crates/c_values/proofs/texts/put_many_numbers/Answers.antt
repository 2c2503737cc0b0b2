use Rattle.std.proofs.Common.{List, ap, ◌∙◌}
use Rattle.std.specs.Prelude.{ℤ}
use Rattle.int_format.specs.Ints.{ints}
use Rattle.shared_objects.specs.Objects.{numeric_in}
use Rattle.c_values.specs.Answers.{text_told}
use Rattle.c_values.proofs.TextLemmas.{first_most}
use Rattle.c_values.proofs.texts.put_many_numbers.Goals as goal

pub returns : goal.returns
returns c =
    c.put_ints.ensures
    ∙ ap (λ (l : List ℤ). text_told c.args.buffer.now (ints (numeric_in c.args.view.now) c.args.format.now l)) (c.numbers_given-given.ensures.same ∙ first_most c.args.numbers.now c.min.result c.min.ensures)
