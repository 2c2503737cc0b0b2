use Rattle.std.proofs.Common.{ap, ◌∙◌}
use Rattle.script_words.specs.declared.categories.CategoryArgument.TheVariants.{All}
use Rattle.script_wishes.specs.Wishes.{Asks, called}
use Rattle.script_wishes.proofs.wishes.wish_of_command.Goals as goal

pub returns-in-Post : goal.returns-in-Post
returns-in-Post c = rw c.in-Post.is (c.called-in-Post.ensures ∙ ap (λ (asks : Asks). called All asks) c.post_op.ensures)
