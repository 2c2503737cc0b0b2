use Rattle.std.proofs.Common.{arith, rules}
use Rattle.std.proofs.lemmas.Grind.{common_steps}
use Rattle.script_words.specs.Words.{behind_front}
use Rattle.script_words.proofs.word.behind_front.Goals as goal

pub returns : goal.returns
unfolding behind_front
returns c = first_of (search rules, grind (arith, common_steps))
