use Rattle.std.proofs.Common.{◌∙◌}
use Rattle.locale_reader.proofs.WordLemmas.{found_is}
use Rattle.locale_reader.proofs.words.has_word.Goals as goal

pub returns : goal.returns
returns c = c.contains.ensures ∙ found_is c.args.words.now.keys c.args.word.now
