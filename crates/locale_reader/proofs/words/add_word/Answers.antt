use Rattle.std.proofs.Common.{◌∙◌, ap}
use Rattle.std.specs.List.{list_any}
use Rattle.std.specs.Str.{bytes_eq}
use Rattle.locale_reader.proofs.WordLemmas.{inserted_is}
use Rattle.locale_reader.proofs.words.add_word.Goals as goal

pub returns : goal.returns
returns c = λ word. ap (list_any (λ w. bytes_eq w.items word)) c.in_ok-insert.ensures.keys ∙ inserted_is c.args.words.now.keys c.args.word word
