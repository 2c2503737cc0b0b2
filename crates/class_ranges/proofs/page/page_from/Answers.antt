use Rattle.std.proofs.Common.{ℕ, Bool}
use Rattle.class_ranges.specs.Ranges.{covers}
use Rattle.class_ranges.proofs.Words.{four_words}
use Rattle.class_ranges.proofs.page.page_from.Goals as goal

pub returns : goal.returns
returns c =
    let test : ℕ → Bool = λ w. covers c.args.ranges.now w in
    four_words test c.args.first c.word_from.result c.word_from-2.result c.word_from-3.result c.word_from-4.result c.word_from.ensures c.word_from-2.ensures c.word_from-3.ensures c.word_from-4.ensures
