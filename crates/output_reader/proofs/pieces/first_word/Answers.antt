use Rattle.std.proofs.Common.{sym, ◌∙◌}
use Rattle.output_reader.proofs.Cuts.{word_found, word_whole}
use Rattle.output_reader.proofs.pieces.first_word.Goals as goal

pub returns-in-Some-clause-back : goal.returns-in-Some-clause-back
returns-in-Some-clause-back c = λ word rest lacks behind is.
    rw (c.split_at.ensures.front, c.split_at.ensures.back) (word_found c.args.bytes.now word rest c.in-Some.at (sym c.first_at.ensures ∙ c.in-Some.is) lacks behind is)

pub returns-in-None-clause-back : goal.returns-in-None-clause-back
returns-in-None-clause-back c = λ word rest lacks behind is.
    word_whole c.args.bytes.now word rest (sym c.first_at.ensures ∙ c.in-None.is) lacks behind is
