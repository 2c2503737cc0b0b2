use Rattle.std.proofs.Common.{[], ◌∷◌, ◌++◌, ap, sym, ◌∙◌}
use Rattle.std.proofs.lemmas.Bool.Decides.{Decides-eqb}
use Rattle.std.proofs.lemmas.List.{append_cancel_right}
use Rattle.std.proofs.lemmas.Slice.Eq.{strip_suffix_is}
use Rattle.output_reader.proofs.Cuts.{suffix_read, suffix_none}
use Rattle.output_reader.proofs.line.is_ended.Goals as goal

pub returns-in-Some-clause-is : goal.returns-in-Some-clause-is
returns-in-Some-clause-is c = λ yes.
    suffix_read c.args.text.now (10 ∷ []) c.strip_suffix.result c.in-Some.line (strip_suffix_is Decides-eqb c.args.text.now (10 ∷ []) c.strip_suffix.result c.strip_suffix.ensures.cases) c.in-Some.is ∙ ap (λ l. l ++ 10 ∷ []) (c.is_word.ensures.is yes)

pub returns-in-Some-clause-back : goal.returns-in-Some-clause-back
returns-in-Some-clause-back c = λ is.
    let cut = suffix_read c.args.text.now (10 ∷ []) c.strip_suffix.result c.in-Some.line (strip_suffix_is Decides-eqb c.args.text.now (10 ∷ []) c.strip_suffix.result c.strip_suffix.ensures.cases) c.in-Some.is in
    c.is_word.ensures.back (append_cancel_right c.in-Some.line.now c.args.bytes.now (10 ∷ []) (sym cut ∙ is))

pub returns-in-None-clause-back : goal.returns-in-None-clause-back
returns-in-None-clause-back c = λ is.
    absurd (suffix_none c.args.text.now (10 ∷ []) c.strip_suffix.result (strip_suffix_is Decides-eqb c.args.text.now (10 ∷ []) c.strip_suffix.result c.strip_suffix.ensures.cases) c.in-None.is c.args.bytes.now is)
