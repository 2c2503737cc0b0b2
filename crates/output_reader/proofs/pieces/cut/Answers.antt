use Rattle.std.proofs.Common.{ℕ, suc, List, take, drop, sym, subst, ◌∙◌, add-one}
use Rattle.output_reader.specs.Reading.{Lacks}
use Rattle.output_reader.proofs.Cuts.{IsCut, found_cut, none_found, never_lacks, cut_back}
use Rattle.output_reader.proofs.pieces.cut.Goals as goal

pub returns-in_default-clause-back : goal.returns-in_default-clause-back
returns-in_default-clause-back c = λ front rest lacks is.
    never_lacks front rest c.args.separator (subst (λ (t : List ℕ). Lacks t c.args.separator) is (none_found c.args.bytes.now c.args.separator (sym c.first_at.ensures ∙ c.in_default.is)))

pub returns-clause-read : goal.returns-clause-read
returns-clause-read c =
    let is : IsCut c.args.bytes.now c.args.separator (take c.in-Some.at c.args.bytes.now) (drop (suc c.in-Some.at) c.args.bytes.now) = found_cut c.args.bytes.now c.args.separator c.in-Some.at (sym c.first_at.ensures ∙ c.in-Some.is) in
    rw (c.split_at.ensures.front, c.split_at-2.ensures.back, add-one) (is.parts, is.lacks)

pub returns-clause-back : goal.returns-clause-back
returns-clause-back c = λ front rest lacks is.
    let there : IsCut c.args.bytes.now c.args.separator (take c.in-Some.at c.args.bytes.now) (drop (suc c.in-Some.at) c.args.bytes.now) = found_cut c.args.bytes.now c.args.separator c.in-Some.at (sym c.first_at.ensures ∙ c.in-Some.is) in
    rw (c.split_at.ensures.front, c.split_at-2.ensures.back, add-one) (cut_back c.args.bytes.now front rest _ _ c.args.separator there lacks is)
