use Rattle.std.proofs.Common.{◌∷◌, ◌++◌, refl, ap, sym, ◌∙◌}
use Rattle.std.proofs.lemmas.Result.{err_from_is_err_and}
use Rattle.output_reader.specs.Lines.{whole_lines}
use Rattle.output_reader.proofs.Outputs.{whole_ended, bare_unprinted, ended_unprinted, one_line_cut, one_line_ends}
use Rattle.output_reader.proofs.output.first_line.Goals as goal

pub returns-in_default-clause-unprinted : goal.returns-in_default-clause-unprinted
returns-in_default-clause-unprinted c = λ is some. bare_unprinted c.args.threads.now c.args.text.now (c.in_default.ensures.none refl) some

pub returns-in_err-line-clause-unprinted : goal.returns-in_err-line-clause-unprinted
returns-in_err-line-clause-unprinted c =
    let p = err_from_is_err_and c.from_residual.result c.from_residual.ensures.1 in
    rw (p.1, p.2) (λ is some. ended_unprinted c.args.threads.now c.args.text.now c.in-Some.bytes.now c.in-Some.rest.now c.in-Some.ensures.line (λ l fits text. cc (c.in_err-line.ensures.back l fits text, is)))

pub returns-clause-read : goal.returns-clause-read
returns-clause-read c = record {
  is = c.in_ok-line.ensures.read.0;
  lines = ap (λ t. whole_lines t) c.in-Some.ensures.line.parts ∙ whole_ended c.in-Some.bytes.now c.in-Some.rest.now c.in-Some.ensures.line.bare ∙ ap (λ t. t ∷ whole_lines c.in-Some.rest.now) (sym c.in_ok-line.ensures.read.1);
  parts = c.in-Some.ensures.line.parts ∙ ap (λ t. t ++ c.in-Some.rest.now) (sym c.in_ok-line.ensures.read.1);
}

pub returns-in_default-clause-back : goal.returns-in_default-clause-back
returns-in_default-clause-back c = λ l rest distinct fits one is. absurd (one_line_ends c.args.threads.now l c.args.text.now rest (c.in_default.ensures.none refl) one is)

pub returns-in_err-line-clause-back : goal.returns-in_err-line-clause-back
returns-in_err-line-clause-back c = λ l rest distinct fits one is.
    let cut = one_line_cut c.args.threads.now l c.args.text.now c.in-Some.bytes.now c.in-Some.rest.now rest c.in-Some.ensures.line one is in
    let p = err_from_is_err_and c.from_residual.result c.from_residual.ensures.1 in
    rw (p.1, p.2) (c.in_err-line.ensures.back l fits cut.0)

pub returns-clause-back : goal.returns-clause-back
returns-clause-back c = λ l rest distinct fits one is.
    let cut = one_line_cut c.args.threads.now l c.args.text.now c.in-Some.bytes.now c.in-Some.rest.now rest c.in-Some.ensures.line one is in
    ((c.in_ok-line.ensures.back l fits cut.0).1 distinct, cut.1)
