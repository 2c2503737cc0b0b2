use Rattle.std.proofs.Common.{◌≡◌, ◌++◌, ap, ◌∙◌}
use Rattle.std.proofs.lemmas.Result.{err_from_is_err_and}
use Rattle.script_out.specs.Output.{line_text}
use Rattle.output_reader.proofs.Giving.{false_true}
use Rattle.output_reader.proofs.line.line.Goals as goal

pub returns-in_err-line-clause-back : goal.returns-in_err-line-clause-back
returns-in_err-line-clause-back c = λ l fits is.
    let p = err_from_is_err_and c.from_residual.result c.from_residual.ensures.1 in
    rw (p.1, p.2) (c.in_err-line.ensures.back l fits is)

pub returns-then-is_ended-clause-back : goal.returns-then-is_ended-clause-back
returns-then-is_ended-clause-back c = λ l fits is. c.in_ok-line.ensures.back l fits is

pub returns-else-is_ended-clause-back : goal.returns-else-is_ended-clause-back
returns-else-is_ended-clause-back c = λ l fits is.
    let same : line_text c.args.threads.now c.in_ok-line.line ≡ line_text c.args.threads.now l = (c.in_ok-line.ensures.back l fits is).0 in
    absurd (false_true (c.if-is_ended.ensures.back (c.as_slice.ensures.value ∙ c.in_ok-push_line.ensures ∙ ap (λ t. t ++ line_text c.args.threads.now c.in_ok-line.line) c.new-text.ensures.items ∙ same ∙ is)))
