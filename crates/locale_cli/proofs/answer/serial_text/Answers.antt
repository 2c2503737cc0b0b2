use Rattle.std.proofs.Common.{◌≡◌, ℕ, List, subst}
use Rattle.std.specs.Prelude.{IfOk}
use Rattle.script_out.specs.declared.output.OutLine.{OutLine}
use Rattle.script_out.specs.Output.{printed}
use Rattle.locale_cli.proofs.answer.serial_text.Goals as goal

pub returns : goal.returns
returns c =
    subst (λ (lines : List OutLine). IfOk c.print-text.result (λ (text : List ℕ). text ≡ printed lines c.args.plan.now.bundle.threads)) c.in_ok-lines.ensures.lines
    (subst (λ (names : List (List ℕ)). IfOk c.print-text.result (λ (text : List ℕ). text ≡ printed c.in_ok-lines.lines names)) c.threads.ensures c.print-text.ensures)
