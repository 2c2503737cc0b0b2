use Rattle.std.proofs.Common.{◌∙◌}
use Rattle.locale_cli.proofs.Outputs.{answered, answered_fault}
use Rattle.locale_cli.proofs.answer.answer_to.Goals as goal

pub returns-in-Ok : goal.returns-in-Ok
returns-in-Ok g c = answered c.args.mode c.args.input.now c.in-Ok.text c.in-Ok.ensures

pub returns-in_ok-text-in-Err-At : goal.returns-in_ok-text-in-Err-At
returns-in_ok-text-in-Err-At g c =
    let fails = rw c.in-Err-At.field-0-is at c.in-Err-At.ensures in
    answered_fault c.args.mode c.args.input.now c.of.result c.in-Err-At.place c.in-Err-At.reason fails (c.of.ensures ∙ c.in_ok-text-in-Err-At.ensures)
