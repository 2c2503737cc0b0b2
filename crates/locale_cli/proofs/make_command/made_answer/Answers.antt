use Rattle.std.proofs.Common.{Ok, ap, sym, ◌∙◌}
use Rattle.locale_cli.specs.Made.{made_text}
use Rattle.locale_cli.proofs.Making.{made_ok, made_fault}
use Rattle.locale_cli.proofs.make_command.made_answer.Goals as goal

pub returns-in-Ok : goal.returns-in-Ok
returns-in-Ok g c = made_ok (made_text c.args.seed c.args.commands) c.of.result (c.in-Ok.ensures ∙ ap Ok (sym c.of.ensures))

pub returns-in_ok-text-in-Err-At : goal.returns-in_ok-text-in-Err-At
returns-in_ok-text-in-Err-At g c =
    let fails = rw c.in-Err-At.field-0-is at c.in-Err-At.ensures in
    made_fault (made_text c.args.seed c.args.commands) c.of-in-Err-At.result c.in-Err-At.place c.in-Err-At.reason fails (c.of-in-Err-At.ensures ∙ c.in_ok-text-in-Err-At.ensures)
