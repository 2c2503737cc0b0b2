use Rattle.locale_cli.proofs.Summaries.{line_of}
use Rattle.locale_cli.proofs.make_command.made_line.Goals as goal

pub returns : goal.returns
returns g c =
    line_of c.args.commands c.args.plan.now c.bundle.result.now c.threads.result.now c.in_ok-lines.lines c.summary.result
    c.bundle.ensures.bundle c.threads.ensures c.in_ok-lines.ensures c.summary.ensures
