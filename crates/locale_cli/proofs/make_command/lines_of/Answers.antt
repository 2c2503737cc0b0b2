use Rattle.std.proofs.Common.{rules}
use Rattle.locale_cli.proofs.Summaries.{run_like_serial}
use Rattle.locale_cli.proofs.make_command.lines_of.Goals as goal

pub returns : goal.returns
returns g c = run_like_serial c.print_alike.ensures.print_alike c.args.plan.now c.run.result (search rules) c.run.ensures.prints
