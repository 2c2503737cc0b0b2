use Rattle.std.proofs.Common.{length}
use Rattle.script_commands.proofs.commands.shared_command.Goals as goal

pub returns-then-eq-clause-in_range : goal.returns-then-eq-clause-in_range
returns-then-eq-clause-in_range c = c.setlocale_command.ensures.in_range (length c.args.scope.threads.now)

pub returns-then-eq-2-clause-in_range : goal.returns-then-eq-2-clause-in_range
returns-then-eq-2-clause-in_range c = c.install_command.ensures.in_range (length c.args.scope.threads.now)
