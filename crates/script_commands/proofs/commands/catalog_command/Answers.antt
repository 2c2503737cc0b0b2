use Rattle.std.proofs.Common.{length}
use Rattle.script_commands.proofs.commands.catalog_command.Goals as goal

pub returns-then-eq-clause-in_range : goal.returns-then-eq-clause-in_range
returns-then-eq-clause-in_range c = c.catopen_command.ensures.in_range (length c.args.scope.threads.now)
