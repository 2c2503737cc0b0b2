use Rattle.std.proofs.Common.{length}
use Rattle.script_commands.proofs.commands.own_read_command.Goals as goal

pub returns-then-eq-clause-in_range : goal.returns-then-eq-clause-in_range
returns-then-eq-clause-in_range c = c.read_command.ensures.in_range (length c.args.scope.threads.now)

pub returns-then-eq-2-clause-in_range : goal.returns-then-eq-2-clause-in_range
returns-then-eq-2-clause-in_range c = c.read_command-then-eq-2.ensures.in_range (length c.args.scope.threads.now)

pub returns-then-eq-3-clause-in_range : goal.returns-then-eq-3-clause-in_range
returns-then-eq-3-clause-in_range c = c.read_command-then-eq-3.ensures.in_range (length c.args.scope.threads.now)

pub returns-then-eq-4-clause-in_range : goal.returns-then-eq-4-clause-in_range
returns-then-eq-4-clause-in_range c = c.read_command-then-eq-4.ensures.in_range (length c.args.scope.threads.now)

pub returns-then-eq-5-clause-in_range : goal.returns-then-eq-5-clause-in_range
returns-then-eq-5-clause-in_range c = c.read_command-then-eq-5.ensures.in_range (length c.args.scope.threads.now)

pub returns-then-eq-6-clause-in_range : goal.returns-then-eq-6-clause-in_range
returns-then-eq-6-clause-in_range c = c.read_command-then-eq-6.ensures.in_range (length c.args.scope.threads.now)

pub returns-then-eq-7-clause-in_range : goal.returns-then-eq-7-clause-in_range
returns-then-eq-7-clause-in_range c = c.read_command-then-eq-7.ensures.in_range (length c.args.scope.threads.now)

pub returns-then-eq-8-clause-in_range : goal.returns-then-eq-8-clause-in_range
returns-then-eq-8-clause-in_range c = c.read_command-then-eq-8.ensures.in_range (length c.args.scope.threads.now)

pub returns-then-eq-9-clause-in_range : goal.returns-then-eq-9-clause-in_range
returns-then-eq-9-clause-in_range c = c.read_command-then-eq-9.ensures.in_range (length c.args.scope.threads.now)
