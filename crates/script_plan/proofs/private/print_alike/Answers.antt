use Rattle.script_plan.proofs.Printed.{printed_alike}
use Rattle.script_plan.proofs.private.print_alike.Goals as goal

pub returns : goal.returns
returns c = record { print_alike = printed_alike }
