use Rattle.tool_messages.specs.Message.{BeginsWith}
use Rattle.tool_check.proofs.told_once.push_new.Given as goal

-- what was added so far stands behind what was there
abbrev pub invariant-loop : goal.invariant-loop
invariant-loop l = BeginsWith l.fn.out.items l.out.items
