use Rattle.tool_messages.specs.Message.{BeginsWith}
use Rattle.tool_messages.proofs.fault.push_blank.Given as goal

-- what was there before
abbrev pub invariant-loop-byte : goal.invariant-loop-byte
invariant-loop-byte l = BeginsWith l.initial.out.items l.out.items
