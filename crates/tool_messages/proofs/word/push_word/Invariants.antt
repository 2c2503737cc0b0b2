use Rattle.std.proofs.Common.{◌≡◌, ◌++◌, take}
use Rattle.tool_messages.specs.Shown.{shown_word}
use Rattle.tool_messages.proofs.word.push_word.Given as goal

-- the bytes so far
abbrev pub invariant-loop-byte : goal.invariant-loop-byte
invariant-loop-byte l = l.out.items ≡ l.initial.out.items ++ shown_word (take l.byte-index l.word)
