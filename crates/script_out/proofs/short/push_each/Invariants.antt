use Rattle.std.proofs.Common.{◌≡◌, ◌++◌, take}
use Rattle.script_out.proofs.short.push_each.Given as goal

-- the bytes so far
abbrev pub invariant-loop-byte : goal.invariant-loop-byte
invariant-loop-byte l = l.out.items ≡ l.initial.out.items ++ take l.byte-index l.bytes
