use Rattle.std.proofs.Common.{◌≡◌, ◌+◌, ◌++◌, length, take}
use Rattle.std.specs.Vec.{vec_capacity}
use Rattle.strftime_fields.proofs.growing.push_all.Given as goal

-- the bytes so far are added, and there is room for the others
abbrev pub invariant-loop-byte : goal.invariant-loop-byte
invariant-loop-byte l = record {
  text : l.out.items ≡ l.fn.out.items ++ take l.byte-index l.bytes;
  long : length l.out.items ≡ length l.fn.out.items + l.byte-index;
  room : vec_capacity l.out ≡ vec_capacity l.fn.out;
}
