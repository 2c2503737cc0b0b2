use Rattle.std.proofs.Common.{◌≡◌, ◌+◌, drop}
use Rattle.src_lines.specs.Words.{solid}
use Rattle.src_lines.proofs.words.solid.Given as goal

abbrev pub invariant-loop-i : goal.invariant-loop-i
invariant-loop-i l = l.i + solid (drop l.i l.bytes) ≡ solid l.bytes
