use Rattle.std.proofs.Common.{◌≡◌, ◌+◌, drop}
use Rattle.src_lines.specs.Words.{blanks}
use Rattle.src_lines.proofs.words.blanks.Given as goal

abbrev pub invariant-loop-i : goal.invariant-loop-i
invariant-loop-i l = l.i + blanks (drop l.i l.bytes) ≡ blanks l.bytes
