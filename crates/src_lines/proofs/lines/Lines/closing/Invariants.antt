use Rattle.std.proofs.Common.{◌≡◌, ℕ, ◌<◌, ◌≤◌, false}
use Rattle.src_lines.specs.Places.{line_at, closes_line}
use Rattle.src_lines.proofs.lines.Lines.closing.Given as goal

abbrev pub invariant-loop-i : goal.invariant-loop-i
invariant-loop-i l = (k : ℕ) → l.start ≤ k → k < l.i → closes_line l.name (line_at l.self k) ≡ false
