use Rattle.std.proofs.Common.{◌≡◌, ◌+◌, ◌≤◌, length}
use Rattle.library_parts.specs.Lines.{line_count}
use Rattle.library_parts.proofs.lines.line_count.Given as goal

-- the lines so far, with those to come
abbrev pub invariant-loop-following : goal.invariant-loop-following
invariant-loop-following l = record {
  whole : l.count + line_count l.rest ≡ line_count l.text;
  few : l.count + length l.rest ≤ length l.text;
}

abbrev pub decreases-loop-following : goal.decreases-loop-following
decreases-loop-following l = length l.rest
