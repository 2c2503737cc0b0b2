use Rattle.std.proofs.Common.{◌≡◌, ◌+◌, ◌^◌, ◌<◌, length}
use Rattle.src_lines.specs.Logical.{front_from, front}
use Rattle.lc_base.specs.Lines.{lines_of, ended}
use Rattle.src_lines.proofs.Splitting.{after_kept}
use Rattle.src_lines.proofs.lines.split_front.Given as goal

abbrev pub invariant-loop-part : goal.invariant-loop-part
invariant-loop-part l = record {
  is : after_kept l.store.kept (front_from l.kind l.heads l.store.draft l.line (lines_of (ended l.rest))) ≡ front l.text l.first_line l.kind;
  room : l.store.room + length l.rest < 2 ^ 31;
  line : l.line + length l.rest < 2 ^ 32;
}

abbrev pub decreases-loop-part : goal.decreases-loop-part
decreases-loop-part l = length l.rest
