use Rattle.std.proofs.Common.{◌≡◌, ◌-◌, ◌≤◌, length, drop}
use Rattle.digit_groups.specs.Formats.{pieces, refusal, refusal_behind}
use Rattle.digit_groups.proofs.format.refusal.Given as goal

abbrev pub invariant-loop-at : goal.invariant-loop-at
invariant-loop-at g l = record {
  rest : refusal g.C.FormatConversion.lacks (pieces g.C.FormatConversion.conversion 0 0 l.format) l.values ≡ refusal_behind g.C.FormatConversion.lacks l.lacking (pieces g.C.FormatConversion.conversion 0 l.at (drop l.at l.format)) l.left;
  within : l.at ≤ length l.format;
}

abbrev pub decreases-loop-at : goal.decreases-loop-at
decreases-loop-at g l = length l.format - l.at
