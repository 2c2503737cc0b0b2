use Rattle.std.proofs.Common.{◌≡◌, ◌-◌, ◌≤◌, [], length, drop}
use Rattle.locale_reader.specs.Source.{sections_of}
use Rattle.locale_reader.proofs.locale.sections_of.Given as goal

abbrev pub invariant-loop-i : goal.invariant-loop-i
invariant-loop-i l = record {
  within : l.i ≤ length l.lines;
  so_far : sections_of l.charset l.sections.items 0 (drop l.i l.lines) ≡ sections_of l.charset [] 0 l.lines;
}

abbrev pub decreases-loop-i : goal.decreases-loop-i
decreases-loop-i l = length l.lines - l.i
