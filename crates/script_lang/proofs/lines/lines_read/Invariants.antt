use Rattle.std.proofs.Common.{◌≡◌, ◌+◌, ◌≤◌, ◌<◌, ◌^◌, length}
use Rattle.std.specs.Option.{option_copied}
use Rattle.lc_base.specs.Lines.{lines_of}
use Rattle.script_lang.specs.Reading.{lines_read}
use Rattle.script_lang.specs.Kept.{begun_size, IsReading}
use Rattle.script_lang.proofs.lines.lines_read.Given as goal

-- what the rest gives; each line has a number, and a block takes no more than what was read
abbrev pub invariant-loop-line : goal.invariant-loop-line
invariant-loop-line l = record {
  so_far : lines_read (option_copied l.known) l.reading l.number (lines_of l.rest) ≡ lines_read (option_copied l.known) l.fn.first 1 (lines_of l.text);
  some : 0 < l.number;
  number : l.number + length l.rest ≤ 2 ^ 31;
  kept : IsReading (begun_size l.reading.begun) l.reading;
  size : 0 < length l.rest → begun_size l.reading.begun + length l.rest ≤ 2 ^ 31;
}

abbrev pub decreases-loop-line : goal.decreases-loop-line
decreases-loop-line l = length l.rest
