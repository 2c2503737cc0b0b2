use Rattle.std.proofs.Common.{◌≡◌, ◌+◌, ◌≤◌, ◌++◌, List, length, map}
use Rattle.std.specs.List.{AllByRecursion}
use Rattle.script_out.specs.declared.output.OutLine.{OutLine}
use Rattle.script_out.specs.Output.{line_text, printed}
use Rattle.output_reader.specs.Lines.{whole_lines, AreToldApart}
use Rattle.output_reader.specs.Ranges.{IsLine}
use Rattle.output_reader.proofs.Outputs.{AreLeft}
use Rattle.output_reader.proofs.output.read_output.Given as goal

abbrev pub invariant-loop-rest : goal.invariant-loop-rest
invariant-loop-rest l = record {
  are : AllByRecursion (IsLine l.threads) l.lines.items;
  lines : whole_lines l.text ≡ map (line_text l.threads) l.lines.items ++ whole_lines l.rest;
  parts : l.text ≡ printed l.lines.items l.threads ++ l.rest;
  number : l.number ≡ length l.lines.items + 1;
  on : (all : List OutLine) → AreToldApart l.threads all → l.text ≡ printed all l.threads → (later : List OutLine) × AreLeft l.threads all l.lines.items l.rest later;
  short : l.number + length l.rest ≤ length l.text + 1;
}

abbrev pub decreases-loop-rest : goal.decreases-loop-rest
decreases-loop-rest l = length l.rest
