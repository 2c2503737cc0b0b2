use Rattle.std.proofs.Common.{◌≡◌, ◌++◌, ◌≤◌, length, map}
use Rattle.lc_base.specs.Lines.{lines_of}
use Rattle.tool_script.specs.Commands.{command_lines, written, written_in, written_seen}
use Rattle.tool_script.proofs.commands.written_in.Given as goal

-- the commands so far, and those of the rest
abbrev pub invariant-loop-line : goal.invariant-loop-line
invariant-loop-line l = record {
  so_far : map written_seen l.those.items ++ written l.left (command_lines l.is_inside (lines_of l.rest)) ≡ written_in l.commands l.text;
  within : length l.rest ≤ length l.text;
}

abbrev pub decreases-loop-line : goal.decreases-loop-line
decreases-loop-line l = length l.rest
