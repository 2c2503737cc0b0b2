use Rattle.std.proofs.Common.{◌≡◌, ◌++◌, map, drop}
use Rattle.std.specs.List.{flat_map}
use Rattle.tool_script.specs.Commands.{lines_seen}
use Rattle.tool_script.specs.Explained.{explained_line}
use Rattle.tool_script.proofs.explained.push_lines.Given as goal

-- the lines so far, and those that are left
abbrev pub invariant-loop-line : goal.invariant-loop-line
invariant-loop-line l =
    l.out.items ++ flat_map (explained_line l.threads (map lines_seen l.commands)) (drop l.line-index l.lines)
    ≡ l.initial.out.items ++ flat_map (explained_line l.threads (map lines_seen l.commands)) l.lines
