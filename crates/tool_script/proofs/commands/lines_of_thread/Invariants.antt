use Rattle.std.proofs.Common.{◌≡◌, ◌++◌, map, drop}
use Rattle.tool_script.specs.Commands.{lines_of_thread, line_seen, written_seen}
use Rattle.tool_script.proofs.commands.lines_of_thread.Given as goal

-- those so far, and those among the commands that are left
abbrev pub invariant-loop-command : goal.invariant-loop-command
invariant-loop-command l =
    map line_seen l.lines.items ++ lines_of_thread l.thread (map written_seen (drop l.command-index l.written)) ≡ lines_of_thread l.thread (map written_seen l.written)
