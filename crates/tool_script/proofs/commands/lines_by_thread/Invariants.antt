use Rattle.std.proofs.Common.{◌≡◌, map}
use Rattle.tool_script.specs.Commands.{lines_by_thread, lines_seen, written_seen}
use Rattle.tool_script.proofs.commands.lines_by_thread.Given as goal

-- the threads so far
abbrev pub invariant-loop-thread : goal.invariant-loop-thread
invariant-loop-thread l = map lines_seen l.threads.items ≡ lines_by_thread l.thread (map written_seen l.written.items)
