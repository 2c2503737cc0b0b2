use Rattle.std.proofs.Common.{◌≡◌, ◌++◌, map, drop}
use Rattle.tool_script.specs.Commands.{line_seen}
use Rattle.tool_script.specs.Explained.{counts_text}
use Rattle.tool_script.proofs.explained.push_counts.Given as goal

-- the counts so far, and those of the reasons that are left
abbrev pub invariant-loop-reason : goal.invariant-loop-reason
invariant-loop-reason l =
    l.out.items ++ counts_text l.lines (map line_seen (drop l.reason-index l.reasons)) ≡ l.initial.out.items ++ counts_text l.lines (map line_seen l.reasons)
