use Rattle.std.proofs.Common.{◌≡◌, ◌+◌, ◌≤◌}
use Rattle.tool_check.specs.Summary.{count_below, is_numbered}
use Rattle.tool_check.proofs.summary.member_count.Given as goal

-- the members so far
abbrev pub invariant-loop-value : goal.invariant-loop-value
invariant-loop-value l = record {
  counted : count_below (is_numbered l.ctype.classes l.number) l.first + l.count ≡ count_below (is_numbered l.ctype.classes l.number) l.value;
  few : l.first + l.count ≤ l.value;
}
