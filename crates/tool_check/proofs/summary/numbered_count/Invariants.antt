use Rattle.std.proofs.Common.{◌≡◌, ◌-◌, ◌≤◌, ◌^◌, ◌&&◌}
use Rattle.charset.specs.CodedSet.{has}
use Rattle.tool_check.specs.Summary.{count_below, is_numbered}
use Rattle.tool_check.proofs.summary.numbered_count.Given as goal

-- the members below the next value
abbrev pub invariant-loop-first : goal.invariant-loop-first
invariant-loop-first l = record {
  counted : l.count ≡ count_below (λ w. has l.charset w && is_numbered l.ctype.classes l.number w) l.from;
  few : l.count ≤ l.from;
  within : l.from ≤ 2 ^ 32;
}

abbrev pub decreases-loop-first : goal.decreases-loop-first
decreases-loop-first l = 2 ^ 32 - l.from
