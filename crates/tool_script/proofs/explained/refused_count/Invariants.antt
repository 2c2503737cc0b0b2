use Rattle.std.proofs.Common.{◌≡◌, ◌+◌, ◌≤◌, drop}
use Rattle.tool_script.specs.Explained.{refused_count}
use Rattle.tool_script.proofs.explained.refused_count.Given as goal

-- the refused lines so far, and those that are left
abbrev pub invariant-loop-line : goal.invariant-loop-line
invariant-loop-line l = record {
  counted : l.count + refused_count (drop l.line-index l.lines) l.reason ≡ refused_count l.lines l.reason;
  few : l.count ≤ l.line-index;
}
