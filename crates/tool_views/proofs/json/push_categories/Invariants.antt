use Rattle.std.proofs.Common.{◌≡◌}
use Rattle.tool_views.proofs.json.push_categories.Given as goal

-- what was written before stays
abbrev pub invariant-loop-row : goal.invariant-loop-row
invariant-loop-row l = l.json.before ≡ l.initial.json.before
