use Rattle.std.proofs.Common.{◌≡◌, ◌++◌, map, take, drop}
use Rattle.handle_table.specs.Row.{let_go}
use Rattle.handle_table.proofs.rows.let_go_each.Given as goal

abbrev pub invariant-loop-row : goal.invariant-loop-row
invariant-loop-row l = l.rows ≡ map (let_go l.who) (take l.row-index l.initial.rows) ++ drop l.row-index l.initial.rows
