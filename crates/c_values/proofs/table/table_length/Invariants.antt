use Rattle.std.proofs.Common.{◌≡◌, ◌*◌, ◌^◌, ◌≤◌, length, take}
use Rattle.c_values.specs.Table.{laid, texts_by}
use Rattle.c_values.proofs.table.table_length.Given as goal

-- what was counted so far
abbrev pub invariant-loop-i : goal.invariant-loop-i
invariant-loop-i l = (l.total ≡ length (laid (take l.i (texts_by l.view l.given)))) × (l.total ≤ l.i * 2 ^ 65)
