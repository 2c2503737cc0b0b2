use Rattle.std.proofs.Common.{◌≡◌, ℕ, ◌<◌, length, take}
use Rattle.std.specs.Prelude.{slice_index}
use Rattle.text_buffer.specs.Written.{over}
use Rattle.c_values.specs.Table.{laid, texts_by}
use Rattle.c_values.proofs.table.write_table.Given as goal

-- what was written so far
abbrev pub invariant-loop-i : goal.invariant-loop-i
invariant-loop-i l = (l.end ≡ length (laid (take l.i (texts_by l.view l.given))))
    × (l.buffer ≡ over l.initial.buffer 0 (laid (take l.i (texts_by l.view l.given))))
    × ((k : ℕ) → k < l.i → slice_index l.table.starts k ≡ length (laid (take k (texts_by l.view l.given))))
