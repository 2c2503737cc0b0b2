-- The rows of all threads, and what they say of handles.
use Rattle.std.specs.Prelude.{ℕ, Bool, nat_lt, ◌&&◌, ◌||◌, if◌then◌else◌, map, Option, None, Some}
use Rattle.generations.specs.Grid.{GridData, with_cell}
use Rattle.generations.specs.Rows.{Counts}
use Rattle.generations.specs.Rows as rows_of
use Rattle.lc_base.specs.declared.handle.Handle.{Handle}
use Rattle.lc_base.specs.declared.handle.Named.{Named}
use Rattle.lc_base.specs.declared.handle.Named.TheVariants.{Global, Of}
use Rattle.handle_table.specs.declared.row.Row.{Row}
use Rattle.handle_table.specs.Numbers.{object_handles}
use Rattle.handle_table.specs.Row.{no_row, is_held, let_go}

-- what a row says of its handles
abbrev pub counts : Counts Row
counts = record { makes = λ row. row.makes; is_kept = λ row. row.is_live || nat_lt 0 row.pins; no_row = no_row }

-- the row of a thread
abbrev pub row_at : GridData Row → ℕ → ℕ → Row
row_at rows t r = rows_of.row_at counts rows t r

-- whether the handle is the newest of its row
abbrev pub is_newest : GridData Row → Handle → Bool
is_newest rows h = rows_of.is_newest counts rows (object_handles.numbers h)

-- the row whose newest handle this is
abbrev pub newest_row : GridData Row → Handle → Option Row
newest_row rows h = if is_newest rows h then Some (row_at rows h.owner h.row) else None

-- whether the handle was made: each row has its generations from 1
abbrev pub says_made : GridData Row → Handle → Bool
says_made rows h = rows_of.says_made counts rows (object_handles.numbers h)

-- whether the handle is live
abbrev pub says_live : GridData Row → Handle → Bool
says_live rows h = is_newest rows h && (row_at rows h.owner h.row).is_live

-- whether the thread holds the handle
abbrev pub says_held : GridData Row → ℕ → Handle → Bool
says_held rows w h = is_newest rows h && is_held w (row_at rows h.owner h.row)

-- the pins of the handle
abbrev pub says_pins : GridData Row → Handle → ℕ
says_pins rows h = if is_newest rows h then (row_at rows h.owner h.row).pins else 0

-- the rows with a change of the one whose newest handle is named
abbrev pub changed : (Row → Row) → GridData Row → Named → GridData Row
changed f rows Global = rows
changed f rows (Of h) = if is_newest rows h then with_cell rows h.owner h.row (f (row_at rows h.owner h.row)) else rows

-- the rows after the thread let go of all that it held
abbrev pub all_let_go : ℕ → GridData Row → GridData Row
all_let_go w rows = record rows { items = map (let_go w) rows.items }
