-- What a table keeps of one row, and how it changes.
use Rattle.std.specs.Prelude.{ℕ, ◌+◌, ◌-◌, ◌^◌, Bool, true, false, [], if◌then◌else◌, min, slice_index_or, slice_set}
use Rattle.handle_table.specs.declared.row.Row.{Row}

-- a row in which nothing was made
abbrev pub no_row : Row
no_row = record { makes = 0; is_live = false; pins = 0; holds = [] }

-- one more pin
abbrev pub pinned : Row → Row
pinned row = record row { pins = min (row.pins + 1) (2 ^ 32 - 1) }

-- one pin less
abbrev pub unpinned : Row → Row
unpinned row = record row { pins = row.pins - 1 }

-- whether the thread holds the newest object
abbrev pub is_held : ℕ → Row → Bool
is_held w row = slice_index_or row.holds w false

-- a Hold of the thread, with its pin
abbrev pub opened : ℕ → Row → Row
opened w row = pinned (record row { holds = slice_set row.holds w true })

-- no Hold of the thread, without its pin
abbrev pub closed : ℕ → Row → Row
closed w row = unpinned (record row { holds = slice_set row.holds w false })

-- no Hold of the thread, if there is one
abbrev pub let_go : ℕ → Row → Row
let_go w row = if is_held w row then closed w row else row

-- the newest object is no longer live
abbrev pub freed : Row → Row
freed row = record row { is_live = false }

-- one more object, which is live
abbrev pub with_next : Row → Row
with_next row = record row { makes = row.makes + 1; is_live = true }
