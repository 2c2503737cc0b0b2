-- The rows of all threads, and what they say of handles.
use Rattle.std.specs.Prelude.{ℕ, ◌+◌, Bool, is_some, if◌then◌else◌, Option, None, Some}
use Rattle.generations.specs.Grid.{GridData, with_cell}
use Rattle.generations.specs.Rows.{Counts}
use Rattle.generations.specs.Rows as rows_of
use Rattle.catalog_handles.specs.declared.handle.CatalogHandle.{CatalogHandle}
use Rattle.catalog_handles.specs.Entry.{catalog_handles}

-- what is kept of one row: how many handles were made in it, and the catalog of the newest while that is live
pub record RowData : Type 0 where
  pub makes : ℕ
  pub book : Option ℕ

-- a row in which nothing was made
abbrev pub no_row : RowData
no_row = record { makes = 0; book = None }

-- the row after its newest handle was closed
abbrev pub closed : RowData → RowData
closed row = record row { book = None }

-- the row with one more handle, of this catalog
abbrev pub opened : ℕ → RowData → RowData
opened number row = record { makes = row.makes + 1; book = Some number }

-- what a row says of its handles
abbrev pub counts : Counts RowData
counts = record { makes = λ row. row.makes; is_kept = λ row. is_some row.book; no_row = no_row }

-- the row of a thread
abbrev pub row_at : GridData RowData → ℕ → ℕ → RowData
row_at rows t r = rows_of.row_at counts rows t r

-- whether the handle is the newest of its row
abbrev pub is_newest : GridData RowData → CatalogHandle → Bool
is_newest rows h = rows_of.is_newest counts rows (catalog_handles.numbers h)

-- whether the handle was made: each row has its generations from 1
abbrev pub says_made : GridData RowData → CatalogHandle → Bool
says_made rows h = rows_of.says_made counts rows (catalog_handles.numbers h)

-- the catalog of the handle, if it is live
abbrev pub says_book : GridData RowData → CatalogHandle → Option ℕ
says_book rows h = if is_newest rows h then (row_at rows h.owner h.row).book else None

-- the rows after the thread opened a catalog in one of its rows
abbrev pub after_open : GridData RowData → ℕ → ℕ → ℕ → GridData RowData
after_open rows t r number = with_cell rows t r (opened number (row_at rows t r))

-- the rows after the handle was closed
abbrev pub after_close : GridData RowData → CatalogHandle → GridData RowData
after_close rows h = if is_newest rows h then with_cell rows h.owner h.row (closed (row_at rows h.owner h.row)) else rows
