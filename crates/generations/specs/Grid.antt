-- Values in lines of one length: rows of threads, and cells of threads.
use Rattle.std.specs.Prelude.{ℕ, ◌+◌, ◌*◌, List, slice_index_or, slice_set}

-- so many lines of so many values, line after line
pub record GridData (A : Type 0) : Type 0 where
  pub lines : ℕ
  pub width : ℕ
  pub items : List A

-- the place of a value among all
abbrev pub place : ℕ → ℕ → ℕ → ℕ
place width line column = line * width + column

-- the value of a line and a column
abbrev pub cell : {A : Type 0} → GridData A → ℕ → ℕ → A → A
cell g line column d = slice_index_or g.items (place g.width line column) d

-- the grid with another value there
abbrev pub with_cell : {A : Type 0} → GridData A → ℕ → ℕ → A → GridData A
with_cell g line column x = record g { items = slice_set g.items (place g.width line column) x }
