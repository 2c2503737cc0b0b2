-- The rows of all threads, and what they say of handles.
use Rattle.std.specs.Prelude.{◌≡◌, ℕ, ◌<◌, Bool, nat_lt, nat_le, ◌==◌, ◌&&◌, not, List}
use Rattle.generations.specs.declared.numbers.Numbers.{Numbers}
use Rattle.generations.specs.Grid.{GridData, cell}
use Rattle.generations.specs.Making.{makes, newest}
use Rattle.generations.specs.Store.{Store, makings}

-- what a row says of its handles: how many were made in it, and whether the newest is kept; and the row in which
-- nothing was made
pub record Counts (R : Type 0) : Type 0 where
  pub makes : R → ℕ
  pub is_kept : R → Bool
  pub no_row : R

-- the row of a thread
abbrev pub row_at : {R : Type 0} → Counts R → GridData R → ℕ → ℕ → R
row_at v rows t r = cell rows t r v.no_row

-- whether there is a row for the handle
abbrev pub is_inside : {R : Type 0} → GridData R → Numbers → Bool
is_inside rows h = nat_lt h.owner rows.lines && nat_lt h.row rows.width

-- whether the handle is the newest of its row
abbrev pub is_newest : {R : Type 0} → Counts R → GridData R → Numbers → Bool
is_newest v rows h = is_inside rows h && v.makes (row_at v rows h.owner h.row) == h.generation

-- whether the handle was made: each row has its generations from 1
abbrev pub says_made : {R : Type 0} → Counts R → GridData R → Numbers → Bool
says_made v rows h = is_inside rows h && (nat_lt 0 h.generation && nat_le h.generation (v.makes (row_at v rows h.owner h.row)))

-- whether a new handle may stand in the row
abbrev pub is_free_row : {R : Type 0} → Counts R → ℕ → R → Bool
is_free_row v generations row = not (v.is_kept row) && nat_lt (v.makes row) generations

-- a row says of its handles what the history says
pub record RowSays {A E R : Type 0} (s : Store A E) (v : Counts R) (H : List E) (t r : ℕ) (row : R) : Type 0 where
  pub makes : v.makes row ≡ makes s.kind (makings s H) t r
  pub kept : v.is_kept row ≡ s.is_kept H (newest s.kind (makings s H) t r)

-- the rows of the first n threads do
pub record RowsSay {A E R : Type 0} (s : Store A E) (v : Counts R) (n : ℕ) (H : List E) (rows : GridData R) : Type 0 where
  pub lines : rows.lines ≡ n
  pub width : rows.width ≡ s.rows
  pub each : (t r : ℕ) → t < n → r < s.rows → RowSays s v H t r (row_at v rows t r)
