-- What a table keeps of a history.
use Rattle.std.specs.Prelude.{◌≡◌, ℕ, ◌*◌, ◌<◌, ◌≤◌, true, List, length, slice_index_or, unwrap_or, Option, None}
use Rattle.mask_compose.specs.Parts.{Parts}
use Rattle.mask_compose.specs.Offer.{Offered, no_offer}
use Rattle.global_locale.specs.Versioned.{Versioned}
use Rattle.generations.specs.Making as generations
use Rattle.generations.specs.Grid.{GridData, cell}
use Rattle.lc_base.specs.declared.handle.Handle.{Handle}
use Rattle.lc_base.specs.declared.handle.Named.{Named}
use Rattle.lc_base.specs.declared.handle.Named.TheVariants.{Global}
use Rattle.handle_table.specs.declared.row.Row.{Row}
use Rattle.handle_table.specs.Limits.{MAX_THREADS}
use Rattle.lc_base.specs.Cells.{CELLS}
use Rattle.handle_table.specs.Numbers.{object_handles}
use Rattle.handle_table.specs.Entry.{History, Setting}
use Rattle.handle_table.specs.Shelf.{opening_offer, shelf, installs}
use Rattle.handle_table.specs.History.{makings, makes, live, object, selection, holding, pins, is_kept, posted, sets, global}
use Rattle.handle_table.specs.Answer.{IsLegal}
use Rattle.handle_table.specs.Row.{is_held}
use Rattle.handle_table.specs.Rows.{row_at}

-- the newest handle of a thread's row; with generation 0, which none has, where nothing was made in it
abbrev pub newest : History → ℕ → ℕ → Handle
newest H t r = generations.newest object_handles (makings H) t r

-- a row is as the history says
pub record RowStands (c : Setting) (H : History) (t r : ℕ) (row : Row) : Type 0 where
  pub marks : length row.holds ≡ MAX_THREADS
  pub makes : row.makes ≡ makes H t r
  pub live : row.is_live ≡ live H (newest H t r)
  pub pins : row.pins ≡ pins c H (newest H t r)
  pub holding : (w : ℕ) → w < c.threads → is_held w row ≡ holding H w (newest H t r)

-- a grid has a line for each thread, with so many values
pub record HasLines {A : Type 0} (c : Setting) (count : ℕ) (g : GridData A) : Type 0 where
  pub lines : g.lines ≡ c.threads
  pub width : g.width ≡ count
  pub full : length g.items ≡ g.lines * g.width

-- the rows are as the history says
pub record RowsStand (c : Setting) (H : History) (rows : GridData Row) : Type 0 where
  pub few : c.threads ≤ MAX_THREADS
  pub shape : HasLines c c.rows rows
  pub each : (t r : ℕ) → t < c.threads → r < c.rows → RowStands c H t r (row_at rows t r)

-- the objects of rows whose newest handle is live or has pins are as the history says
pub record ObjectsStand (c : Setting) (H : History) (objects : GridData Parts) : Type 0 where
  pub shape : HasLines c c.rows objects
  pub each : (t r : ℕ) → t < c.threads → r < c.rows → is_kept c H (newest H t r) ≡ true
      → cell objects t r no_offer.object ≡ object c H (newest H t r)

-- what each thread selects is as the history says
pub record SelectionsStand (c : Setting) (H : History) (selections : List Named) : Type 0 where
  pub count : length selections ≡ c.threads
  pub each : (t : ℕ) → t < c.threads → slice_index_or selections t Global ≡ selection H t

-- what each cell has is as the history says
pub record CellsStand (c : Setting) (H : History) (cells : GridData (Option Handle)) : Type 0 where
  pub shape : HasLines c CELLS cells
  pub each : (t k : ℕ) → t < c.threads → k < CELLS → cell cells t k None ≡ posted H t k

-- the offer of each number is as the history says: the installed one, else the opening one
pub record ShelfStands (c : Setting) (H : History) (installed : List (Option Offered)) : Type 0 where
  pub count : length installed ≡ length c.opening
  pub each : (n : ℕ) → n < length c.opening → unwrap_or (slice_index_or installed n None) (opening_offer c n) ≡ shelf c H n

-- the callers of a history are among the first n threads
abbrev pub AreThreads : ℕ → History → Type 0
AreThreads n H = generations.AreThreads n (makings H)

-- the global locale is as the history says
pub record GlobalStands (c : Setting) (H : History) (held : Versioned) : Type 0 where
  pub version : held.version ≡ sets H
  pub object : held.object ≡ global c H

-- what a table keeps beside its setting: for each row its counts and its object; for each thread what it
-- selects; for each cell its last post; for each number the offer that was installed; and the global locale
pub record KeptData : Type 0 where
  pub rows : GridData Row
  pub objects : GridData Parts
  pub selections : List Named
  pub cells : GridData (Option Handle)
  pub installed : List (Option Offered)
  pub installs : ℕ
  pub global : Versioned

-- it is what a legal history of the setting's threads says
pub record Keeps (c : Setting) (H : History) (kept : KeptData) : Type 0 where
  pub legal : IsLegal c H
  pub callers : AreThreads c.threads H
  pub opening : 1 ≤ length c.opening
  pub rows : RowsStand c H kept.rows
  pub objects : ObjectsStand c H kept.objects
  pub selections : SelectionsStand c H kept.selections
  pub cells : CellsStand c H kept.cells
  pub shelf : ShelfStands c H kept.installed
  pub installs : kept.installs ≡ installs H
  pub global : GlobalStands c H kept.global

-- the parts have a line for each thread
pub record IsShaped (rows : GridData Row) (objects : GridData Parts) (cells : GridData (Option Handle)) (selections : List Named) : Type 0 where
  pub object_lines : objects.lines ≡ rows.lines
  pub object_width : objects.width ≡ rows.width
  pub cell_lines : cells.lines ≡ rows.lines
  pub cell_width : cells.width ≡ CELLS
  pub selected : length selections ≡ rows.lines
