-- What a table is seen as, the histories that it stands for, and what a call of it must give and leaves.
use Rattle.std.specs.Prelude.{◌≡◌, ℕ, ◌<◌, ◌≤◌, Bool, false, List, [], ◌∷◌, length, Some}
use Rattle.mask_compose.specs.Offer.{Offered, AreOnShelf}
use Rattle.lc_base.specs.declared.handle.Handle.{Handle}
use Rattle.handle_table.specs.Limits.{MAX_THREADS}
use Rattle.lc_base.specs.Cells.{CELLS}
use Rattle.handle_table.specs.Entry.{Op, New, Dup, Free, Use, Hold, Release, SetGlobal, Install, Post, Fetch, Pins, End, History, Setting, names}
use Rattle.handle_table.specs.Shelf.{shelf, installs}
use Rattle.handle_table.specs.History.{made, makes, live, sets, global, object, selection, holding, pins, free_row, posted}
use Rattle.handle_table.specs.Answer.{own}
use Rattle.handle_table.specs.Kept.{KeptData, Keeps}

-- what a table is seen as: its setting, what it keeps beside it, and how many steps it has made
pub record TableData : Type 0 where
  pub setting : Setting
  pub kept : KeptData
  pub count : ℕ

-- how many steps the table has made
abbrev pub steps : TableData → ℕ
steps table = table.count

-- the table stands for a history: it is a legal history of the setting's threads, has as many entries as
-- the table has made steps, and what is kept is what the history says
pub record StandsFor (table : TableData) (H : History) : Type 0 where
  pub steps : table.count ≡ length H
  pub keeps : Keeps table.setting H table.kept

-- the parts of a table fit together: a line for each thread, a place for each locale name, and counts
-- that are no larger than the number of steps
pub record IsTable (c : Setting) (kept : KeptData) (count : ℕ) : Type 0 where
  pub few : c.threads ≤ MAX_THREADS
  pub lines : kept.rows.lines ≡ c.threads
  pub shelf : length kept.installed ≡ length c.opening
  pub installs : kept.installs ≤ count
  pub version : kept.global.version ≤ count

-- an opening shelf: its first offer, the POSIX locale's, is there and has all categories
abbrev pub IsOpening : List Offered → Type 0
IsOpening [] = ⊥
IsOpening (offer ∷ offers) = offer.available ≡ 31

-- the numbers that an op gives are of the table: locale names are on the shelf, and the POSIX locale is
-- never installed; a thread is one of the table's, and a cell one of a thread's
abbrev pub Fits : Setting → Op → Type 0
Fits c (New mask numbers base) = AreOnShelf c.opening numbers
Fits c (Dup n) = Unit {0}
Fits c (Free n) = Unit {0}
Fits c (Use n) = Unit {0}
Fits c (Hold n) = Unit {0}
Fits c (Release n) = Unit {0}
Fits c (SetGlobal mask numbers) = AreOnShelf c.opening numbers
Fits c (Install m offer) = (1 ≤ m) × (m < length c.opening)
Fits c (Post k n) = k < CELLS
Fits c (Fetch owner k) = (owner < c.threads) × (k < CELLS)
Fits c (Pins n) = Unit {0}
Fits c End = Unit {0}

-- whether the op has the handle as its base
abbrev pub has_base : Op → Handle → Bool
has_base (New mask numbers (Some n)) h = names n h
has_base _ h = false

-- two histories say the same of the shelf, of objects and their handles, of threads and cells, and of
-- the global locale
pub record SaysTheSame (c : Setting) (G H : History) : Type 0 where
  pub shelf : (n : ℕ) → shelf c G n ≡ shelf c H n
  pub installs : installs G ≡ installs H
  pub made : (h : Handle) → made G h ≡ made H h
  pub makes : (t r : ℕ) → makes G t r ≡ makes H t r
  pub live : (h : Handle) → live G h ≡ live H h
  pub object : (h : Handle) → object c G h ≡ object c H h
  pub sets : sets G ≡ sets H
  pub global : global c G ≡ global c H
  pub selection : (t : ℕ) → selection G t ≡ selection H t
  pub own : (t : ℕ) → own G t ≡ own H t
  pub holding : (t : ℕ) (h : Handle) → holding G t h ≡ holding H t h
  pub pins : (h : Handle) → pins c G h ≡ pins c H h
  pub free_row : (t : ℕ) → free_row c G t ≡ free_row c H t
  pub posted : (t k : ℕ) → posted G t k ≡ posted H t k
