-- A table with its catalogs and its threads, and at which point of a script they are.
use Rattle.std.specs.Prelude.{◌≡◌, ℕ, ◌+◌, ◌*◌, ◌<◌, ◌≤◌, List, length, slice_index_or, All}
use Rattle.category_store.specs.LibraryData.{LibraryData}
use Rattle.category_store.specs.Library.{opening}
use Rattle.handle_table.specs.Entry.{History}
use Rattle.handle_table.specs.Table.{TableData, StandsFor, steps}
use Rattle.catalog_handles.specs.Entry.{History as CatalogHistory}
use Rattle.catalog_handles.specs.Table.{StandsFor as CatalogsStandFor}
use Rattle.script_lines.specs.declared.thread.Thread.{Thread}
use Rattle.script_serial.specs.Alone.{AloneSideData, Knows, AloneData}
use Rattle.script_lines.specs.Thread.{BindsAs}
use Rattle.script_plan.specs.Serial.{Run, lines_of_thread}

-- a thread of the script at a table that its runner has alone
abbrev pub ThreadData : Type 0
ThreadData = Thread AloneSideData

-- the table and a thread are at this history
pub record IsAt (table : TableData) (k : AloneSideData) (H : History) : Type 0 where
  pub stands : StandsFor table H
  pub knows : Knows k H

-- the catalogs are at this history of theirs, each of whose entries is counted
pub record CatalogsAreAt (alone : AloneData) (M : CatalogHistory) : Type 0 where
  pub stands : CatalogsStandFor alone.catalogs M
  pub asked : alone.asked ≡ length M

-- the thread keeps what a script says of it after some of its turns
pub record Follows (t : ThreadData) (run : Run) : Type 0 where
  pub knows : Knows t.side run.history
  pub variables : BindsAs t.side.number t.variables run.bindings
  pub lines : t.lines ≡ lines_of_thread t.side.number run.lines

-- the table with its catalogs and a thread are at this point of a script
pub record IsWith (alone : AloneData) (t : ThreadData) (run : Run) : Type 0 where
  pub stands : StandsFor alone.table run.history
  pub catalogs : CatalogsAreAt alone run.catalogs
  pub follows : Follows t run

-- the table with its catalogs and all threads are
pub record AreAt (alone : AloneData) (threads : List ThreadData) (run : Run) : Type 0 where
  pub stands : StandsFor alone.table run.history
  pub catalogs : CatalogsAreAt alone run.catalogs
  pub follow : All (λ (t : ThreadData). Follows t run) threads

-- how many ops the table and the catalogs have answered
abbrev pub ops_answered : AloneData → ℕ
ops_answered alone = steps alone.table + alone.asked

-- a thread is one of the table's, and so many ops more can be answered
pub record IsReady (n : ℕ) (alone : AloneData) (k : AloneSideData) : Type 0 where
  pub number : k.number < alone.table.setting.threads
  pub steps : ops_answered alone + n ≤ 2147483647

-- the table has its setting, and so many ops more were answered at most
pub record GoesOn (n : ℕ) (old new : AloneData) : Type 0 where
  pub setting : new.table.setting ≡ old.table.setting
  pub steps : ops_answered new ≤ ops_answered old + n

-- thread i stands at place i, and has no more than so many lines
pub record IsNumberedThread (most i : ℕ) (t : ThreadData) : Type 0 where
  pub number : t.side.number ≡ i
  pub lines : t.lines ≤ most

abbrev pub AreNumbered : ℕ → List ThreadData → Type 0
AreNumbered lines threads = (i : ℕ) (d : Thread AloneSideData) → i < length threads → IsNumberedThread lines i (slice_index_or threads i d)

-- the table is of these threads and of the library's names, and so many turns can be answered
pub record CanPlay (library : LibraryData) (alone : AloneData) (ts : List ThreadData) (turns : ℕ) : Type 0 where
  pub opening : alone.table.setting.opening ≡ opening library
  pub threads : alone.table.setting.threads ≡ length ts
  pub steps : ops_answered alone + 2 * turns ≤ 2147483647
