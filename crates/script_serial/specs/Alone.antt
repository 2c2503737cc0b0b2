-- What a thread keeps beside a table that its runner has alone, when it is right, and the table with its catalogs.
use Rattle.std.specs.Prelude.{◌≡◌, ℕ, List, Option}
use Rattle.mask_compose.specs.Parts.{Parts}
use Rattle.lc_base.specs.declared.handle.Named.{Named}
use Rattle.handle_table.specs.Entry.{History}
use Rattle.handle_table.specs.History.{selection}
use Rattle.handle_table.specs.Answer.{own}
use Rattle.handle_table.specs.Table.{TableData}
use Rattle.catalog_handles.specs.Table.{CatalogsData}
use Rattle.script_wishes.specs.declared.holds.OpenHold.{OpenHold}
use Rattle.script_wishes.specs.Holds.{open_holds}

-- the thread's number, the object that it has taken up (none where it goes by the global locale), what it has selected, and its
-- open Holds in the order made
pub record AloneSideData : Type 0 where
  pub number : ℕ
  pub own : Option Parts
  pub selected : Named
  pub holds : List OpenHold

-- the thread keeps what a history says of it
pub record Knows (k : AloneSideData) (H : History) : Type 0 where
  pub own : k.own ≡ own H k.number
  pub selected : k.selected ≡ selection H k.number
  pub holds : k.holds ≡ open_holds H k.number

-- a table and the catalogs of its threads, which one runner has alone, and how many ops the catalogs have answered
pub record AloneData : Type 0 where
  pub table : TableData
  pub catalogs : CatalogsData
  pub asked : ℕ
