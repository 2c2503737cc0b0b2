-- What the rows keep of a history.
use Rattle.std.specs.Prelude.{◌≡◌, ℕ, ◌*◌, ◌<◌, if◌then◌else◌, length, Option, None, Some}
use Rattle.generations.specs.Making as generations
use Rattle.generations.specs.Grid.{GridData}
use Rattle.catalog_handles.specs.declared.handle.CatalogHandle.{CatalogHandle}
use Rattle.catalog_handles.specs.declared.setting.CatalogSetting.{CatalogSetting}
use Rattle.catalog_handles.specs.Entry.{History, catalog_handles}
use Rattle.catalog_handles.specs.History.{makings, live, book, makes}
use Rattle.catalog_handles.specs.Answer.{IsLegal, AreThreads}
use Rattle.catalog_handles.specs.Rows.{RowData, row_at}

-- the newest handle of a thread's row; with generation 0, which none has, where nothing was made in it
abbrev pub newest : History → ℕ → ℕ → CatalogHandle
newest H t r = generations.newest catalog_handles (makings H) t r

-- the catalog of a handle while it is live
abbrev pub live_book : History → CatalogHandle → Option ℕ
live_book H h = if live H h then Some (book H h) else None

-- a row is as the history says
pub record RowStands (H : History) (t r : ℕ) (row : RowData) : Type 0 where
  pub makes : row.makes ≡ makes H t r
  pub book : row.book ≡ live_book H (newest H t r)

-- the rows are as a legal history of the setting's threads says
pub record Keeps (c : CatalogSetting) (H : History) (rows : GridData RowData) : Type 0 where
  pub legal : IsLegal c H
  pub callers : AreThreads c.threads H
  pub lines : rows.lines ≡ c.threads
  pub width : rows.width ≡ c.rows
  pub full : length rows.items ≡ rows.lines * rows.width
  pub each : (t r : ℕ) → t < c.threads → r < c.rows → RowStands H t r (row_at rows t r)
