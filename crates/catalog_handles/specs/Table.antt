-- What the catalogs of threads are seen as, the histories that they stand for, and what a refused call leaves.
use Rattle.std.specs.Prelude.{◌≡◌, ℕ, ◌≤◌}
use Rattle.generations.specs.Grid.{GridData}
use Rattle.catalog_handles.specs.declared.handle.CatalogHandle.{CatalogHandle}
use Rattle.catalog_handles.specs.declared.setting.CatalogSetting.{CatalogSetting}
use Rattle.catalog_handles.specs.Entry.{History}
use Rattle.catalog_handles.specs.History.{made, live, book, makes, free_row}
use Rattle.catalog_handles.specs.Rows.{RowData}
use Rattle.catalog_handles.specs.Kept.{Keeps}

-- what the catalogs are seen as: the setting, and the rows
pub record CatalogsData : Type 0 where
  pub setting : CatalogSetting
  pub rows : GridData RowData

-- the catalogs stand for a history: it is a legal one of the setting's threads, and the rows are as it says
abbrev pub StandsFor : CatalogsData → History → Type 0
StandsFor catalogs H = Keeps catalogs.setting H catalogs.rows

-- the rows fit the setting, and generations are counted without running over
pub record IsTable (c : CatalogSetting) (rows : GridData RowData) : Type 0 where
  pub lines : rows.lines ≡ c.threads
  pub generations : c.generations ≤ 2147483647

-- two histories say the same of catalog handles and of rows
pub record SaysTheSame (c : CatalogSetting) (G H : History) : Type 0 where
  pub made : (h : CatalogHandle) → made G h ≡ made H h
  pub live : (h : CatalogHandle) → live G h ≡ live H h
  pub book : (h : CatalogHandle) → book G h ≡ book H h
  pub makes : (t r : ℕ) → makes G t r ≡ makes H t r
  pub free_row : (t : ℕ) → free_row c G t ≡ free_row c H t
