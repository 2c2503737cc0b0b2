-- What later entries leave of a history, whatever they are.
use Rattle.std.specs.Prelude.{◌≡◌, ℕ, false, true, ◌++◌}
use Rattle.catalog_handles.specs.declared.handle.CatalogHandle.{CatalogHandle}
use Rattle.catalog_handles.specs.declared.setting.CatalogSetting.{CatalogSetting}
use Rattle.catalog_handles.specs.declared.op.CatalogRefusal.TheVariants.{Stale}
use Rattle.catalog_handles.specs.Entry.{Get, Close, Refused, History}
use Rattle.catalog_handles.specs.History.{made, live, book}
use Rattle.catalog_handles.specs.Answer.{answer, IsLegal}

-- a handle that was closed is refused as stale ever after, whoever names it
abbrev pub ClosedStays : Type 0
ClosedStays =
    (c : CatalogSetting) (G H : History) (h : CatalogHandle) (t : ℕ) → IsLegal c (G ++ H) → made H h ≡ true → live H h ≡ false
    → (answer c (G ++ H) t (Get h) ≡ Refused Stale) × (answer c (G ++ H) t (Close h) ≡ Refused Stale)

-- a handle keeps the catalog that it was opened with
abbrev pub BookStays : Type 0
BookStays =
    (c : CatalogSetting) (G H : History) (h : CatalogHandle) → IsLegal c (G ++ H) → made H h ≡ true → book (G ++ H) h ≡ book H h
