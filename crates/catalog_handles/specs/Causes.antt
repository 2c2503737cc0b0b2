-- When an op is refused, over the history before it.
use Rattle.std.specs.Prelude.{◌≡◌, ℕ, true, false, None}
use Rattle.catalog_handles.specs.declared.setting.CatalogSetting.{CatalogSetting}
use Rattle.catalog_handles.specs.Entry.{Op, Open, Get, Close, History}
use Rattle.catalog_handles.specs.History.{made, live, free_row}

-- the op names a handle that no entry made
abbrev pub IsOfUnmade : History → Op → Type 0
IsOfUnmade H (Open number) = ⊥
IsOfUnmade H (Get h) = made H h ≡ false
IsOfUnmade H (Close h) = made H h ≡ false

-- the op names a handle that was made, and is not live
abbrev pub IsOfClosed : History → Op → Type 0
IsOfClosed H (Open number) = ⊥
IsOfClosed H (Get h) = (made H h ≡ true) × (live H h ≡ false)
IsOfClosed H (Close h) = (made H h ≡ true) × (live H h ≡ false)

-- the op is an Open of a thread without a free row
abbrev pub IsWithoutRow : CatalogSetting → History → ℕ → Op → Type 0
IsWithoutRow c H t (Open number) = free_row c H t ≡ None
IsWithoutRow c H t (Get h) = ⊥
IsWithoutRow c H t (Close h) = ⊥
