-- What a history says. Each is a search from the newest entry to the oldest; no entry's effect is stored.
use Rattle.std.specs.Prelude.{ℕ, Bool, false, not, ◌&&◌, ◌||◌, if◌then◌else◌, List, [], ◌∷◌, map, Option, None, Some}
use Rattle.generations.specs.Making.{Making}
use Rattle.generations.specs.Making as generations
use Rattle.generations.specs.Store.{Store}
use Rattle.generations.specs.Store as stores
use Rattle.catalog_handles.specs.declared.handle.CatalogHandle.{CatalogHandle}
use Rattle.catalog_handles.specs.declared.setting.CatalogSetting.{CatalogSetting}
use Rattle.catalog_handles.specs.Entry.{Op, Open, Close, Reply, Opened, Entry, History, catalog_handles, same_handle, is_accepted}

-- the handle that an op made, by its reply: an accepted Open makes one, and no other op does
abbrev pub handle_made : Op → Reply → Option CatalogHandle
handle_made (Open book) (Opened h) = Some h
handle_made _ _ = None

-- what an entry made
abbrev pub making : Entry → Making CatalogHandle
making e = record { who = e.who; handle = handle_made e.op e.reply }

-- what was made in a history
abbrev pub makings : History → List (Making CatalogHandle)
makings H = map making H

-- whether the entry made the handle
abbrev pub makes_handle : Entry → CatalogHandle → Bool
makes_handle e h = generations.is_handle catalog_handles (handle_made e.op e.reply) h

-- whether an entry made the handle
abbrev pub made : History → CatalogHandle → Bool
made H h = generations.made catalog_handles (makings H) h

-- whether the op, once accepted, closes the handle
abbrev pub op_closes : Op → CatalogHandle → Bool
op_closes (Close g) h = same_handle g h
op_closes _ h = false

-- whether the entry closed the handle
abbrev pub closes_handle : Entry → CatalogHandle → Bool
closes_handle e h = is_accepted e.reply && op_closes e.op h

-- a handle is live where it was made and nothing later closed it
abbrev pub live : History → CatalogHandle → Bool
live [] h = false
live (e ∷ H) h = not (closes_handle e h) && (makes_handle e h || live H h)

-- the catalog that an op opens
abbrev pub book_opened : Op → ℕ → ℕ
book_opened (Open book) before = book
book_opened _ before = before

-- the catalog that the handle was opened with; 0 for one that was not made
abbrev pub book : History → CatalogHandle → ℕ
book [] h = 0
book (e ∷ H) h = if makes_handle e h then book_opened e.op (book H h) else book H h

-- the handles that were made for a thread in a row, the newest first
abbrev pub handles : History → ℕ → ℕ → List CatalogHandle
handles H t r = generations.handles catalog_handles (makings H) t r

-- how many handles were made for a thread in a row
abbrev pub makes : History → ℕ → ℕ → ℕ
makes H t r = generations.makes catalog_handles (makings H) t r

-- the rows of the setting: a handle is kept while it is live
abbrev pub catalogs : CatalogSetting → Store CatalogHandle Entry
catalogs c = record { kind = catalog_handles; making = making; is_kept = live; rows = c.rows; generations = c.generations }

-- a row of a thread is free where none of its handles is live, and it has generations left
abbrev pub is_free : CatalogSetting → History → ℕ → ℕ → Bool
is_free c H t r = stores.is_free (catalogs c) H t r

-- the least free row of a thread, or none
abbrev pub free_row : CatalogSetting → History → ℕ → Option ℕ
free_row c H t = stores.free_row (catalogs c) H t
