-- Each catalog handle is new when it is made: the next one of its thread in its least free row.
use Rattle.std.proofs.Common.{◌≡◌, ℕ, true, false, [], ◌∷◌, Option, None, Some, refl, sym, subst}
use Rattle.generations.specs.Making.{IsNumbered}
use Rattle.generations.specs.Store.{IsNew, AllNew}
use Rattle.generations.proofs.Numbering as numbering
use Rattle.generations.proofs.Newest.{all_numbered}
use Rattle.catalog_handles.specs.declared.handle.CatalogHandle.{CatalogHandle}
use Rattle.catalog_handles.specs.declared.setting.CatalogSetting.{CatalogSetting}
use Rattle.catalog_handles.specs.Entry.{Op, Open, Get, Close, Reply, Entry, History, catalog_handles}
use Rattle.catalog_handles.specs.History.{handle_made, making, makings, makes_handle, made, catalogs, free_row}
use Rattle.catalog_handles.specs.Answer.{opened_in, answer, IsLegal}

new_opened : (c : CatalogSetting) (H : History) (t number : ℕ) (row : Option ℕ) → free_row c H t ≡ row
    → IsNew (catalogs c) H t (handle_made (Open number) (opened_in H t row))
new_opened c H t number None is = (tt, tt)
new_opened c H t number (Some r) is = (is, refl)

-- the handle that a call makes is new
new_answer : (c : CatalogSetting) (H : History) (t : ℕ) (op : Op) → IsNew (catalogs c) H t (handle_made op (answer c H t op))
new_answer c H t (Open number) = new_opened c H t number (free_row c H t) refl
new_answer c H t (Get h) = (tt, tt)
new_answer c H t (Close h) = (tt, tt)

-- the handle that a legal entry makes is new
pub new_entry : (c : CatalogSetting) (e : Entry) (H : History) → IsLegal c (e ∷ H) → IsNew (catalogs c) H e.who (handle_made e.op e.reply)
new_entry c e H legal = subst (λ (r : Reply). IsNew (catalogs c) H e.who (handle_made e.op r)) (sym legal.0) (new_answer c H e.who e.op)

-- each handle of a legal history was new
pub all_new : (c : CatalogSetting) (H : History) → IsLegal c H → AllNew (catalogs c) H
all_new c [] legal = tt
all_new c (e ∷ H) legal = (new_entry c e H legal, all_new c H legal.1)

pub legal_numbered : (c : CatalogSetting) (H : History) → IsLegal c H → IsNumbered catalog_handles (makings H)
legal_numbered c H legal = all_numbered (catalogs c) H (all_new c H legal)

-- an entry makes no handle that was made before
pub made_once : (c : CatalogSetting) (e : Entry) (H : History) (h : CatalogHandle) → IsLegal c (e ∷ H) → made H h ≡ true → makes_handle e h ≡ false
made_once c e H h legal before = numbering.made_once catalog_handles (making e) (makings H) h (legal_numbered c (e ∷ H) legal) before

-- what an entry makes is its caller's
pub maker_owns : (c : CatalogSetting) (e : Entry) (H : History) (h : CatalogHandle) → IsLegal c (e ∷ H) → makes_handle e h ≡ true → e.who ≡ h.owner
maker_owns c e H h legal here = (numbering.made_next catalog_handles (making e) (makings H) h (legal_numbered c (e ∷ H) legal) here).0
