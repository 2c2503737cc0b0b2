-- A closed handle is never live again, and of a row's handles only the newest is live.
use Rattle.std.proofs.Common.{◌≡◌, true, false, ◌||◌, not, [], ◌∷◌, ◌++◌, sym, ◌∙◌, inl, inr}
use Rattle.std.proofs.lemmas.Bool.{and_parts, and_right, or_from, or_cases, or_left, or_right, false_from_ne_true, false≢true}
use Rattle.generations.specs.Store.{NoneComesBack, IsInOrder}
use Rattle.catalog_handles.specs.declared.handle.CatalogHandle.{CatalogHandle}
use Rattle.catalog_handles.specs.declared.setting.CatalogSetting.{CatalogSetting}
use Rattle.catalog_handles.specs.Entry.{Entry, History}
use Rattle.catalog_handles.specs.History.{makes_handle, made, closes_handle, live, catalogs}
use Rattle.catalog_handles.specs.Answer.{IsLegal}
use Rattle.catalog_handles.proofs.Numbering.{all_new, made_once}

-- a live handle was made
pub live_made : (H : History) (h : CatalogHandle) → live H h ≡ true → made H h ≡ true
live_made [] h p = absurd (cc p)
live_made (e ∷ H) h p =
    elim (or_cases (makes_handle e h) (live H h) (and_parts (not (closes_handle e h)) (makes_handle e h || live H h) p).1) [
      | inl here ↦ or_left (makes_handle e h) (made H h) here
      | inr before ↦ or_right (makes_handle e h) (made H h) (live_made H h before)
    ]

-- one that was not made is not live
pub unmade_not_live : (H : History) (h : CatalogHandle) → made H h ≡ false → live H h ≡ false
unmade_not_live H h un = false_from_ne_true (live H h) (λ is. false≢true (sym un ∙ live_made H h is))

-- a closed handle is not live after one more entry
pub not_live_stays : (c : CatalogSetting) (e : Entry) (H : History) (h : CatalogHandle) → IsLegal c (e ∷ H) → made H h ≡ true → live H h ≡ false
    → live (e ∷ H) h ≡ false
not_live_stays c e H h legal before closed =
    and_right (not (closes_handle e h)) (makes_handle e h || live H h)
    (or_from (makes_handle e h) (live H h) (made_once c e H h legal before) closed)

-- a closed handle is never live again
pub closed_for_good : (c : CatalogSetting) (G H : History) (h : CatalogHandle) → IsLegal c (G ++ H) → made H h ≡ true → live H h ≡ false
    → (made (G ++ H) h ≡ true) × (live (G ++ H) h ≡ false)
closed_for_good c [] H h legal before closed = (before, closed)
closed_for_good c (e ∷ G) H h legal before closed =
    let below = closed_for_good c G H h legal.1 before closed in
    (or_right (makes_handle e h) (made (G ++ H) h) below.0, not_live_stays c e (G ++ H) h legal below.0 below.1)

none_back : (c : CatalogSetting) (H : History) → IsLegal c H → NoneComesBack (catalogs c) H
none_back c [] legal = tt
none_back c (e ∷ H) legal = (λ h before closed. not_live_stays c e H h legal before closed, none_back c H legal.1)

-- a legal history is one that rows have
pub in_order : (c : CatalogSetting) (H : History) → IsLegal c H → IsInOrder (catalogs c) H
in_order c H legal = record {
  new = all_new c H legal;
  gone = none_back c H legal;
  known = unmade_not_live H;
}
