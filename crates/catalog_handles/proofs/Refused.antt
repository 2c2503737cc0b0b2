-- Each refusal and its cause, and what a refused call leaves.
use Rattle.std.proofs.Common.{◌≡◌, ℕ, Bool, true, false, [], ◌∷◌, ◌++◌, length, Option, None, Some, refl, ap, sym, ◌∙◌}
use Rattle.std.proofs.lemmas.Bool.{and_left, or_right}
use Rattle.std.proofs.Math.Logic.{◌↔◌}
use Rattle.std.specs.Prelude.{if◌then◌else◌}
use Rattle.generations.proofs.Free.{free_row_alike}
use Rattle.catalog_handles.specs.declared.handle.CatalogHandle.{CatalogHandle}
use Rattle.catalog_handles.specs.declared.setting.CatalogSetting.{CatalogSetting}
use Rattle.catalog_handles.specs.declared.op.CatalogRefusal.{CatalogRefusal}
use Rattle.catalog_handles.specs.declared.op.CatalogRefusal.TheVariants.{NeverMade, Stale, TooMany}
use Rattle.catalog_handles.specs.Entry.{Op, Open, Get, Close, Reply, Book, Closed, Refused, Entry, History, is_accepted}
use Rattle.catalog_handles.specs.History.{makes_handle, made, op_closes, live, book, catalogs, free_row}
use Rattle.catalog_handles.specs.Answer.{unless, opened_in, answer, IsLegal}
use Rattle.catalog_handles.specs.Causes.{IsOfUnmade, IsOfClosed, IsWithoutRow}
use Rattle.catalog_handles.specs.Table.{SaysTheSame}
use Rattle.catalog_handles.proofs.Numbering.{made_once}
use Rattle.catalog_handles.proofs.Newest.{closed_for_good}
use Rattle.catalog_handles.proofs.After.{refused_makes, none_made, handles_kept, made_kept, live_kept, book_kept}

-- ---- causes

-- what is against a handle, by whether it was made and is live
abbrev against_by : Bool → Bool → Option CatalogRefusal
against_by a b = if a then (if b then None else Some Stale) else Some NeverMade

unmade_by : (a b : Bool) (reply : Reply) → (reply ≡ Refused NeverMade → ⊥) → (unless (against_by a b) reply ≡ Refused NeverMade) ↔ (a ≡ false)
unmade_by true true reply other = (λ p. absurd (other p), λ p. absurd (cc p))
unmade_by true false reply other = (λ p. absurd (cc p), λ p. absurd (cc p))
unmade_by false b reply other = (λ p. refl, λ p. refl)

closed_by : (a b : Bool) (reply : Reply) → (reply ≡ Refused Stale → ⊥) → (unless (against_by a b) reply ≡ Refused Stale) ↔ ((a ≡ true) × (b ≡ false))
closed_by true true reply other = (λ p. absurd (other p), λ p. absurd (let q = p.1 in cc q))
closed_by true false reply other = (λ p. (refl, refl), λ p. refl)
closed_by false b reply other = (λ p. absurd (cc p), λ p. absurd (let q = p.0 in cc q))

spare_by : (a b : Bool) (reply : Reply) → (reply ≡ Refused TooMany → ⊥) → (unless (against_by a b) reply ≡ Refused TooMany) ↔ ⊥
spare_by true true reply other = (λ p. other p, λ p. absurd p)
spare_by true false reply other = (λ p. absurd (cc p), λ p. absurd p)
spare_by false b reply other = (λ p. absurd (cc p), λ p. absurd p)

opened_unmade : (H : History) (t : ℕ) (o : Option ℕ) → (opened_in H t o ≡ Refused NeverMade) ↔ ⊥
opened_unmade H t None = (λ p. absurd (cc p), λ p. absurd p)
opened_unmade H t (Some r) = (λ p. absurd (cc p), λ p. absurd p)

opened_stale : (H : History) (t : ℕ) (o : Option ℕ) → (opened_in H t o ≡ Refused Stale) ↔ ⊥
opened_stale H t None = (λ p. absurd (cc p), λ p. absurd p)
opened_stale H t (Some r) = (λ p. absurd (cc p), λ p. absurd p)

opened_full : (H : History) (t : ℕ) (o : Option ℕ) → (opened_in H t o ≡ Refused TooMany) ↔ (o ≡ None)
opened_full H t None = (λ p. refl, λ p. refl)
opened_full H t (Some r) = (λ p. absurd (cc p), λ p. absurd (cc p))

pub unmade_is : (c : CatalogSetting) (H : History) (t : ℕ) (op : Op) → (answer c H t op ≡ Refused NeverMade) ↔ IsOfUnmade H op
unmade_is c H t (Open number) = opened_unmade H t (free_row c H t)
unmade_is c H t (Get h) = unmade_by (made H h) (live H h) (Book (book H h)) (λ p. absurd (cc p))
unmade_is c H t (Close h) = unmade_by (made H h) (live H h) Closed (λ p. absurd (cc p))

pub closed_is : (c : CatalogSetting) (H : History) (t : ℕ) (op : Op) → (answer c H t op ≡ Refused Stale) ↔ IsOfClosed H op
closed_is c H t (Open number) = opened_stale H t (free_row c H t)
closed_is c H t (Get h) = closed_by (made H h) (live H h) (Book (book H h)) (λ p. absurd (cc p))
closed_is c H t (Close h) = closed_by (made H h) (live H h) Closed (λ p. absurd (cc p))

pub full_is : (c : CatalogSetting) (H : History) (t : ℕ) (op : Op) → (answer c H t op ≡ Refused TooMany) ↔ IsWithoutRow c H t op
full_is c H t (Open number) = opened_full H t (free_row c H t)
full_is c H t (Get h) = spare_by (made H h) (live H h) (Book (book H h)) (λ p. absurd (cc p))
full_is c H t (Close h) = spare_by (made H h) (live H h) Closed (λ p. absurd (cc p))

-- ---- what a refused call leaves

pub refused_changes_nothing : (c : CatalogSetting) (e : Entry) (H : History) → is_accepted e.reply ≡ false → SaysTheSame c (e ∷ H) H
refused_changes_nothing c e H refused =
    let none = refused_makes e.op e.reply refused in
    let alive = λ (h : CatalogHandle). live_kept e H h (none_made e h none) (and_left (is_accepted e.reply) (op_closes e.op h) refused) in record {
      made = λ h. made_kept e H h (none_made e h none);
      live = alive;
      book = λ h. book_kept e H h (none_made e h none);
      makes = λ t r. ap length (handles_kept e H t r none);
      free_row = λ t. free_row_alike (catalogs c) (e ∷ H) H t (λ r. handles_kept e H t r none) (λ h owns. alive h);
    }

-- ---- what lasts

-- a handle that was closed is refused as stale ever after
pub stale_for_good : (c : CatalogSetting) (G H : History) (h : CatalogHandle) (t : ℕ) → IsLegal c (G ++ H) → made H h ≡ true → live H h ≡ false
    → (answer c (G ++ H) t (Get h) ≡ Refused Stale) × (answer c (G ++ H) t (Close h) ≡ Refused Stale)
stale_for_good c G H h t legal before closed =
    let still = closed_for_good c G H h legal before closed in
    ((closed_is c (G ++ H) t (Get h)).1 still, (closed_is c (G ++ H) t (Close h)).1 still)

made_stays : (G H : History) (h : CatalogHandle) → made H h ≡ true → made (G ++ H) h ≡ true
made_stays [] H h before = before
made_stays (e ∷ G) H h before = or_right (makes_handle e h) (made (G ++ H) h) (made_stays G H h before)

-- a handle keeps the catalog that it was opened with
pub book_stays : (c : CatalogSetting) (G H : History) (h : CatalogHandle) → IsLegal c (G ++ H) → made H h ≡ true → book (G ++ H) h ≡ book H h
book_stays c [] H h legal before = refl
book_stays c (e ∷ G) H h legal before =
    book_kept e (G ++ H) h (made_once c e (G ++ H) h legal (made_stays G H h before)) ∙ book_stays c G H h legal.1 before

-- ---- replies that are the answer

-- what holds of the answer holds of the reply
pub caused : {P : Type 0} (reply other r : Reply) → reply ≡ other → (other ≡ r) ↔ P → (reply ≡ r) ↔ P
caused reply other r is cause = (λ p. cause.0 (sym is ∙ p), λ q. is ∙ cause.1 q)
