-- The part of some threads says of them what the whole history says, and answers their calls alike.
use Rattle.std.proofs.Common.{◌≡◌, ℕ, ◌+◌, Bool, true, false, ◌&&◌, ◌||◌, not, List, [], ◌∷◌, length, Option, None, Some, refl, ap, sym, ◌∙◌, subst, inl, inr}
use Rattle.std.proofs.lemmas.Bool.{and_right, cases_Bool, false_from_ne_true, false≢true}
use Rattle.std.specs.Prelude.{if◌then◌else◌}
use Rattle.generations.specs.Kind.{nth}
use Rattle.generations.specs.Making.{with_handle}
use Rattle.generations.proofs.Numbering.{same_handles, with_other}
use Rattle.generations.proofs.Free.{free_row_alike}
use Rattle.catalog_handles.specs.declared.handle.CatalogHandle.{CatalogHandle}
use Rattle.catalog_handles.specs.declared.setting.CatalogSetting.{CatalogSetting}
use Rattle.catalog_handles.specs.declared.op.CatalogRefusal.TheVariants.{NeverMade, Stale}
use Rattle.catalog_handles.specs.Entry.{Op, Open, Get, Close, Opened, Book, Closed, Entry, History, catalog_handles, same_handle, named_by, is_accepted}
use Rattle.catalog_handles.specs.History.{handle_made, makes_handle, made, op_closes, closes_handle, live, book_opened, book, makings, handles, makes, catalogs, free_row}
use Rattle.catalog_handles.specs.Answer.{against, unless, opened_in, answer, entry, IsLegal}
use Rattle.catalog_handles.specs.Isolation.{has_thread, is_owned, is_own, keeps_apart, IsClosed, part_of}
use Rattle.catalog_handles.proofs.Numbering.{new_entry, maker_owns}
use Rattle.catalog_handles.proofs.After.{made_kept, live_kept, book_kept}

-- what a history says of the threads is what another says of them
record SaysOfThreads (S : List ℕ) (G H : History) : Type 0 where
  made : (h : CatalogHandle) → has_thread S h.owner ≡ true → made G h ≡ made H h
  live : (h : CatalogHandle) → has_thread S h.owner ≡ true → live G h ≡ live H h
  book : (h : CatalogHandle) → has_thread S h.owner ≡ true → book G h ≡ book H h
  handles : (t r : ℕ) → has_thread S t ≡ true → handles G t r ≡ handles H t r

-- ---- an entry of another thread

-- a thread of the set is not one outside of it
is_another : (S : List ℕ) (w t : ℕ) → has_thread S w ≡ false → has_thread S t ≡ true → w ≡ t → ⊥
is_another S w t outside inside same = false≢true (sym outside ∙ ap (has_thread S) same ∙ inside)

not_so : (b : Bool) → not b ≡ true → b ≡ false
not_so true p = absurd (cc p)
not_so false p = refl

-- an entry of another thread names none of the set's handles
apart_outside : (S : List ℕ) (e : Entry) → keeps_apart S e ≡ true → has_thread S e.who ≡ false → is_owned S (named_by e.op) ≡ false
apart_outside S e apart outside =
    not_so (is_owned S (named_by e.op))
    (sym (ap (λ b. if b then is_own S (named_by e.op) else not (is_owned S (named_by e.op))) outside) ∙ apart)

-- an entry of the set names only its handles
apart_inside : (S : List ℕ) (e : Entry) → keeps_apart S e ≡ true → has_thread S e.who ≡ true → is_own S (named_by e.op) ≡ true
apart_inside S e apart inside =
    sym (ap (λ b. if b then is_own S (named_by e.op) else not (is_owned S (named_by e.op))) inside) ∙ apart

not_closed : (S : List ℕ) (op : Op) (h : CatalogHandle) → is_owned S (named_by op) ≡ false → has_thread S h.owner ≡ true → op_closes op h ≡ false
not_closed S (Close g) h none owned =
    false_from_ne_true (same_handle g h) (λ is.
    false≢true (sym none ∙ ap (λ (x : CatalogHandle). has_thread S x.owner) (same_handles catalog_handles g h is) ∙ owned))
not_closed S (Get g) h none owned = refl
not_closed S (Open number) h none owned = refl

makes_apart : (c : CatalogSetting) (S : List ℕ) (e : Entry) (H : History) (h : CatalogHandle) → IsLegal c (e ∷ H) → has_thread S e.who ≡ false
    → has_thread S h.owner ≡ true → makes_handle e h ≡ false
makes_apart c S e H h legal outside owned =
    false_from_ne_true (makes_handle e h) (λ here. is_another S e.who h.owner outside owned (maker_owns c e H h legal here))

closes_apart : (S : List ℕ) (e : Entry) (h : CatalogHandle) → keeps_apart S e ≡ true → has_thread S e.who ≡ false
    → has_thread S h.owner ≡ true → closes_handle e h ≡ false
closes_apart S e h apart outside owned =
    and_right (is_accepted e.reply) (op_closes e.op h) (not_closed S e.op h (apart_outside S e apart outside) owned)

-- ---- the part and the whole

same_outside : (c : CatalogSetting) (S : List ℕ) (e : Entry) (G H : History) → IsLegal c (e ∷ H) → keeps_apart S e ≡ true → has_thread S e.who ≡ false
    → SaysOfThreads S G H → SaysOfThreads S G (e ∷ H)
same_outside c S e G H legal apart outside same = record {
  made = λ h owned. same.made h owned ∙ sym (made_kept e H h (makes_apart c S e H h legal outside owned));
  live = λ h owned. same.live h owned
      ∙ sym (live_kept e H h (makes_apart c S e H h legal outside owned) (closes_apart S e h apart outside owned));
  book = λ h owned. same.book h owned ∙ sym (book_kept e H h (makes_apart c S e H h legal outside owned));
  handles = λ t r owned. same.handles t r owned
      ∙ sym (with_other catalog_handles (makings H) e.who t r (handle_made e.op e.reply) (handles H t r) (new_entry c e H legal).1
      (is_another S e.who t outside owned));
}

same_inside : (S : List ℕ) (e : Entry) (G H : History) → SaysOfThreads S G H → SaysOfThreads S (e ∷ G) (e ∷ H)
same_inside S e G H same = record {
  made = λ h owned. ap (λ b. makes_handle e h || b) (same.made h owned);
  live = λ h owned. ap (λ b. not (closes_handle e h) && (makes_handle e h || b)) (same.live h owned);
  book = λ h owned. ap (λ n. if makes_handle e h then book_opened e.op n else n) (same.book h owned);
  handles = λ t r owned. ap (with_handle catalog_handles t r (handle_made e.op e.reply)) (same.handles t r owned);
}

-- a free row of a thread of the set is free in both
free_alike : (c : CatalogSetting) (S : List ℕ) (G H : History) (t : ℕ) → SaysOfThreads S G H → has_thread S t ≡ true
    → free_row c G t ≡ free_row c H t
free_alike c S G H t same inside =
    free_row_alike (catalogs c) G H t (λ r. same.handles t r inside) (λ h owns. same.live h (ap (has_thread S) owns ∙ inside))

against_alike : (S : List ℕ) (G H : History) (h : CatalogHandle) → SaysOfThreads S G H → has_thread S h.owner ≡ true → against G h ≡ against H h
against_alike S G H h same owned =
    ap (λ b. if b then (if live G h then None else Some Stale) else Some NeverMade) (same.made h owned)
    ∙ ap (λ b. if made H h then (if b then None else Some Stale) else Some NeverMade) (same.live h owned)

opened_alike : (G H : History) (t : ℕ) (o : Option ℕ) → ((r : ℕ) → makes G t r ≡ makes H t r) → opened_in G t o ≡ opened_in H t o
opened_alike G H t None same = refl
opened_alike G H t (Some r) same = ap (λ n. Opened (nth catalog_handles t r (n + 1))) (same r)

-- a call of a thread of the set that names only its handles is answered alike
answer_alike : (c : CatalogSetting) (S : List ℕ) (G H : History) (t : ℕ) (op : Op) → SaysOfThreads S G H
    → has_thread S t ≡ true → is_own S (named_by op) ≡ true → answer c G t op ≡ answer c H t op
answer_alike c S G H t (Open number) same inside own =
    ap (opened_in G t) (free_alike c S G H t same inside)
    ∙ opened_alike G H t (free_row c H t) (λ r. ap length (same.handles t r inside))
answer_alike c S G H t (Get h) same inside own =
    ap (λ o. unless o (Book (book G h))) (against_alike S G H h same own)
    ∙ ap (λ n. unless (against H h) (Book n)) (same.book h own)
answer_alike c S G H t (Close h) same inside own = ap (λ o. unless o Closed) (against_alike S G H h same own)

-- the part of a legal history that is closed for the threads is legal, and says of them what the whole says
part_alike : (c : CatalogSetting) (S : List ℕ) (H : History) → IsLegal c H → IsClosed S H → IsLegal c (part_of S H) × SaysOfThreads S (part_of S H) H
part_alike c S [] legal closed = (tt, record { made = λ h owned. refl; live = λ h owned. refl; book = λ h owned. refl; handles = λ t r owned. refl })
part_alike c S (e ∷ H) legal closed =
    let below = part_alike c S H legal.1 closed.1 in
    elim (cases_Bool (has_thread S e.who)) [
      | inl inside ↦
          let same = answer_alike c S (part_of S H) H e.who e.op below.1 inside (apart_inside S e closed.0 inside) in
          subst (λ G. IsLegal c G × SaysOfThreads S G (e ∷ H)) (sym (ap (λ b. if b then e ∷ part_of S H else part_of S H) inside))
          ((legal.0 ∙ sym same, below.0), same_inside S e (part_of S H) H below.1)
      | inr outside ↦
          subst (λ G. IsLegal c G × SaysOfThreads S G (e ∷ H)) (sym (ap (λ b. if b then e ∷ part_of S H else part_of S H) outside))
          (below.0, same_outside c S e (part_of S H) H legal closed.0 outside below.1)
    ]

pub part_legal : (c : CatalogSetting) (S : List ℕ) (H : History) → IsLegal c H → IsClosed S H → IsLegal c (part_of S H)
part_legal c S H legal closed = (part_alike c S H legal closed).0

pub answer_apart : (c : CatalogSetting) (S : List ℕ) (H : History) (t : ℕ) (op : Op) (stamp : ℕ) → IsLegal c H → has_thread S t ≡ true
    → IsClosed S (entry c H t op stamp ∷ H) → answer c H t op ≡ answer c (part_of S H) t op
answer_apart c S H t op stamp legal inside closed =
    let both = part_alike c S H legal closed.1 in
    sym (answer_alike c S (part_of S H) H t op both.1 inside (apart_inside S (entry c H t op stamp) closed.0 inside))
