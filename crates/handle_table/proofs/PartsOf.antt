-- The objects, selections, cells, shelf and global locale of a table after each entry are as the longer history says.
use Rattle.std.proofs.Common.{◌≡◌, ℕ, suc, ◌+◌, ◌<◌, true, ◌==◌, List, ◌∷◌, length, Option, None, Some, refl, ap, sym, ◌∙◌, inl, inr, arith, add-one, get_or-set_same, get_or-set_other}
use Rattle.std.proofs.lemmas.Bool.{eq-eqb, ne_eqb, or_cases, cases_Bool, cases_eq, false_from_ne_true, false≢true}
use Rattle.std.proofs.lemmas.List.{length-set}
use Rattle.std.specs.Prelude.{if◌then◌else◌, slice_set, slice_index_or, unwrap_or}
use Rattle.mask_compose.specs.Parts.{Parts, composed}
use Rattle.mask_compose.specs.Offer.{Offered, no_offer}
use Rattle.global_locale.specs.Versioned.{Versioned}
use Rattle.generations.specs.Kind.{nth}
use Rattle.generations.specs.Making.{is_handle}
use Rattle.generations.proofs.Places.{cell_here, cell_elsewhere}
use Rattle.lc_base.specs.declared.handle.Handle.{Handle}
use Rattle.lc_base.specs.declared.handle.Named.{Named}
use Rattle.lc_base.specs.declared.handle.Named.TheVariants.{Global, Of}
use Rattle.handle_table.specs.Numbers.{object_handles}
use Rattle.handle_table.specs.Entry.{New, SetGlobal, Install, Entry, History, Setting, is_accepted, same_handle}
use Rattle.handle_table.specs.Shelf.{opening_offer, shelf, from_shelf}
use Rattle.handle_table.specs.History.{handle_made, makes_handle, made, makes, object, selection_after, selection, is_kept, posted, sets, global}
use Rattle.handle_table.specs.Answer.{answer, entry, IsLegal}
use Rattle.generations.specs.Grid.{GridData, cell, with_cell}
use Rattle.handle_table.specs.Kept.{newest, ObjectsStand, SelectionsStand, CellsStand, ShelfStands, GlobalStands}
use Rattle.handle_table.proofs.Numbering.{same_handles}
use Rattle.handle_table.proofs.Gone.{gone_stays, unmade_gone}
use Rattle.handle_table.proofs.Pinned.{gone_unkept, unkept_gone}
use Rattle.handle_table.proofs.Changes.{object_stays, object_rebuilt, selection_of_other, selection_of_caller, sets_accepted, global_accepted, handles_kept, made_kept}
use Rattle.handle_table.proofs.Same.{MakesNext, cases_place, more_in_row, same_elsewhere}
use Rattle.handle_table.proofs.Changed.{shape_with, if_true, if_false}

-- ---- objects

-- what is kept after an entry was kept before, unless the entry made it
kept_before : (c : Setting) (e : Entry) (H : History) (h : Handle) → IsLegal c (e ∷ H) → made H h ≡ true → is_kept c (e ∷ H) h ≡ true
    → is_kept c H h ≡ true
kept_before c e H h legal before kept =
    elim (cases_Bool (is_kept c H h)) [
      | inl is ↦ is
      | inr un ↦ absurd (false≢true (sym (gone_unkept c (e ∷ H) h (gone_stays c e H h legal before (unkept_gone c H h un))) ∙ kept))
    ]

-- what is kept was made
kept_made : (c : Setting) (H : History) (h : Handle) → IsLegal c H → is_kept c H h ≡ true → made H h ≡ true
kept_made c H h legal kept =
    elim (cases_Bool (made H h)) [
      | inl is ↦ is
      | inr un ↦ absurd (false≢true (sym (gone_unkept c H h (unmade_gone c H h legal un)) ∙ kept))
    ]

-- an entry that makes no handle, and has none as a base, leaves the objects
pub objects_kept : (c : Setting) (e : Entry) (H : History) (objects : GridData Parts) → IsLegal c (e ∷ H) → handle_made e.op e.reply ≡ None
    → ((h : Handle) → made H h ≡ true → object c (e ∷ H) h ≡ object c H h) → ObjectsStand c H objects → ObjectsStand c (e ∷ H) objects
objects_kept c e H objects legal none same s = record {
  shape = s.shape;
  each = λ t r line column kept.
      let still : newest (e ∷ H) t r ≡ newest H t r = ap (λ hs. nth object_handles t r (length hs)) (handles_kept e H t r none) in
      let after : is_kept c (e ∷ H) (newest H t r) ≡ true = ap (is_kept c (e ∷ H)) (sym still) ∙ kept in
      let before : made H (newest H t r) ≡ true =
      sym (made_kept e H (newest H t r) none) ∙ kept_made c (e ∷ H) (newest H t r) legal after
      in
      s.each t r line column (kept_before c e H (newest H t r) legal before after)
      ∙ sym (ap (object c (e ∷ H)) still ∙ same (newest H t r) before);
}

-- an accepted New with a base gives its handle another object
pub objects_of_base : (c : Setting) (H : History) (w mask : ℕ) (numbers : List ℕ) (b : Handle) (objects : GridData Parts) (x : Parts)
    → IsLegal c H → is_accepted (answer c H w (New mask numbers (Some (Of b)))) ≡ true → b.owner < c.threads → b.row < c.rows
    → newest H b.owner b.row ≡ b → x ≡ composed mask (from_shelf c H mask numbers) (object c H b)
    → ObjectsStand c H objects → ObjectsStand c (entry c H w (New mask numbers (Some (Of b))) ∷ H) (with_cell objects b.owner b.row x)
objects_of_base c H w mask numbers b objects x legal accepted owner row last is s =
    let e : Entry = entry c H w (New mask numbers (Some (Of b))) in
    let lines = s.shape.lines in
    let width = s.shape.width in record {
      shape = shape_with c c.rows objects b.owner b.row x s.shape;
      each = λ t r line column kept.
          elim (cases_place t r b.owner b.row) [
            | inl here ↦
                ap (λ n. cell (with_cell objects b.owner b.row x) n r no_offer.object) here.0
                ∙ ap (λ n. cell (with_cell objects b.owner b.row x) b.owner n no_offer.object) here.1
                ∙ cell_here objects b.owner b.row x no_offer.object s.shape.full (omega arith) (omega arith)
                ∙ is
                ∙ sym (ap (λ n. object c (e ∷ H) (newest H n r)) here.0 ∙ ap (λ n. object c (e ∷ H) (newest H b.owner n)) here.1
                ∙ ap (object c (e ∷ H)) last ∙ object_rebuilt c e H b mask numbers (refl, legal) refl accepted)
            | inr apart ↦
                let before = kept_made c (e ∷ H) (newest H t r) (refl, legal) kept in
                cell_elsewhere objects b.owner b.row t r x no_offer.object (omega arith) (omega arith) apart
                ∙ s.each t r line column (kept_before c e H (newest H t r) (refl, legal) before kept)
                ∙ sym (object_stays c e H (newest H t r) (refl, legal) before
                (false_from_ne_true (same_handle b (newest H t r)) (λ same.
                let one = same_handles b (newest H t r) same in
                apart (sym (ap (λ (g : Handle). g.owner) one), sym (ap (λ (g : Handle). g.row) one)))))
          ];
    }

-- an entry that makes a handle gives it its object
pub objects_of_make : (c : Setting) (e : Entry) (H : History) (w q : ℕ) (objects : GridData Parts) (x : Parts) → IsLegal c (e ∷ H)
    → w < c.threads → q < c.rows → MakesNext c e H w q → x ≡ object c (e ∷ H) (nth object_handles w q (makes H w q + 1))
    → ((h : Handle) → made H h ≡ true → object c (e ∷ H) h ≡ object c H h)
    → ObjectsStand c H objects → ObjectsStand c (e ∷ H) (with_cell objects w q x)
objects_of_make c e H w q objects x legal caller row next is same s =
    let G : History = e ∷ H in
    let lines = s.shape.lines in
    let width = s.shape.width in record {
      shape = shape_with c c.rows objects w q x s.shape;
      each = λ t r line column kept.
          elim (cases_place t r w q) [
            | inl here ↦
                ap (λ n. cell (with_cell objects w q x) n r no_offer.object) here.0
                ∙ ap (λ n. cell (with_cell objects w q x) w n no_offer.object) here.1
                ∙ cell_here objects w q x no_offer.object s.shape.full (omega arith) (omega arith)
                ∙ is
                ∙ sym (ap (λ n. object c G (newest G n r)) here.0 ∙ ap (λ n. object c G (newest G w n)) here.1
                ∙ ap (λ n. object c G (nth object_handles w q n)) (more_in_row c e H w q next))
            | inr apart ↦
                let still : newest G t r ≡ newest H t r = ap (nth object_handles t r) (same_elsewhere c e H w q t r next apart) in
                let after : is_kept c G (newest H t r) ≡ true = ap (is_kept c G) (sym still) ∙ kept in
                let before : made H (newest H t r) ≡ true =
                elim (or_cases (makes_handle e (newest H t r)) (made H (newest H t r)) (kept_made c G (newest H t r) legal after)) [
                  | inr earlier ↦ earlier
                  | inl new ↦
                      let one = same_handles (nth object_handles w q (makes H w q + 1)) (newest H t r) (ap (λ o. is_handle object_handles o (newest H t r)) (sym next.makes) ∙ new) in
                      absurd (apart (sym (ap (λ (g : Handle). g.owner) one), sym (ap (λ (g : Handle). g.row) one)))
                ]
                in
                cell_elsewhere objects w q t r x no_offer.object (omega arith) (omega arith) apart
                ∙ s.each t r line column (kept_before c e H (newest H t r) legal before after)
                ∙ sym (ap (object c G) still ∙ same (newest H t r) before)
          ];
    }

-- ---- selections

-- entries that change no selection
pub selections_kept : (c : Setting) (H G : History) (selections : List Named) → ((t : ℕ) → selection G t ≡ selection H t)
    → SelectionsStand c H selections → SelectionsStand c G selections
selections_kept c H G selections same s = record {
  count = s.count;
  each = λ t line. s.each t line ∙ sym (same t);
}

-- an accepted op after which the thread selects what is written for it
pub selections_written : (c : Setting) (e : Entry) (H : History) (n : Named) (selections : List Named) → is_accepted e.reply ≡ true
    → selection_after e.op (selection H e.who) ≡ n → SelectionsStand c H selections → SelectionsStand c (e ∷ H) (slice_set selections e.who n)
selections_written c e H n selections accepted is s =
    let count = s.count in record {
      count = length-set selections e.who n ∙ s.count;
      each = λ t line.
          elim (cases_eq e.who t) [
            | inl same ↦
                ap (λ k. slice_index_or (slice_set selections k n) t Global) same
                ∙ get_or-set_same selections t n Global (omega arith) ∙ sym is ∙ ap (λ k. selection_after e.op (selection H k)) same
                ∙ sym (selection_of_caller e H t same accepted)
            | inr other ↦
                get_or-set_other selections e.who t n Global (λ same. other (sym same)) ∙ s.each t line ∙ sym (selection_of_other e H t other)
          ];
    }

-- ---- cells

pub cells_kept : (c : Setting) (H G : History) (cells : GridData (Option Handle)) → ((t k : ℕ) → posted G t k ≡ posted H t k)
    → CellsStand c H cells → CellsStand c G cells
cells_kept c H G cells same s = record {
  shape = s.shape;
  each = λ t k line column. s.each t k line column ∙ sym (same t k);
}

-- ---- the shelf

pub shelf_kept : (c : Setting) (H G : History) (installed : List (Option Offered)) → ((n : ℕ) → shelf c G n ≡ shelf c H n)
    → ShelfStands c H installed → ShelfStands c G installed
shelf_kept c H G installed same s = record {
  count = s.count;
  each = λ n on. s.each n on ∙ sym (same n);
}

offer_here : (m n : ℕ) (x y : Offered) → m ≡ n → (if m == n then x else y) ≡ x
offer_here m n x y same = if_true (m == n) x y (eq-eqb m n same)

offer_elsewhere : (m n : ℕ) (x y : Offered) → (m ≡ n → ⊥) → (if m == n then x else y) ≡ y
offer_elsewhere m n x y other = if_false (m == n) x y (ne_eqb m n other)

-- an Install puts its offer under its number
pub shelf_of_install : (c : Setting) (H : History) (w m : ℕ) (offer : Offered) (installed : List (Option Offered)) → m < length c.opening
    → ShelfStands c H installed → ShelfStands c (entry c H w (Install m offer) ∷ H) (slice_set installed m (Some offer))
shelf_of_install c H w m offer installed on s =
    let count = s.count in record {
      count = length-set installed m (Some offer) ∙ s.count;
      each = λ n below.
          elim (cases_eq m n) [
            | inl same ↦
                ap (λ k. unwrap_or (slice_index_or (slice_set installed k (Some offer)) n None) (opening_offer c n)) same
                ∙ ap (λ o. unwrap_or o (opening_offer c n)) (get_or-set_same installed n (Some offer) None (omega arith))
                ∙ sym (offer_here m n offer (shelf c H n) same)
            | inr other ↦
                ap (λ o. unwrap_or o (opening_offer c n)) (get_or-set_other installed m n (Some offer) None (λ same. other (sym same)))
                ∙ s.each n below ∙ sym (offer_elsewhere m n offer (shelf c H n) other)
          ];
    }

-- ---- the global locale

pub global_kept : (c : Setting) (H G : History) (held : Versioned) → sets G ≡ sets H → global c G ≡ global c H
    → GlobalStands c H held → GlobalStands c G held
global_kept c H G held same_sets same_object s = record {
  version = s.version ∙ sym same_sets;
  object = s.object ∙ sym same_object;
}

-- an accepted SetGlobal makes the next version
pub global_of_set : (c : Setting) (H : History) (w mask : ℕ) (numbers : List ℕ) (held : Versioned) (picks : Parts)
    → is_accepted (answer c H w (SetGlobal mask numbers)) ≡ true → picks ≡ from_shelf c H mask numbers → GlobalStands c H held
    → GlobalStands c (entry c H w (SetGlobal mask numbers) ∷ H)
    (record { version = held.version + 1; object = composed mask picks held.object })
global_of_set c H w mask numbers held picks accepted is s =
    let e : Entry = entry c H w (SetGlobal mask numbers) in record {
      version = add-one held.version ∙ ap suc s.version ∙ sym (sets_accepted e H accepted);
      object = ap (λ p. composed mask p held.object) is ∙ ap (composed mask (from_shelf c H mask numbers)) s.object ∙ sym (global_accepted c e H accepted);
    }
