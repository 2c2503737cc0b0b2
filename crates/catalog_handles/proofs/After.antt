-- What one more entry changes of what a history says, and the rows after it.
use Rattle.std.proofs.Common.{◌≡◌, ℕ, ◌+◌, ◌*◌, ◌<◌, Bool, true, false, ◌==◌, ◌&&◌, ◌||◌, not, ◌∷◌, length, None, Some, refl, ap, sym, ◌∙◌, subst, inl, inr, arith}
use Rattle.std.proofs.lemmas.Bool.{and_right, and_from, eq-eqb, cases_Bool, false_from_ne_true, false≢true}
use Rattle.std.proofs.lemmas.List.{length-set}
use Rattle.std.specs.Prelude.{if◌then◌else◌}
use Rattle.generations.specs.Making.{is_handle, with_handle}
use Rattle.generations.specs.Kind.{nth}
use Rattle.generations.specs.Grid.{GridData, place, with_cell}
use Rattle.generations.specs.Rows.{is_inside}
use Rattle.generations.proofs.Numbering.{in_row_numbers, same_handles, same_itself, more_in_row, same_elsewhere}
use Rattle.generations.proofs.Places.{cell_here, cell_elsewhere}
use Rattle.generations.proofs.Says.{newest_is, inside_is}
use Rattle.catalog_handles.specs.declared.handle.CatalogHandle.{CatalogHandle}
use Rattle.catalog_handles.specs.declared.setting.CatalogSetting.{CatalogSetting}
use Rattle.catalog_handles.specs.declared.op.CatalogRefusal.TheVariants.{NeverMade, Stale}
use Rattle.catalog_handles.specs.Entry.{Op, Open, Get, Close, Reply, Opened, Book, Closed, Refused, Entry, History, catalog_handles, same_handle, is_accepted}
use Rattle.catalog_handles.specs.History.{handle_made, making, makings, makes_handle, made, closes_handle, live, book_opened, book, handles, makes, catalogs, free_row}
use Rattle.catalog_handles.specs.Answer.{against, unless, opened_in, entry}
use Rattle.catalog_handles.specs.Rows.{RowData, no_row, counts, row_at, is_newest, closed, opened, after_open, after_close}
use Rattle.catalog_handles.specs.Kept.{newest, live_book, RowStands, Keeps}
use Rattle.catalog_handles.proofs.Newest.{live_made}
use Rattle.catalog_handles.proofs.Says.{rows_say}

-- ---- an entry that makes no handle

-- a refused op makes none
pub refused_makes : (op : Op) (reply : Reply) → is_accepted reply ≡ false → handle_made op reply ≡ None
refused_makes (Open number) (Opened h) p = absurd (cc p)
refused_makes (Open number) (Book n) p = refl
refused_makes (Open number) Closed p = refl
refused_makes (Open number) (Refused refusal) p = refl
refused_makes (Get h) reply p = refl
refused_makes (Close h) reply p = refl

pub handles_kept : (e : Entry) (H : History) (t r : ℕ) → handle_made e.op e.reply ≡ None → handles (e ∷ H) t r ≡ handles H t r
handles_kept e H t r none = ap (λ o. with_handle catalog_handles t r o (handles H t r)) none

pub made_kept : (e : Entry) (H : History) (h : CatalogHandle) → makes_handle e h ≡ false → made (e ∷ H) h ≡ made H h
made_kept e H h un = ap (λ b. b || made H h) un

pub live_kept : (e : Entry) (H : History) (h : CatalogHandle) → makes_handle e h ≡ false → closes_handle e h ≡ false → live (e ∷ H) h ≡ live H h
live_kept e H h un open_still =
    ap (λ b. not b && (makes_handle e h || live H h)) open_still ∙ ap (λ b. b || live H h) un

pub book_kept : (e : Entry) (H : History) (h : CatalogHandle) → makes_handle e h ≡ false → book (e ∷ H) h ≡ book H h
book_kept e H h un = ap (λ b. if b then book_opened e.op (book H h) else book H h) un

pub none_made : (e : Entry) (h : CatalogHandle) → handle_made e.op e.reply ≡ None → makes_handle e h ≡ false
none_made e h none = ap (λ o. is_handle catalog_handles o h) none

-- a row of which two histories say the same
row_kept : (G H : History) (t r : ℕ) (row : RowData) → makes G t r ≡ makes H t r → live G (newest H t r) ≡ live H (newest H t r)
    → book G (newest H t r) ≡ book H (newest H t r) → RowStands H t r row → RowStands G t r row
row_kept G H t r row count alive same s = record {
  makes = s.makes ∙ sym count;
  book = s.book
      ∙ ap (λ b. if b then Some (book H (newest H t r)) else None) (sym alive)
      ∙ ap (λ n. if live G (newest H t r) then Some n else None) (sym same)
      ∙ ap (λ n. live_book G (nth catalog_handles t r n)) (sym count);
}

-- ---- an Open

-- an accepted Open makes the next handle of its row
open_makes : (c : CatalogSetting) (H : History) (w r number : ℕ) → free_row c H w ≡ Some r
    → (making (entry c H w (Open number) 0)).handle ≡ Some (nth catalog_handles w r (makes H w r + 1))
open_makes c H w r number found = ap (λ o. handle_made (Open number) (opened_in H w o)) found

-- the handle of an accepted Open is live, and has its catalog
open_live : (c : CatalogSetting) (H : History) (w r number : ℕ) → free_row c H w ≡ Some r
    → live_book (entry c H w (Open number) 0 ∷ H) (nth catalog_handles w r (makes H w r + 1)) ≡ Some number
open_live c H w r number found =
    let e : Entry = entry c H w (Open number) 0 in
    let h : CatalogHandle = nth catalog_handles w r (makes H w r + 1) in
    let makes_it : makes_handle e h ≡ true =
    ap (λ o. is_handle catalog_handles (handle_made (Open number) (opened_in H w o)) h) found ∙ same_itself catalog_handles h
    in
    ap (λ b. if not b && (makes_handle e h || live H h) then Some (book (e ∷ H) h) else None) (and_right (is_accepted e.reply) false refl)
    ∙ ap (λ b. if b || live H h then Some (if b then number else book H h) else None) makes_it

keeps_open_here : (c : CatalogSetting) (H : History) (w r number : ℕ) (row : RowData) → free_row c H w ≡ Some r → RowStands H w r row
    → RowStands (entry c H w (Open number) 0 ∷ H) w r (opened number row)
keeps_open_here c H w r number row found s =
    let e : Entry = entry c H w (Open number) 0 in
    let h : CatalogHandle = nth catalog_handles w r (makes H w r + 1) in
    let count : makes (e ∷ H) w r ≡ makes H w r + 1 = more_in_row catalog_handles (making e) (makings H) w r (open_makes c H w r number found)
    in record {
      makes = ap (λ n. n + 1) s.makes ∙ sym count;
      book = sym (ap (λ n. live_book (e ∷ H) (nth catalog_handles w r n)) count ∙ open_live c H w r number found);
    }

keeps_open_elsewhere : (c : CatalogSetting) (H : History) (w r number t q : ℕ) (row : RowData) → free_row c H w ≡ Some r
    → ((t ≡ w) × (q ≡ r) → ⊥) → RowStands H t q row → RowStands (entry c H w (Open number) 0 ∷ H) t q row
keeps_open_elsewhere c H w r number t q row found apart s =
    let e : Entry = entry c H w (Open number) 0 in
    let h : CatalogHandle = nth catalog_handles w r (makes H w r + 1) in
    let un : makes_handle e (newest H t q) ≡ false =
    ap (λ o. is_handle catalog_handles (handle_made (Open number) (opened_in H w o)) (newest H t q)) found
    ∙ false_from_ne_true (same_handle h (newest H t q)) (λ is.
    let one = same_handles catalog_handles h (newest H t q) is in
    apart (sym (ap (λ (x : CatalogHandle). x.owner) one), sym (ap (λ (x : CatalogHandle). x.row) one)))
    in
    row_kept (e ∷ H) H t q row
    (same_elsewhere catalog_handles (making e) (makings H) w r t q (open_makes c H w r number found) apart)
    (live_kept e H (newest H t q) un (and_right (is_accepted e.reply) false refl))
    (book_kept e H (newest H t q) un) s

pub keeps_open : (c : CatalogSetting) (H : History) (w r number : ℕ) (rows : GridData RowData) → w < c.threads → r < rows.width
    → free_row c H w ≡ Some r → Keeps c H rows → Keeps c (entry c H w (Open number) 0 ∷ H) (after_open rows w r number)
keeps_open c H w r number rows caller inside found k =
    let next : RowData = opened number (row_at rows w r) in
    let lines = k.lines in
    let width = k.width in record {
      legal = (refl, k.legal);
      callers = (caller, k.callers);
      lines = k.lines;
      width = k.width;
      full = length-set rows.items (place rows.width w r) next ∙ k.full;
      each = λ t q line column.
          let stands = k.each t q line column in
          elim (cases_Bool (t == w && q == r)) [
            | inl is ↦
                let at = in_row_numbers catalog_handles w r (nth catalog_handles t q 0) is in
                let here = keeps_open_here c H w r number (row_at rows w r) found (k.each w r caller (omega arith)) in
                subst (λ s. RowStands (entry c H w (Open number) 0 ∷ H) s q (row_at (after_open rows w r number) s q)) (sym at.0)
                (subst (λ p. RowStands (entry c H w (Open number) 0 ∷ H) w p (row_at (after_open rows w r number) w p)) (sym at.1)
                (subst (RowStands (entry c H w (Open number) 0 ∷ H) w r)
                (sym (cell_here rows w r next no_row k.full (omega arith) inside)) here))
            | inr other ↦
                let apart : (t ≡ w) × (q ≡ r) → ⊥ = λ same.
                false≢true (sym other ∙ and_from (t == w) (q == r) (eq-eqb t w same.0) (eq-eqb q r same.1))
                in
                subst (RowStands (entry c H w (Open number) 0 ∷ H) t q)
                (sym (cell_elsewhere rows w r t q next no_row inside (omega arith) apart))
                (keeps_open_elsewhere c H w r number t q (row_at rows t q) found apart stands)
          ];
    }

-- an Open without a free row is refused, and changes nothing
pub keeps_full : (c : CatalogSetting) (H : History) (w number : ℕ) (rows : GridData RowData) → w < c.threads → free_row c H w ≡ None → Keeps c H rows
    → Keeps c (entry c H w (Open number) 0 ∷ H) rows
keeps_full c H w number rows caller full k =
    let e : Entry = entry c H w (Open number) 0 in
    let none : handle_made e.op e.reply ≡ None = ap (λ o. handle_made (Open number) (opened_in H w o)) full in record {
      legal = (refl, k.legal);
      callers = (caller, k.callers);
      lines = k.lines;
      width = k.width;
      full = k.full;
      each = λ t r line column.
          let un = none_made e (newest H t r) none in
          row_kept (e ∷ H) H t r (row_at rows t r) (ap length (handles_kept e H t r none))
          (live_kept e H (newest H t r) un (and_right (is_accepted e.reply) false refl)) (book_kept e H (newest H t r) un) (k.each t r line column);
    }

-- ---- a Close

-- nothing is against a live handle
pub against_live : (H : History) (h : CatalogHandle) → live H h ≡ true → against H h ≡ None
against_live H h alive =
    ap (λ b. if b then (if live H h then None else Some Stale) else Some NeverMade) (live_made H h alive)
    ∙ ap (λ b. if b then None else Some Stale) alive

-- no handle is live after its Close, whether it was accepted or not
closed_now : (c : CatalogSetting) (H : History) (w : ℕ) (h : CatalogHandle) → live (entry c H w (Close h) 0 ∷ H) h ≡ false
closed_now c H w h =
    let e : Entry = entry c H w (Close h) 0 in
    elim (cases_Bool (live H h)) [
      | inl alive ↦
          ap (λ o. not (is_accepted (unless o Closed) && same_handle h h) && live H h) (against_live H h alive)
          ∙ ap (λ b. not b && live H h) (same_itself catalog_handles h)
      | inr dead ↦ and_right (not (closes_handle e h)) (live H h) dead
    ]

-- the other handles stay as they were
close_leaves : (c : CatalogSetting) (H : History) (w : ℕ) (g h : CatalogHandle) → same_handle g h ≡ false → live (entry c H w (Close g) 0 ∷ H) h ≡ live H h
close_leaves c H w g h other =
    let e : Entry = entry c H w (Close g) 0 in
    live_kept e H h refl (and_right (is_accepted e.reply) (same_handle g h) other)

-- the row of a handle that is closed
row_closed_here : (rows : GridData RowData) (h : CatalogHandle) → length rows.items ≡ rows.lines * rows.width → is_newest rows h ≡ true
    → row_at (after_close rows h) h.owner h.row ≡ closed (row_at rows h.owner h.row)
row_closed_here rows h full is =
    let at = newest_is catalog_handles counts rows h is in
    ap (λ b. row_at (if b then with_cell rows h.owner h.row (closed (row_at rows h.owner h.row)) else rows) h.owner h.row) is
    ∙ cell_here rows h.owner h.row (closed (row_at rows h.owner h.row)) no_row full at.0 at.1

row_closed_elsewhere : (rows : GridData RowData) (h : CatalogHandle) (t r : ℕ) → r < rows.width
    → same_handle h (nth catalog_handles t r (row_at rows t r).makes) ≡ false → row_at (after_close rows h) t r ≡ row_at rows t r
row_closed_elsewhere rows h t r column other =
    elim (cases_Bool (is_newest rows h)) [
      | inr un ↦ ap (λ b. row_at (if b then with_cell rows h.owner h.row (closed (row_at rows h.owner h.row)) else rows) t r) un
      | inl is ↦
          let at = newest_is catalog_handles counts rows h is in
          ap (λ b. row_at (if b then with_cell rows h.owner h.row (closed (row_at rows h.owner h.row)) else rows) t r) is
          ∙ cell_elsewhere rows h.owner h.row t r (closed (row_at rows h.owner h.row)) no_row at.1 column (λ same.
          false≢true (sym other ∙ ap (λ g. same_handle g (nth catalog_handles t r (row_at rows t r).makes)) at.2
          ∙ ap (λ s. same_handle (nth catalog_handles s h.row (row_at rows s h.row).makes) (nth catalog_handles t r (row_at rows t r).makes)) (sym same.0)
          ∙ ap (λ q. same_handle (nth catalog_handles t q (row_at rows t q).makes) (nth catalog_handles t r (row_at rows t r).makes)) (sym same.1)
          ∙ same_itself catalog_handles (nth catalog_handles t r (row_at rows t r).makes)))
    ]

full_after : (rows : GridData RowData) (h : CatalogHandle) (b : Bool) → length rows.items ≡ rows.lines * rows.width
    → length (if b then with_cell rows h.owner h.row (closed (row_at rows h.owner h.row)) else rows).items ≡ rows.lines * rows.width
full_after rows h true full = length-set rows.items (place rows.width h.owner h.row) (closed (row_at rows h.owner h.row)) ∙ full
full_after rows h false full = full

pub lines_after : (rows : GridData RowData) (h : CatalogHandle) (b : Bool)
    → (if b then with_cell rows h.owner h.row (closed (row_at rows h.owner h.row)) else rows).lines ≡ rows.lines
lines_after rows h true = refl
lines_after rows h false = refl

width_after : (rows : GridData RowData) (h : CatalogHandle) (b : Bool)
    → (if b then with_cell rows h.owner h.row (closed (row_at rows h.owner h.row)) else rows).width ≡ rows.width
width_after rows h true = refl
width_after rows h false = refl

-- the row whose newest handle is closed
keeps_closed_row : (c : CatalogSetting) (H : History) (w : ℕ) (h : CatalogHandle) (t r : ℕ) (row : RowData) → h ≡ newest H t r → RowStands H t r row
    → RowStands (entry c H w (Close h) 0 ∷ H) t r (closed row)
keeps_closed_row c H w h t r row is s =
    let G : History = entry c H w (Close h) 0 ∷ H in record {
      makes = s.makes;
      book = sym (ap (live_book G) (sym is) ∙ ap (λ b. if b then Some (book G h) else None) (closed_now c H w h));
    }

pub keeps_close : (c : CatalogSetting) (H : History) (w : ℕ) (h : CatalogHandle) (rows : GridData RowData) → w < c.threads → Keeps c H rows
    → Keeps c (entry c H w (Close h) 0 ∷ H) (after_close rows h)
keeps_close c H w h rows caller k =
    let e : Entry = entry c H w (Close h) 0 in
    let G : History = e ∷ H in
    let lines = lines_after rows h (is_newest rows h) in
    let width = width_after rows h (is_newest rows h) in record {
      legal = (refl, k.legal);
      callers = (caller, k.callers);
      lines = lines ∙ k.lines;
      width = width ∙ k.width;
      full = full_after rows h (is_newest rows h) k.full
          ∙ ap (λ n. n * rows.width) (sym lines) ∙ ap (λ n. (after_close rows h).lines * n) (sym width);
      each = λ t r line column.
          let stands = k.each t r line column in
          let now = k.width in
          elim (cases_Bool (same_handle h (newest H t r))) [
            | inl same ↦
                let is = same_handles catalog_handles h (newest H t r) same in
                let owner : h.owner ≡ t = ap (λ (x : CatalogHandle). x.owner) is in
                let row : h.row ≡ r = ap (λ (x : CatalogHandle). x.row) is in
                let generation : h.generation ≡ makes H t r = ap (λ (x : CatalogHandle). x.generation) is in
                let last : is_newest rows h ≡ true =
                and_from (is_inside rows (catalog_handles.numbers h)) ((row_at rows h.owner h.row).makes == h.generation)
                (inside_is (catalogs c) counts c.threads H rows (catalog_handles.numbers h) (rows_say c H rows k) (omega arith) (omega arith))
                (eq-eqb (row_at rows h.owner h.row).makes h.generation
                (ap (λ s. (row_at rows s h.row).makes) owner ∙ ap (λ q. (row_at rows t q).makes) row ∙ stands.makes ∙ sym generation))
                in
                let changed : row_at (after_close rows h) t r ≡ closed (row_at rows t r) =
                ap (λ s. row_at (after_close rows h) s r) (sym owner) ∙ ap (row_at (after_close rows h) h.owner) (sym row)
                ∙ row_closed_here rows h k.full last
                ∙ ap (λ s. closed (row_at rows s h.row)) owner ∙ ap (λ q. closed (row_at rows t q)) row
                in
                subst (RowStands G t r) (sym changed) (keeps_closed_row c H w h t r (row_at rows t r) is stands)
            | inr other ↦
                subst (RowStands G t r)
                (sym (row_closed_elsewhere rows h t r (omega arith) (ap (λ n. same_handle h (nth catalog_handles t r n)) stands.makes ∙ other)))
                (row_kept G H t r (row_at rows t r) refl (close_leaves c H w h (newest H t r) other) refl stands)
          ];
    }

-- what is kept after a call, where the setting and the rows are given by what they are
pub keeps_after : (c d : CatalogSetting) (H : History) (w : ℕ) (op : Op) (rows after : GridData RowData) → c ≡ d → after ≡ rows
    → Keeps c (entry c H w op 0 ∷ H) rows → Keeps c (entry d H w op 0 ∷ H) after
keeps_after c d H w op rows after same to k =
    subst (λ s. Keeps c (entry s H w op 0 ∷ H) after) same (subst (Keeps c (entry c H w op 0 ∷ H)) (sym to) k)

-- no stamp says anything of handles
pub any_stamp : (c d : CatalogSetting) (H : History) (w : ℕ) (op : Op) (stamp : ℕ) (rows : GridData RowData) → Keeps c (entry d H w op 0 ∷ H) rows
    → Keeps c (entry d H w op stamp ∷ H) rows
any_stamp c d H w op stamp rows k = record {
  legal = k.legal;
  callers = k.callers;
  lines = k.lines;
  width = k.width;
  full = k.full;
  each = λ t r line column. let s = k.each t r line column in record { makes = s.makes; book = s.book };
}
