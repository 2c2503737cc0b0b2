-- Rows after a change of the one whose newest handle is named.
use Rattle.std.proofs.Common.{◌≡◌, ℕ, ◌*◌, ◌<◌, Bool, true, false, ◌==◌, length, refl, ap, sym, ◌∙◌, inl, inr, arith}
use Rattle.std.proofs.lemmas.Bool.{eq-eqb, lt-ltb, and_from, cases_Bool, false_from_ne_true, false≢true}
use Rattle.std.proofs.lemmas.List.{length-set, length-map, get_or-map}
use Rattle.std.proofs.lemmas.Nat.{mul-add-lt}
use Rattle.std.proofs.Math.Nat.{mul_comm}
use Rattle.std.specs.Prelude.{if◌then◌else◌, nat_lt}
use Rattle.generations.specs.Kind.{nth}
use Rattle.generations.specs.Rows.{is_inside}
use Rattle.generations.proofs.Says.{newest_is}
use Rattle.generations.proofs.Places.{cell_here, cell_elsewhere}
use Rattle.lc_base.specs.declared.handle.Handle.{Handle}
use Rattle.lc_base.specs.declared.handle.Named.{Named}
use Rattle.lc_base.specs.declared.handle.Named.TheVariants.{Global, Of}
use Rattle.handle_table.specs.declared.row.Row.{Row}
use Rattle.handle_table.specs.Numbers.{object_handles}
use Rattle.handle_table.specs.Entry.{Setting, names, same_handle}
use Rattle.generations.specs.Grid.{GridData, place, with_cell}
use Rattle.handle_table.specs.Row.{no_row, let_go}
use Rattle.handle_table.specs.Rows.{counts, row_at, is_newest, changed, all_let_go}
use Rattle.handle_table.specs.Kept.{HasLines}
use Rattle.handle_table.proofs.Numbering.{same_handles, same_itself}

-- a grid with another value has the same lines
pub shape_with : {A : Type 0} (c : Setting) (n : ℕ) (g : GridData A) (t r : ℕ) (x : A) → HasLines c n g → HasLines c n (with_cell g t r x)
shape_with c n g t r x shape = record {
  lines = shape.lines;
  width = shape.width;
  full = length-set g.items (place g.width t r) x ∙ shape.full;
}

-- the newest handle of a row, as the rows have it
abbrev pub last_handle : GridData Row → ℕ → ℕ → Handle
last_handle rows t r = nth object_handles t r (row_at rows t r).makes

pub is_newest_last : (rows : GridData Row) (t r : ℕ) → t < rows.lines → r < rows.width → is_newest rows (last_handle rows t r) ≡ true
is_newest_last rows t r line column =
    and_from (is_inside rows (object_handles.numbers (last_handle rows t r))) ((row_at rows t r).makes == (row_at rows t r).makes)
    (and_from (nat_lt t rows.lines) (nat_lt r rows.width) (lt-ltb t rows.lines line) (lt-ltb r rows.width column))
    (eq-eqb (row_at rows t r).makes (row_at rows t r).makes refl)

pub if_true : {A : Type 0} (b : Bool) (x y : A) → b ≡ true → (if b then x else y) ≡ x
if_true true x y is = refl
if_true false x y is = absurd (cc is)

pub if_false : {A : Type 0} (b : Bool) (x y : A) → b ≡ false → (if b then x else y) ≡ y
if_false true x y is = absurd (cc is)
if_false false x y is = refl

changed_here : (f : Row → Row) (rows : GridData Row) (h : Handle) (t r : ℕ) (b : Bool) → is_newest rows h ≡ b
    → length rows.items ≡ rows.lines * rows.width → t < rows.lines → r < rows.width
    → row_at (if b then with_cell rows h.owner h.row (f (row_at rows h.owner h.row)) else rows) t r
    ≡ (if same_handle h (last_handle rows t r) then f (row_at rows t r) else row_at rows t r)
changed_here f rows h t r false un full line column =
    sym (if_false (same_handle h (last_handle rows t r)) (f (row_at rows t r)) (row_at rows t r)
    (false_from_ne_true (same_handle h (last_handle rows t r)) (λ same.
    false≢true (sym un ∙ ap (is_newest rows) (same_handles h (last_handle rows t r) same) ∙ is_newest_last rows t r line column))))
changed_here f rows h t r true is full line column =
    let newest = newest_is object_handles counts rows h is in
    elim (cases_Bool (same_handle h (last_handle rows t r))) [
      | inl same ↦
          let one = same_handles h (last_handle rows t r) same in
          let owner : h.owner ≡ t = ap (λ (x : Handle). x.owner) one in
          let row : h.row ≡ r = ap (λ (x : Handle). x.row) one in
          ap (λ s. row_at (with_cell rows s h.row (f (row_at rows s h.row))) t r) owner
          ∙ ap (λ q. row_at (with_cell rows t q (f (row_at rows t q))) t r) row
          ∙ cell_here rows t r (f (row_at rows t r)) no_row full line column
          ∙ sym (if_true (same_handle h (last_handle rows t r)) (f (row_at rows t r)) (row_at rows t r) same)
      | inr other ↦
          cell_elsewhere rows h.owner h.row t r (f (row_at rows h.owner h.row)) no_row newest.1 column (λ same.
          false≢true (sym other ∙ ap (λ g. same_handle g (last_handle rows t r)) newest.2
          ∙ ap (λ s. same_handle (last_handle rows s h.row) (last_handle rows t r)) (sym same.0)
          ∙ ap (λ q. same_handle (last_handle rows t q) (last_handle rows t r)) (sym same.1)
          ∙ same_itself (last_handle rows t r)))
          ∙ sym (if_false (same_handle h (last_handle rows t r)) (f (row_at rows t r)) (row_at rows t r) other)
    ]

-- each row after a change: only the one whose newest handle is named is another
pub row_changed : (f : Row → Row) (rows : GridData Row) (n : Named) (t r : ℕ) → length rows.items ≡ rows.lines * rows.width
    → t < rows.lines → r < rows.width
    → row_at (changed f rows n) t r ≡ (if names n (last_handle rows t r) then f (row_at rows t r) else row_at rows t r)
row_changed f rows Global t r full line column = refl
row_changed f rows (Of h) t r full line column = changed_here f rows h t r (is_newest rows h) refl full line column

shape_if : (c : Setting) (n : ℕ) (b : Bool) (g k : GridData Row) → HasLines c n g → HasLines c n k → HasLines c n (if b then g else k)
shape_if c n true g k p q = p
shape_if c n false g k p q = q

-- a change keeps the lines
pub shape_changed : (c : Setting) (n : ℕ) (f : Row → Row) (rows : GridData Row) (named : Named) → HasLines c n rows
    → HasLines c n (changed f rows named)
shape_changed c n f rows Global shape = shape
shape_changed c n f rows (Of h) shape =
    shape_if c n (is_newest rows h) (with_cell rows h.owner h.row (f (row_at rows h.owner h.row))) rows
    (shape_with c n rows h.owner h.row (f (row_at rows h.owner h.row)) shape) shape

-- each row after the thread let go of all that it held
pub row_let_go : (w : ℕ) (rows : GridData Row) (t r : ℕ) → length rows.items ≡ rows.lines * rows.width → t < rows.lines → r < rows.width
    → row_at (all_let_go w rows) t r ≡ let_go w (row_at rows t r)
row_let_go w rows t r full line column =
    let below = mul-add-lt t rows.width r rows.lines line column in
    get_or-map (let_go w) rows.items (place rows.width t r) no_row no_row (omega (arith, mul_comm rows.width rows.lines))

pub shape_let_go : (c : Setting) (n w : ℕ) (rows : GridData Row) → HasLines c n rows → HasLines c n (all_let_go w rows)
shape_let_go c n w rows shape = record {
  lines = shape.lines;
  width = shape.width;
  full = length-map rows.items (let_go w) ∙ shape.full;
}
