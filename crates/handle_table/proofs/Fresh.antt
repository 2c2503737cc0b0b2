-- What is kept before any call is what the empty history says.
use Rattle.std.proofs.Common.{◌≡◌, ℕ, ◌*◌, ◌<◌, ◌≤◌, false, List, [], length, replicate, Option, None, refl, ap, sym, ◌∙◌, arith}
use Rattle.std.proofs.lemmas.Bool.{false≢true}
use Rattle.std.proofs.lemmas.List.{get_or-replicate, length-replicate}
use Rattle.std.proofs.lemmas.Nat.{mul-add-lt}
use Rattle.std.proofs.Math.Nat.{mul_comm}
use Rattle.std.specs.Prelude.{unwrap_or, slice_index_or, nat_lt}
use Rattle.mask_compose.specs.Parts.{Parts}
use Rattle.mask_compose.specs.Offer.{Offered}
use Rattle.lc_base.specs.declared.handle.Handle.{Handle}
use Rattle.lc_base.specs.declared.handle.Named.{Named}
use Rattle.lc_base.specs.declared.handle.Named.TheVariants.{Global}
use Rattle.handle_table.specs.declared.row.Row.{Row}
use Rattle.handle_table.specs.Limits.{MAX_THREADS}
use Rattle.lc_base.specs.Cells.{CELLS}
use Rattle.handle_table.specs.Entry.{Setting}
use Rattle.handle_table.specs.Shelf.{opening_offer}
use Rattle.handle_table.specs.History.{pins}
use Rattle.generations.specs.Grid.{GridData, place, cell}
use Rattle.handle_table.specs.Row.{no_row, is_held}
use Rattle.handle_table.specs.Rows.{row_at}
use Rattle.handle_table.specs.Kept.{newest, RowStands, HasLines, RowsStand, ObjectsStand, SelectionsStand, CellsStand, ShelfStands}
use Rattle.handle_table.proofs.Pinned.{ways, sum_none, pins_counted}

-- no handle has pins
unpinned_at_first : (c : Setting) (h : Handle) → pins c [] h ≡ 0
unpinned_at_first c h = pins_counted c [] h ∙ sum_none (ways [] h) c.threads (λ t lt. refl)

fresh_row : (c : Setting) (t r : ℕ) (row : Row) → c.threads ≤ MAX_THREADS → row ≡ record { makes = 0; is_live = false; pins = 0; holds = replicate MAX_THREADS false }
    → RowStands c [] t r row
fresh_row c t r row few is = record {
  marks = ap (λ (x : Row). length x.holds) is;
  makes = ap (λ (x : Row). x.makes) is;
  live = ap (λ (x : Row). x.is_live) is;
  pins = ap (λ (x : Row). x.pins) is ∙ sym (unpinned_at_first c (newest [] t r));
  holding = λ w caller. ap (is_held w) is ∙ get_or-replicate MAX_THREADS w false false (omega arith);
}

-- a grid of one value has it everywhere
fresh_cell : {A : Type 0} (c : Setting) (n : ℕ) (x d : A) (t r : ℕ) → t < c.threads → r < n
    → slice_index_or (replicate (c.threads * n) x) (place n t r) d ≡ x
fresh_cell c n x d t r line column =
    let below = mul-add-lt t n r c.threads line column in
    get_or-replicate (c.threads * n) (place n t r) x d (omega (arith, mul_comm n c.threads))

-- the row of a grid of empty rows
abbrev pub empty_row : Row
empty_row = record { makes = 0; is_live = false; pins = 0; holds = replicate MAX_THREADS false }

shape_fresh : {A : Type 0} (c : Setting) (n : ℕ) (g : GridData A) (xs : List A) → g ≡ record { lines = c.threads; width = n; items = xs } → length xs ≡ c.threads * n → HasLines c n g
shape_fresh {A = A} c n g xs is full = record {
  lines = ap (λ (x : GridData A). x.lines) is;
  width = ap (λ (x : GridData A). x.width) is;
  full = ap (λ (x : GridData A). length x.items) is ∙ full ∙ sym (ap (λ (x : GridData A). x.lines * x.width) is);
}

cell_fresh : {A : Type 0} (c : Setting) (n : ℕ) (g : GridData A) (xs : List A) (x d : A) (t r : ℕ) → g ≡ record { lines = c.threads; width = n; items = xs }
    → xs ≡ replicate (c.threads * n) x → t < c.threads → r < n → cell g t r d ≡ x
cell_fresh {A = A} c n g xs x d t r is items line column =
    ap (λ (y : GridData A). cell y t r d) is
    ∙ ap (λ ys. slice_index_or ys (place n t r) d) items
    ∙ fresh_cell c n x d t r line column

pub rows_fresh : (c : Setting) (rows : GridData Row) (xs : List Row) → c.threads ≤ MAX_THREADS → rows ≡ record { lines = c.threads; width = c.rows; items = xs }
    → xs ≡ replicate (c.threads * c.rows) empty_row → RowsStand c [] rows
rows_fresh c rows xs few is items = record {
  few = few;
  shape = shape_fresh c c.rows rows xs is (ap length items ∙ length-replicate (c.threads * c.rows) empty_row);
  each = λ t r line column. fresh_row c t r (row_at rows t r) few (cell_fresh c c.rows rows xs empty_row no_row t r is items line column);
}

pub objects_fresh : (c : Setting) (objects : GridData Parts) (xs : List Parts) → objects ≡ record { lines = c.threads; width = c.rows; items = xs }
    → length xs ≡ c.threads * c.rows → ObjectsStand c [] objects
objects_fresh c objects xs is full = record {
  shape = shape_fresh c c.rows objects xs is full;
  each = λ t r line column kept_one. absurd (false≢true (sym (ap (λ n. nat_lt 0 n) (unpinned_at_first c (newest [] t r))) ∙ kept_one));
}

pub selections_fresh : (c : Setting) (selections : List Named) → selections ≡ replicate c.threads Global → SelectionsStand c [] selections
selections_fresh c selections is = record {
  count = ap length is ∙ length-replicate c.threads Global;
  each = λ t line. ap (λ xs. slice_index_or xs t Global) is ∙ get_or-replicate c.threads t Global Global line;
}

pub cells_fresh : (c : Setting) (cells : GridData (Option Handle)) (xs : List (Option Handle)) → cells ≡ record { lines = c.threads; width = CELLS; items = xs }
    → xs ≡ replicate (c.threads * CELLS) None → CellsStand c [] cells
cells_fresh c cells xs is items = record {
  shape = shape_fresh c CELLS cells xs is (ap length items ∙ length-replicate (c.threads * CELLS) None);
  each = λ t k line column. cell_fresh c CELLS cells xs None None t k is items line column;
}

pub shelf_fresh : (c : Setting) (installed : List (Option Offered)) → installed ≡ replicate (length c.opening) None → ShelfStands c [] installed
shelf_fresh c installed is = record {
  count = ap length is ∙ length-replicate (length c.opening) None;
  each = λ n on. ap (λ xs. unwrap_or (slice_index_or xs n None) (opening_offer c n)) is
      ∙ ap (λ o. unwrap_or o (opening_offer c n)) (get_or-replicate (length c.opening) n None None on);
}
