-- What is kept of handles is what the history says.
use Rattle.std.proofs.Common.{◌≡◌, ℕ, ◌<◌, ◌≤◌, true, Option, None, Some, sym, arith}
use Rattle.std.specs.Prelude.{slice_index_or, IfSome}
use Rattle.mask_compose.specs.Offer.{no_offer}
use Rattle.generations.specs.Least.{least_below}
use Rattle.generations.specs.Rows.{is_free_row}
use Rattle.generations.proofs.Says.{free_row_has}
use Rattle.lc_base.specs.declared.handle.Handle.{Handle}
use Rattle.lc_base.specs.declared.handle.Named.TheVariants.{Global}
use Rattle.handle_table.specs.declared.row.Row.{Row}
use Rattle.lc_base.specs.Cells.{CELLS}
use Rattle.handle_table.specs.Entry.{History, Setting}
use Rattle.handle_table.specs.History.{made, live, holding, pins, free_row, selection, posted, object}
use Rattle.generations.specs.Grid.{GridData, cell}
use Rattle.handle_table.specs.Rows.{counts, row_at, says_made, says_live, says_held, says_pins}
use Rattle.handle_table.specs.Kept.{KeptData, Keeps}
use Rattle.handle_table.proofs.Says.{made_said, live_said, held_said, pins_said, free_row_said, object_said}

pub made_is : (c : Setting) (H : History) (kept : KeptData) (h : Handle) → Keeps c H kept → says_made kept.rows h ≡ made H h
made_is c H kept h k = made_said c H kept.rows h k.legal k.callers k.rows

pub live_is : (c : Setting) (H : History) (kept : KeptData) (h : Handle) → Keeps c H kept → says_live kept.rows h ≡ live H h
live_is c H kept h k = live_said c H kept.rows h k.legal k.callers k.rows

pub held_is : (c : Setting) (H : History) (kept : KeptData) (w : ℕ) (h : Handle) → w < kept.rows.lines → Keeps c H kept
    → says_held kept.rows w h ≡ holding H w h
held_is c H kept w h line k =
    let lines = k.rows.shape.lines in
    held_said c H kept.rows w h k.legal k.callers k.rows (omega arith)

pub pins_is : (c : Setting) (H : History) (kept : KeptData) (h : Handle) → Keeps c H kept → says_pins kept.rows h ≡ pins c H h
pins_is c H kept h k = pins_said c H kept.rows h k.legal k.callers k.rows

pub free_row_is : (c : Setting) (H : History) (kept : KeptData) (w : ℕ) → w < kept.rows.lines → Keeps c H kept
    → least_below kept.rows.width (λ r. is_free_row counts c.generations (row_at kept.rows w r)) ≡ free_row c H w
free_row_is c H kept w line k =
    let lines = k.rows.shape.lines in
    free_row_said c H kept.rows w k.legal k.rows (omega arith)

pub selection_is : (c : Setting) (H : History) (kept : KeptData) (w : ℕ) → w < kept.rows.lines → Keeps c H kept
    → slice_index_or kept.selections w Global ≡ selection H w
selection_is c H kept w line k =
    let lines = k.rows.shape.lines in
    k.selections.each w (omega arith)

pub posted_is : (c : Setting) (H : History) (kept : KeptData) (w j : ℕ) → w < kept.rows.lines → j < CELLS → Keeps c H kept
    → cell kept.cells w j None ≡ posted H w j
posted_is c H kept w j line small k =
    let lines = k.rows.shape.lines in
    k.cells.each w j (omega arith) small

-- a live handle stands in its row, where its object is
pub object_is : (c : Setting) (H : History) (kept : KeptData) (h : Handle) → Keeps c H kept → live H h ≡ true
    → (h.owner < kept.rows.lines) × (h.row < kept.rows.width) × (cell kept.objects h.owner h.row no_offer.object ≡ object c H h)
object_is c H kept h k alive =
    let place = object_said c H kept.rows kept.objects h k.legal k.callers k.rows k.objects alive in
    let lines = k.rows.shape.lines in
    let width = k.rows.shape.width in
    let line : h.owner < c.threads = place.0 in
    let column : h.row < c.rows = place.1 in
    (omega arith, omega arith, place.3)

pub if_free_inside : (generations : ℕ) (rows : GridData Row) (w : ℕ) (o : Option ℕ) → o ≡ least_below rows.width (λ q. is_free_row counts generations (row_at rows w q))
    → IfSome o (λ r. r < rows.width)
if_free_inside generations rows w None is = tt
if_free_inside generations rows w (Some r) is = (free_row_has counts generations rows w r (sym is)).0

pub if_free_makes : (generations limit : ℕ) (rows : GridData Row) (w : ℕ) (o : Option ℕ) → generations ≤ limit
    → o ≡ least_below rows.width (λ q. is_free_row counts generations (row_at rows w q)) → IfSome o (λ r. (row_at rows w r).makes < limit)
if_free_makes generations limit rows w None most is = tt
if_free_makes generations limit rows w (Some r) most is = let below = (free_row_has counts generations rows w r (sym is)).1 in omega arith
