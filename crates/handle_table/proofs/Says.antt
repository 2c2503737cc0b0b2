-- What rows that stand for a history say of handles is what the history says.
use Rattle.std.proofs.Common.{◌≡◌, ℕ, ◌<◌, true, false, ◌&&◌, ◌||◌, ap, sym, ◌∙◌, inl, inr}
use Rattle.std.proofs.lemmas.Bool.{cases_Bool, false≢true}
use Rattle.std.specs.Prelude.{if◌then◌else◌, nat_lt}
use Rattle.mask_compose.specs.Parts.{Parts}
use Rattle.mask_compose.specs.Offer.{no_offer}
use Rattle.generations.specs.Least.{least_below}
use Rattle.generations.specs.Grid.{GridData, cell}
use Rattle.generations.specs.Rows.{is_free_row, RowsSay}
use Rattle.generations.proofs.Says as rows_of
use Rattle.lc_base.specs.declared.handle.Handle.{Handle}
use Rattle.handle_table.specs.declared.row.Row.{Row}
use Rattle.handle_table.specs.Entry.{History, Setting}
use Rattle.handle_table.specs.History.{made, live, holding, pins, object, is_kept, objects, free_row}
use Rattle.handle_table.specs.Answer.{IsLegal}
use Rattle.handle_table.specs.Row.{is_held}
use Rattle.handle_table.specs.Rows.{counts, row_at, is_newest, says_made, says_live, says_held, says_pins}
use Rattle.handle_table.specs.Kept.{AreThreads, newest, RowsStand, ObjectsStand}
use Rattle.handle_table.proofs.Gone.{IsGone}
use Rattle.handle_table.proofs.Pinned.{gone_unpinned, unkept_gone}
use Rattle.handle_table.proofs.Newest.{in_order}

-- rows that stand for a history say what it says
rows_say : (c : Setting) (H : History) (rows : GridData Row) → RowsStand c H rows → RowsSay (objects c) counts c.threads H rows
rows_say c H rows s = record {
  lines = s.shape.lines;
  width = s.shape.width;
  each = λ t r line column.
      let stands = s.each t r line column in record {
        makes = stands.makes;
        kept = ap (λ b. b || nat_lt 0 (row_at rows t r).pins) stands.live ∙ ap (λ n. live H (newest H t r) || nat_lt 0 n) stands.pins;
      };
}

-- a handle was made where the rows say so
pub made_said : (c : Setting) (H : History) (rows : GridData Row) (h : Handle) → IsLegal c H → AreThreads c.threads H → RowsStand c H rows
    → says_made rows h ≡ made H h
made_said c H rows h legal callers s = rows_of.made_said (objects c) counts c.threads H rows h (in_order c H legal) callers (rows_say c H rows s)

-- the newest handle of a row by the rows is that by the history
newest_said : (c : Setting) (H : History) (rows : GridData Row) (h : Handle) → RowsStand c H rows → is_newest rows h ≡ true
    → (h.owner < c.threads) × (h.row < c.rows) × (newest H h.owner h.row ≡ h)
newest_said c H rows h s is = rows_of.newest_said (objects c) counts c.threads H rows h (rows_say c H rows s) is

-- a handle that is not the newest of a row is neither live nor held on to
not_newest_gone : (c : Setting) (H : History) (rows : GridData Row) (h : Handle) → IsLegal c H → AreThreads c.threads H → RowsStand c H rows
    → is_newest rows h ≡ false → IsGone c H h
not_newest_gone c H rows h legal callers s un =
    unkept_gone c H h (rows_of.not_newest (objects c) counts c.threads H rows h (in_order c H legal) callers (rows_say c H rows s) un)

-- a handle is live where the rows say so
pub live_said : (c : Setting) (H : History) (rows : GridData Row) (h : Handle) → IsLegal c H → AreThreads c.threads H → RowsStand c H rows
    → says_live rows h ≡ live H h
live_said c H rows h legal callers s =
    let row : Row = row_at rows h.owner h.row in
    elim (cases_Bool (is_newest rows h)) [
      | inl is ↦
          let place = newest_said c H rows h s is in
          ap (λ b. b && row.is_live) is ∙ (s.each h.owner h.row place.0 place.1).live ∙ ap (live H) place.2
      | inr un ↦ ap (λ b. b && row.is_live) un ∙ sym (not_newest_gone c H rows h legal callers s un).0
    ]

-- a thread holds a handle where the rows say so
pub held_said : (c : Setting) (H : History) (rows : GridData Row) (w : ℕ) (h : Handle) → IsLegal c H → AreThreads c.threads H → RowsStand c H rows
    → w < c.threads → says_held rows w h ≡ holding H w h
held_said c H rows w h legal callers s caller =
    let row : Row = row_at rows h.owner h.row in
    elim (cases_Bool (is_newest rows h)) [
      | inl is ↦
          let place = newest_said c H rows h s is in
          ap (λ b. b && is_held w row) is ∙ (s.each h.owner h.row place.0 place.1).holding w caller ∙ ap (holding H w) place.2
      | inr un ↦ ap (λ b. b && is_held w row) un ∙ sym ((not_newest_gone c H rows h legal callers s un).1 w caller).1
    ]

-- a handle has the pins that the rows say
pub pins_said : (c : Setting) (H : History) (rows : GridData Row) (h : Handle) → IsLegal c H → AreThreads c.threads H → RowsStand c H rows
    → says_pins rows h ≡ pins c H h
pins_said c H rows h legal callers s =
    let row : Row = row_at rows h.owner h.row in
    elim (cases_Bool (is_newest rows h)) [
      | inl is ↦
          let place = newest_said c H rows h s is in
          ap (λ b. if b then row.pins else 0) is ∙ (s.each h.owner h.row place.0 place.1).pins ∙ ap (pins c H) place.2
      | inr un ↦
          ap (λ b. if b then row.pins else 0) un ∙ sym (gone_unpinned c H h (not_newest_gone c H rows h legal callers s un))
    ]

-- the least free row of a thread is the one that the rows say
pub free_row_said : (c : Setting) (H : History) (rows : GridData Row) (w : ℕ) → IsLegal c H → RowsStand c H rows → w < c.threads
    → least_below rows.width (λ r. is_free_row counts c.generations (row_at rows w r)) ≡ free_row c H w
free_row_said c H rows w legal s caller =
    rows_of.free_row_said (objects c) counts c.threads H rows w (in_order c H legal) (rows_say c H rows s) caller

-- a live handle stands in its row, where its object is kept
pub object_said : (c : Setting) (H : History) (rows : GridData Row) (objects : GridData Parts) (h : Handle) → IsLegal c H → AreThreads c.threads H
    → RowsStand c H rows → ObjectsStand c H objects → live H h ≡ true
    → (h.owner < c.threads) × (h.row < c.rows) × (newest H h.owner h.row ≡ h) × (cell objects h.owner h.row no_offer.object ≡ object c H h)
object_said c H rows objects h legal callers s o alive =
    elim (cases_Bool (is_newest rows h)) [
      | inl is ↦
          let place = newest_said c H rows h s is in
          let kept : is_kept c H (newest H h.owner h.row) ≡ true =
          ap (is_kept c H) place.2 ∙ ap (λ b. b || nat_lt 0 (pins c H h)) alive
          in
          (place.0, place.1, place.2, o.each h.owner h.row place.0 place.1 kept ∙ ap (object c H) place.2)
      | inr un ↦ absurd (false≢true (sym (not_newest_gone c H rows h legal callers s un).0 ∙ alive))
    ]
