-- What rows that stand for a history say of handles is what the history says.
use Rattle.std.proofs.Common.{◌≡◌, ℕ, ◌<◌, Bool, true, false, Option, None, Some, is_some, refl, ap, sym, ◌∙◌, inl, inr}
use Rattle.std.proofs.lemmas.Bool.{cases_Bool}
use Rattle.std.specs.Prelude.{if◌then◌else◌}
use Rattle.generations.specs.Least.{least_below}
use Rattle.generations.specs.Grid.{GridData}
use Rattle.generations.specs.Rows.{is_free_row, RowsSay}
use Rattle.generations.proofs.Says as rows_of
use Rattle.catalog_handles.specs.declared.handle.CatalogHandle.{CatalogHandle}
use Rattle.catalog_handles.specs.declared.setting.CatalogSetting.{CatalogSetting}
use Rattle.catalog_handles.specs.Entry.{History}
use Rattle.catalog_handles.specs.History.{made, live, book, catalogs, free_row}
use Rattle.catalog_handles.specs.Rows.{RowData, counts, row_at, is_newest, says_made, says_book}
use Rattle.catalog_handles.specs.Kept.{newest, live_book, Keeps}
use Rattle.catalog_handles.proofs.Newest.{in_order}

some_if : (b : Bool) (n : ℕ) → is_some (if b then Some n else None) ≡ b
some_if true n = refl
some_if false n = refl

-- rows that stand for a history say what it says
pub rows_say : (c : CatalogSetting) (H : History) (rows : GridData RowData) → Keeps c H rows → RowsSay (catalogs c) counts c.threads H rows
rows_say c H rows k = record {
  lines = k.lines;
  width = k.width;
  each = λ t r line column.
      let stands = k.each t r line column in record {
        makes = stands.makes;
        kept = ap (λ (o : Option ℕ). is_some o) stands.book ∙ some_if (live H (newest H t r)) (book H (newest H t r));
      };
}

-- a handle was made where the rows say so
pub made_said : (c : CatalogSetting) (H : History) (rows : GridData RowData) (h : CatalogHandle) → Keeps c H rows → says_made rows h ≡ made H h
made_said c H rows h k = rows_of.made_said (catalogs c) counts c.threads H rows h (in_order c H k.legal) k.callers (rows_say c H rows k)

-- the catalog of a live handle is the one that the rows have
pub book_said : (c : CatalogSetting) (H : History) (rows : GridData RowData) (h : CatalogHandle) → Keeps c H rows → says_book rows h ≡ live_book H h
book_said c H rows h k =
    let row : RowData = row_at rows h.owner h.row in
    elim (cases_Bool (is_newest rows h)) [
      | inl is ↦
          let at = rows_of.newest_said (catalogs c) counts c.threads H rows h (rows_say c H rows k) is in
          ap (λ b. if b then row.book else None) is ∙ (k.each h.owner h.row at.0 at.1).book ∙ ap (live_book H) at.2
      | inr un ↦
          let closed = rows_of.not_newest (catalogs c) counts c.threads H rows h (in_order c H k.legal) k.callers (rows_say c H rows k) un in
          ap (λ b. if b then row.book else None) un ∙ sym (ap (λ b. if b then Some (book H h) else None) closed)
    ]

-- what is found is the least free row of the history, if there is one
pub found_said : (c : CatalogSetting) (H : History) (rows : GridData RowData) (w : ℕ) (o : Option ℕ) → Keeps c H rows → w < c.threads
    → o ≡ least_below rows.width (λ r. is_free_row counts c.generations (row_at rows w r)) → free_row c H w ≡ o
found_said c H rows w o k caller is =
    sym (is ∙ rows_of.free_row_said (catalogs c) counts c.threads H rows w (in_order c H k.legal) (rows_say c H rows k) caller)
