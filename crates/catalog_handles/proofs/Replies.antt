-- What is replied by the rows is the answer of the history.
use Rattle.std.proofs.Common.{◌≡◌, ℕ, ◌+◌, Bool, true, false, Option, None, Some, is_some, refl, ap, sym, ◌∙◌}
use Rattle.std.specs.Prelude.{if◌then◌else◌}
use Rattle.generations.specs.Kind.{nth}
use Rattle.generations.specs.Grid.{GridData}
use Rattle.catalog_handles.specs.declared.handle.CatalogHandle.{CatalogHandle}
use Rattle.catalog_handles.specs.declared.setting.CatalogSetting.{CatalogSetting}
use Rattle.catalog_handles.specs.declared.op.CatalogRefusal.{CatalogRefusal}
use Rattle.catalog_handles.specs.declared.op.CatalogRefusal.TheVariants.{NeverMade, Stale}
use Rattle.catalog_handles.specs.Entry.{Reply, Opened, Book, Closed, Refused, History, catalog_handles}
use Rattle.catalog_handles.specs.History.{made, live, book, makes}
use Rattle.catalog_handles.specs.Answer.{against, unless, opened_in}
use Rattle.catalog_handles.specs.Rows.{RowData, row_at, says_made, says_book}
use Rattle.catalog_handles.specs.Kept.{Keeps}
use Rattle.catalog_handles.proofs.Says.{made_said, book_said}
use Rattle.catalog_handles.proofs.After.{against_live}

-- why a handle that is not live is refused
abbrev pub reason : Bool → CatalogRefusal
reason a = if a then Stale else NeverMade

pub reason_said : (c : CatalogSetting) (H : History) (rows : GridData RowData) (h : CatalogHandle) (b : Bool) → Keeps c H rows → b ≡ says_made rows h
    → reason b ≡ reason (made H h)
reason_said c H rows h b k is = ap reason (is ∙ made_said c H rows h k)

found_live : (b : Bool) (n m : ℕ) → Some n ≡ (if b then Some m else None) → (b ≡ true) × (n ≡ m)
found_live true n m p = (refl, cc p)
found_live false n m p = absurd (cc p)

found_none : (b : Bool) (m : ℕ) → None ≡ (if b then Some m else None) → b ≡ false
found_none true m p = absurd (cc p)
found_none false m p = refl

refused_by : (a : Bool) → (if a then Some Stale else Some NeverMade) ≡ Some (reason a)
refused_by true = refl
refused_by false = refl

-- what is against a handle that is not live
against_closed : (H : History) (h : CatalogHandle) → live H h ≡ false → against H h ≡ Some (reason (made H h))
against_closed H h closed =
    ap (λ b. if made H h then (if b then None else Some Stale) else Some NeverMade) closed ∙ refused_by (made H h)

-- a handle with a catalog is live, and its Get gives the catalog
pub get_found : (c : CatalogSetting) (H : History) (rows : GridData RowData) (h : CatalogHandle) (n : ℕ) → Keeps c H rows → Some n ≡ says_book rows h
    → Book n ≡ unless (against H h) (Book (book H h))
get_found c H rows h n k is =
    let found = found_live (live H h) n (book H h) (is ∙ book_said c H rows h k) in
    ap (λ m. Book m) found.1 ∙ ap (λ o. unless o (Book (book H h))) (sym (against_live H h found.0))

-- one without is refused
pub refused_found : (c : CatalogSetting) (H : History) (rows : GridData RowData) (h : CatalogHandle) (r : CatalogRefusal) (reply : Reply) → Keeps c H rows
    → None ≡ says_book rows h → r ≡ reason (made H h) → Refused r ≡ unless (against H h) reply
refused_found c H rows h r reply k is why =
    let closed = found_none (live H h) (book H h) (is ∙ book_said c H rows h k) in
    ap (λ x. Refused x) why ∙ ap (λ o. unless o reply) (sym (against_closed H h closed))

some_is : (o : Option ℕ) → true ≡ is_some o → (n : ℕ) × (Some n ≡ o)
some_is (Some n) is = (n, refl)
some_is None is = absurd (cc is)

none_is : (o : Option ℕ) → false ≡ is_some o → None ≡ o
none_is (Some n) is = absurd (cc is)
none_is None is = refl

-- a Close of a handle with a catalog is accepted
pub close_found : (c : CatalogSetting) (H : History) (rows : GridData RowData) (h : CatalogHandle) → Keeps c H rows → true ≡ is_some (says_book rows h)
    → Closed ≡ unless (against H h) Closed
close_found c H rows h k is =
    let some = some_is (says_book rows h) is in
    let found = found_live (live H h) some.0 (book H h) (some.1 ∙ book_said c H rows h k) in
    ap (λ o. unless o Closed) (sym (against_live H h found.0))

-- one of another handle is refused
pub close_refused : (c : CatalogSetting) (H : History) (rows : GridData RowData) (h : CatalogHandle) (r : CatalogRefusal) → Keeps c H rows
    → false ≡ is_some (says_book rows h) → r ≡ reason (made H h) → Refused r ≡ unless (against H h) Closed
close_refused c H rows h r k is why = refused_found c H rows h r Closed k (none_is (says_book rows h) is) why

-- an Open in a free row gives the next handle of the row
pub opened_found : (H : History) (w r n : ℕ) (rows : GridData RowData) (o : Option ℕ) → o ≡ Some r → (row_at rows w r).makes ≡ makes H w r
    → n ≡ (row_at rows w r).makes + 1 → Opened (nth catalog_handles w r n) ≡ opened_in H w o
opened_found H w r n rows o is count next =
    ap (λ m. Opened (nth catalog_handles w r m)) (next ∙ ap (λ m. m + 1) count) ∙ ap (opened_in H w) (sym is)
