-- Histories of catalogs without their stamps, on which no answer depends.
use Rattle.std.proofs.Common.{◌≡◌, ℕ, ◌+◌, Bool, ◌&&◌, ◌||◌, not, List, [], ◌∷◌, ◌++◌, length, map, Option, None, Some, refl, ap, ◌∙◌}
use Rattle.std.specs.Prelude.{if◌then◌else◌}
use Rattle.std.proofs.lemmas.List.{length-map, map-append}
use Rattle.generations.specs.Making.{Making}
use Rattle.generations.proofs.Free.{free_row_alike}
use Rattle.generations.specs.Making as generations
use Rattle.catalog_handles.specs.declared.handle.CatalogHandle.{CatalogHandle}
use Rattle.catalog_handles.specs.declared.setting.CatalogSetting.{CatalogSetting}
use Rattle.catalog_handles.specs.declared.op.CatalogRefusal.{CatalogRefusal}
use Rattle.catalog_handles.specs.declared.op.CatalogRefusal.TheVariants.{NeverMade, Stale}
use Rattle.catalog_handles.specs.Entry.{Op, Open, Get, Close, Opened, Book, Closed, Entry, History, catalog_handles}
use Rattle.catalog_handles.specs.History.{making, makings, makes_handle, made, closes_handle, book_opened, live, book, handles, catalogs, free_row}
use Rattle.catalog_handles.specs.Answer.{against, unless, opened_in, answer}

abbrev unstamped_entry : Entry → Entry
unstamped_entry e = record { who = e.who; op = e.op; reply = e.reply; stamp = 0 }

abbrev pub unstamped : History → History
unstamped H = map unstamped_entry H

pub unstamped_append : (G H : History) → unstamped (G ++ H) ≡ unstamped G ++ unstamped H
unstamped_append G H = map-append unstamped_entry G H

pub unstamped_length : (H : History) → length (unstamped H) ≡ length H
unstamped_length H = length-map H unstamped_entry

makings_same : (H : History) → makings (unstamped H) ≡ makings H
makings_same [] = refl
makings_same (e ∷ H) = ap (λ (ms : List (Making CatalogHandle)). making e ∷ ms) (makings_same H)

live_same : (H : History) (h : CatalogHandle) → live (unstamped H) h ≡ live H h
live_same [] h = refl
live_same (e ∷ H) h = ap (λ (b : Bool). not (closes_handle e h) && (makes_handle e h || b)) (live_same H h)

book_same : (H : History) (h : CatalogHandle) → book (unstamped H) h ≡ book H h
book_same [] h = refl
book_same (e ∷ H) h = ap (λ (n : ℕ). if makes_handle e h then book_opened e.op n else n) (book_same H h)

made_same : (H : History) (h : CatalogHandle) → made (unstamped H) h ≡ made H h
made_same H h = ap (λ (ms : List (Making CatalogHandle)). generations.made catalog_handles ms h) (makings_same H)

handles_same : (H : History) (t r : ℕ) → handles (unstamped H) t r ≡ handles H t r
handles_same H t r = ap (λ (ms : List (Making CatalogHandle)). generations.handles catalog_handles ms t r) (makings_same H)

against_same : (H : History) (h : CatalogHandle) → against (unstamped H) h ≡ against H h
against_same H h =
    ap (λ (b : Bool). if b then (if live (unstamped H) h then None else Some Stale) else Some NeverMade) (made_same H h)
    ∙ ap (λ (b : Bool). if made H h then (if b then None else Some Stale) else Some NeverMade) (live_same H h)

opened_same : (H : History) (t : ℕ) (o : Option ℕ) → opened_in (unstamped H) t o ≡ opened_in H t o
opened_same H t None = refl
opened_same H t (Some r) = ap (λ (hs : List CatalogHandle). Opened (record { owner = t; row = r; generation = length hs + 1 })) (handles_same H t r)

pub answer_same : (c : CatalogSetting) (H : History) (t : ℕ) (op : Op) → answer c (unstamped H) t op ≡ answer c H t op
answer_same c H t (Open number) =
    ap (opened_in (unstamped H) t) (free_row_alike (catalogs c) (unstamped H) H t (λ r. handles_same H t r) (λ h owns. live_same H h)) ∙ opened_same H t (free_row c H t)
answer_same c H t (Get h) =
    ap (λ (o : Option CatalogRefusal). unless o (Book (book (unstamped H) h))) (against_same H h) ∙ ap (λ (n : ℕ). unless (against H h) (Book n)) (book_same H h)
answer_same c H t (Close h) = ap (λ (o : Option CatalogRefusal). unless o Closed) (against_same H h)
