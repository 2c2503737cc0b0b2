-- The definitions at worked examples: sessions of a few calls with the replies that are wanted.
use Rattle.std.proofs.Common.{◌≡◌, ℕ, max, true, false, List, [], ◌∷◌, None, Some, refl, ap, sym, ◌∙◌}
use Rattle.std.proofs.lemmas.Bool.{eqb-false}
use Rattle.atomic_table.specs.Seated.{TableId}
use Rattle.generations.specs.Grid.{GridData}
use Rattle.turn_gate.specs.Callers.{Gate}
use Rattle.catalog_handles.specs.declared.handle.CatalogHandle.{CatalogHandle}
use Rattle.catalog_handles.specs.declared.setting.CatalogSetting.{CatalogSetting}
use Rattle.catalog_handles.specs.declared.op.CatalogRefusal.TheVariants.{NeverMade, Stale, TooMany}
use Rattle.catalog_handles.specs.Entry.{Op, Open, Get, Close, Reply, Opened, Book, Closed, Refused, Entry, History}
use Rattle.catalog_handles.specs.History.{book, free_row}
use Rattle.catalog_handles.specs.Answer.{answer, entry}
use Rattle.catalog_handles.specs.Causes.{IsOfUnmade, IsOfClosed, IsWithoutRow}
use Rattle.catalog_handles.specs.Isolation.{keeps_apart, IsClosed, part_of}
use Rattle.catalog_handles.specs.Stamps.{last_stamp}
use Rattle.catalog_handles.specs.Reader.{first_reader, Answered}
use Rattle.catalog_handles.specs.Rows.{RowData, no_row, says_made, says_book, after_open, after_close}
use Rattle.catalog_handles.specs.Kept.{live_book}
use Rattle.catalog_handles.specs.Table.{SaysTheSame}
use Rattle.catalog_handles.proofs.Refused.{refused_changes_nothing}
use Rattle.catalog_handles.proofs.Calls.{without_newest}

-- the history after some calls, given oldest first
abbrev played : CatalogSetting → History → List (ℕ × Op) → History
played c H [] = H
played c H ((t, op) ∷ calls) = played c (entry c H t op 0 ∷ H) calls

-- the replies to some calls, oldest first
abbrev replies : CatalogSetting → History → List (ℕ × Op) → List Reply
replies c H [] = []
replies c H ((t, op) ∷ calls) = answer c H t op ∷ replies c (entry c H t op 0 ∷ H) calls

abbrev usual : CatalogSetting
usual = record { threads = 2; rows = 16; generations = 65535 }

-- one row with two generations
abbrev narrow : CatalogSetting
narrow = record { threads = 2; rows = 1; generations = 2 }

abbrev handle : ℕ → ℕ → ℕ → CatalogHandle
handle t r g = record { owner = t; row = r; generation = g }

-- a catalog is read while it is open, and its handle is stale afterwards
catalog_session : replies usual [] (
    (0, Open 7) ∷ (0, Get (handle 0 0 1)) ∷ (0, Get (handle 0 0 1)) ∷ (0, Close (handle 0 0 1))
    ∷ (0, Get (handle 0 0 1)) ∷ (0, Close (handle 0 0 1)) ∷ [])
    ≡ Opened (handle 0 0 1) ∷ Book 7 ∷ Book 7 ∷ Closed ∷ Refused Stale ∷ Refused Stale ∷ []
catalog_session = refl

-- a row that is used again has the next generation, and the old handle stays stale
row_used_again : replies usual [] (
    (0, Open 7) ∷ (0, Close (handle 0 0 1)) ∷ (0, Open 8) ∷ (0, Get (handle 0 0 1)) ∷ (0, Get (handle 0 0 2)) ∷ [])
    ≡ Opened (handle 0 0 1) ∷ Closed ∷ Opened (handle 0 0 2) ∷ Refused Stale ∷ Book 8 ∷ []
row_used_again = refl

-- one catalog may be open more than once, each time under a handle of its own
opened_twice : replies usual [] (
    (0, Open 7) ∷ (0, Open 7) ∷ (0, Close (handle 0 0 1)) ∷ (0, Get (handle 0 1 1)) ∷ (0, Open 9) ∷ (0, Get (handle 0 0 2)) ∷ [])
    ≡ Opened (handle 0 0 1) ∷ Opened (handle 0 1 1) ∷ Closed ∷ Book 7 ∷ Opened (handle 0 0 2) ∷ Book 9 ∷ []
opened_twice = refl

-- with one row a second catalog is refused, and another thread has a row of its own
catalog_rows : replies narrow [] ((0, Open 0) ∷ (0, Open 0) ∷ (1, Open 0) ∷ (1, Get (handle 0 0 1)) ∷ [])
    ≡ Opened (handle 0 0 1) ∷ Refused TooMany ∷ Opened (handle 1 0 1) ∷ Book 0 ∷ []
catalog_rows = refl

-- a row that has made all its generations is never free again; those of another thread do not count
spent_row : replies narrow [] (
    (0, Open 1) ∷ (0, Close (handle 0 0 1)) ∷ (0, Open 1) ∷ (1, Close (handle 0 0 2)) ∷ (0, Open 1) ∷ (1, Open 1) ∷ [])
    ≡ Opened (handle 0 0 1) ∷ Closed ∷ Opened (handle 0 0 2) ∷ Closed ∷ Refused TooMany ∷ Opened (handle 1 0 1) ∷ []
spent_row = refl

-- handles that nobody was given: of a row that was not used, of a generation that has not come, of generation 0
never_made : replies usual [] (
    (0, Get (handle 0 0 1)) ∷ (0, Open 3) ∷ (0, Close (handle 0 1 1)) ∷ (0, Get (handle 0 0 2)) ∷ (0, Get (handle 0 0 0)) ∷ (1, Get (handle 1 0 1)) ∷ [])
    ≡ Refused NeverMade ∷ Opened (handle 0 0 1) ∷ Refused NeverMade ∷ Refused NeverMade ∷ Refused NeverMade ∷ Refused NeverMade ∷ []
never_made = refl

-- two threads, each with a catalog, and a third call that names the other's handle
abbrev crossed : History
crossed = played usual [] ((0, Open 5) ∷ (1, Open 6) ∷ (1, Get (handle 0 0 1)) ∷ (0, Get (handle 0 0 1)) ∷ [])

own_part : part_of (1 ∷ []) (played usual [] ((0, Open 5) ∷ (1, Open 6) ∷ (1, Get (handle 1 0 1)) ∷ []))
    ≡ played usual [] ((1, Open 6) ∷ (1, Get (handle 1 0 1)) ∷ [])
own_part = refl

names_another : keeps_apart (1 ∷ []) (entry usual crossed 1 (Get (handle 0 0 1)) 0) ≡ false
names_another = refl

named_by_another : keeps_apart (0 ∷ []) (entry usual crossed 1 (Get (handle 0 0 1)) 0) ≡ false
named_by_another = refl

names_own : keeps_apart (0 ∷ []) (entry usual crossed 0 (Get (handle 0 0 1)) 0) ≡ true
names_own = refl

not_closed_for_either : IsClosed (0 ∷ []) crossed → ⊥
not_closed_for_either closed = let named = closed.1.0 in cc named

-- ---- causes, and what is left

-- thread 0 opened and closed catalog 7, and has catalog 8 open in the same row
abbrev reopened : History
reopened = played narrow [] ((0, Open 7) ∷ (0, Close (handle 0 0 1)) ∷ (0, Open 8) ∷ [])

unmade : IsOfUnmade reopened (Get (handle 0 0 3))
unmade = refl

not_unmade : IsOfUnmade reopened (Close (handle 0 0 1)) → ⊥
not_unmade is = cc is

closed_before : IsOfClosed reopened (Close (handle 0 0 1))
closed_before = (refl, refl)

still_open : IsOfClosed reopened (Get (handle 0 0 2)) → ⊥
still_open is = let dead = is.1 in cc dead

without_row : IsWithoutRow narrow reopened 0 (Open 9)
without_row = refl

with_row : free_row narrow reopened 1 ≡ Some 0
with_row = refl

-- a closed handle keeps its catalog in the history, and nothing is answered by it
closed_book : book reopened (handle 0 0 1) ≡ 7
closed_book = refl

closed_live_book : live_book reopened (handle 0 0 1) ≡ None
closed_live_book = refl

open_live_book : live_book reopened (handle 0 0 2) ≡ Some 8
open_live_book = refl

-- a refused Open leaves what the history says; a Close does not
refused_open : SaysTheSame narrow (entry narrow reopened 0 (Open 9) 0 ∷ reopened) reopened
refused_open = refused_changes_nothing narrow (entry narrow reopened 0 (Open 9) 0) reopened refl

accepted_close : SaysTheSame narrow (entry narrow reopened 0 (Close (handle 0 0 2)) 0 ∷ reopened) reopened → ⊥
accepted_close same = let alive = same.live (handle 0 0 2) in cc alive

-- ---- stamps

-- thread 0 opened catalog 7 with stamp 3
abbrev stamped : History
stamped = entry usual [] 0 (Open 7) 3 ∷ []

module _ (table : TableId) where
  abbrev gate : Gate CatalogSetting
  gate = record { table = table; terms = record { setting = usual; seats = 2; quota = 9 } }

  -- thread 1, which had made no call, opens catalog 8 behind that, hands in a number, and its entry has a stamp
  abbrev OpensWith : (least stamp : ℕ) → Type 0
  OpensWith least stamp =
      let e : Entry = entry usual stamped 1 (Open 8) stamp in
      Answered gate (first_reader gate 1) (record { table = table; terms = Some gate.terms; number = 1; seen = e ∷ stamped; calls = e ∷ [] })
      (Open 8) least 1 stamp (Opened (handle 1 0 1))

  opens_with : (least stamp : ℕ) → stamp ≡ max 3 least → OpensWith least stamp
  opens_with least stamp is = record {
    same = record { table = refl; terms = refl; number = refl };
    before = stamped;
    later = (stamped, refl);
    legal = (refl, tt);
    others = refl;
    place_is = refl;
    reply_is = refl;
    stamp_is = is;
    seen = refl;
    calls = refl;
  }

  larger_number : OpensWith 5 5
  larger_number = opens_with 5 5 refl

  larger_stamp_before : OpensWith 2 3
  larger_stamp_before = opens_with 2 3 refl

  -- no stamp is larger than both
  not_their_sum : OpensWith 5 8 → ⊥
  not_their_sum made =
      let before : stamped ≡ made.before = ap without_newest made.seen in
      eqb-false 8 5 refl (made.stamp_is ∙ ap (λ (H : History). max (last_stamp H) 5) (sym before))

-- ---- rows

-- one row for each of two threads
abbrev empty_rows : GridData RowData
empty_rows = record { lines = 2; width = 1; items = no_row ∷ no_row ∷ [] }

opened_row : says_book (after_open empty_rows 1 0 7) (handle 1 0 1) ≡ Some 7
opened_row = refl

row_of_another : says_book (after_open empty_rows 1 0 7) (handle 0 0 1) ≡ None
row_of_another = refl

closed_row : says_book (after_close (after_open empty_rows 1 0 7) (handle 1 0 1)) (handle 1 0 1) ≡ None
closed_row = refl

closed_row_made : says_made (after_close (after_open empty_rows 1 0 7) (handle 1 0 1)) (handle 1 0 1) ≡ true
closed_row_made = refl

closed_by_an_old_handle : says_book (after_close (after_open (after_open empty_rows 1 0 7) 1 0 8) (handle 1 0 1)) (handle 1 0 2) ≡ Some 8
closed_by_an_old_handle = refl
