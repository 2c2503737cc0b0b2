-- What a thread has seen of the history of `serial`, and the versions that its lines print.
use Rattle.std.proofs.Common.{◌≡◌, ℕ, suc, Bool, true, false, ◌&&◌, List, [], ◌∷◌, length, Option, Some, None, Result, Ok, Err, refl, sym, ap, subst, ◌∙◌, le_refl, add-one}
use Rattle.std.specs.Prelude.{◌==◌, if◌then◌else◌}
use Rattle.mask_compose.specs.Parts.{Parts}
use Rattle.category_store.specs.LibraryData.{LibraryData}
use Rattle.lc_base.specs.declared.handle.Named.{Named}
use Rattle.handle_table.specs.Entry as table
use Rattle.handle_table.specs.Entry.{Entry, History, Setting, is_accepted}
use Rattle.handle_table.specs.History.{sets, global, selection, selection_after}
use Rattle.handle_table.specs.Answer.{answer, entry, own, own_after}
use Rattle.script_commands.specs.declared.command.Read.{Read}
use Rattle.script_out.specs.declared.output.Why.{Why}
use Rattle.script_wishes.specs.Holds.{object_held, open_holds, held_as, holds_after}
use Rattle.script_lines.specs.Lines.{Caller}
use Rattle.script_wishes.specs.Wishes.{Wish, Calls, ReadsOf, Reads, AsksSelection, AsksName, OpensCatalog, GetsMessage, ClosesCatalog}
use Rattle.script_lines.specs.Outcome.{Outcome, with_call, reads_between, reads_of, read_line, granted, opens_line, asked_of}
use Rattle.script_plan.specs.Prints.{places_in, behind_last, or_earlier}
use Rattle.script_plan.proofs.GoingOn.{GoesOnFrom, goes_nowhere, one_entry, goes_on}
use Rattle.script_plan.proofs.VersionLemmas.{UpTo, none_up, some_up, call_version}
use Rattle.script_lines.specs.Catalogs.{Books, Asked, book_for}
use Rattle.script_serial.proofs.CatalogLines.{open_version, opens_places}
use Rattle.catalog_handles.specs.Entry.{History as CatalogHistory}

-- ---- what a thread has seen: the history up to its last entry

abbrev pub own_past : History → ℕ → History
own_past [] t = []
own_past (e ∷ H) t = if e.who == t then e ∷ H else own_past H t

one_part : {X : Type 0} (f : History → X) (t : ℕ) (e : Entry) (H G : History) (b : Bool) → (e.who == t) ≡ b → ((e.who == t) ≡ false → f (e ∷ H) ≡ f H) → f G ≡ f H → f (if b then e ∷ H else G) ≡ f (e ∷ H)
one_part f t e H G true is other same = refl
one_part f t e H G false is other same = same ∙ sym (other is)

-- what depends on a thread's own entries alone is the same there
own_part : {X : Type 0} (f : History → X) (t : ℕ) → ((e : Entry) (H : History) → (e.who == t) ≡ false → f (e ∷ H) ≡ f H) → (H : History) → f (own_past H t) ≡ f H
own_part f t other [] = refl
own_part f t other (e ∷ H) = one_part f t e H (own_past H t) (e.who == t) refl (other e H) (own_part f t other H)

pub own_seen : (H : History) (t : ℕ) → own (own_past H t) t ≡ own H t
own_seen H t = own_part (λ (G : History). own G t) t (λ e G no. ap (λ (b : Bool). if b then own_after e.reply (own G t) else own G t) no) H

pub selection_seen : (H : History) (t : ℕ) → selection (own_past H t) t ≡ selection H t
selection_seen H t = own_part (λ (G : History). selection G t) t (λ e G no. ap (λ (b : Bool). if b && is_accepted e.reply then selection_after e.op (selection G t) else selection G t) no) H

pub holds_seen : (H : History) (t : ℕ) → open_holds (own_past H t) t ≡ open_holds H t
holds_seen H t = own_part (λ (G : History). open_holds G t) t (λ e G no. ap (λ (b : Bool). if b then holds_after (open_holds G t) e.op e.reply else open_holds G t) no) H

one_back : (t : ℕ) (e : Entry) (H G : History) (b : Bool) → GoesOnFrom G H → GoesOnFrom (if b then e ∷ H else G) (e ∷ H)
one_back t e H G true on = goes_nowhere (e ∷ H)
one_back t e H G false on = goes_on G H (e ∷ H) on (one_entry H e)

pub own_back : (H : History) (t : ℕ) → GoesOnFrom (own_past H t) H
own_back [] t = goes_nowhere []
own_back (e ∷ H) t = one_back t e H (own_past H t) (e.who == t) (own_back H t)

-- ---- the place behind a thread's last one

abbrev pub next_of : Bool → List ℕ → ℕ → ℕ
next_of b at n = if b then or_earlier (behind_last at) n else n

none_next : (b : Bool) (n : ℕ) → next_of b [] n ≡ n
none_next true n = refl
none_next false n = refl

one_next : (b : Bool) (e : Entry) (H G : History) → next_of b (length H ∷ []) (length G) ≡ length (if b then e ∷ H else G)
one_next true e H G = add-one (length H)
one_next false e H G = refl

two_next : (b : Bool) (d e : Entry) (H G : History) → next_of b (length H ∷ length (e ∷ H) ∷ []) (length G) ≡ length (if b then d ∷ e ∷ H else (if b then e ∷ H else G))
two_next true d e H G = add-one (suc (length H))
two_next false d e H G = refl

abbrev Follows : ℕ → History → ℕ → Outcome → Type 0
Follows t H thread done = next_of (thread == t) (places_in done.line.places) (length (own_past H t)) ≡ length (own_past done.history t)

between_next : (t : ℕ) (c : Setting) (library : LibraryData) (H : History) (at : Caller) (n : Named) (read : Read) (object : Option Parts) → Follows t H at.thread (reads_between c library H at n read object)
between_next t c library H at n read None = one_next (at.thread == t) (entry c H at.thread (table.Hold n)) H (own_past H t)
between_next t c library H at n read (Some object) =
    two_next (at.thread == t) (entry c (with_call c H at.thread (table.Hold n)) at.thread (table.Release n)) (entry c H at.thread (table.Hold n)) H (own_past H t)

of_next : (t : ℕ) (c : Setting) (library : LibraryData) (H : History) (at : Caller) (n : Named) (read : Read) (held : Option Parts) → Follows t H at.thread (reads_of c library H at n read held)
of_next t c library H at n read (Some object) = none_next (at.thread == t) (length (own_past H t))
of_next t c library H at n read None = between_next t c library H at n read (object_held (answer c H at.thread (table.Hold n)))

read_next : (t : ℕ) (c : Setting) (library : LibraryData) (H : History) (at : Caller) (read : Read) (object : Option Parts) → Follows t H at.thread (record { history = H; line = read_line c library H at read object })
read_next t c library H at read (Some object) = none_next (at.thread == t) (length (own_past H t))
read_next t c library H at read None = none_next (at.thread == t) (length (own_past H t))

pub granted_next : (t : ℕ) (c : Setting) (library : LibraryData) (books : Books) (H : History) (M : CatalogHistory) (at : Caller) (w : Result Wish Why) → Follows t H at.thread (granted c library books H M at w)
granted_next t c library books H M at (Err why) = none_next (at.thread == t) (length (own_past H t))
granted_next t c library books H M at (Ok (Calls categories op)) = one_next (at.thread == t) (entry c H at.thread op) H (own_past H t)
granted_next t c library books H M at (Ok (ReadsOf n read)) = of_next t c library H at n read (held_as (open_holds H at.thread) n)
granted_next t c library books H M at (Ok (Reads read)) = read_next t c library H at read (own H at.thread)
granted_next t c library books H M at (Ok AsksSelection) = none_next (at.thread == t) (length (own_past H t))
granted_next t c library books H M at (Ok (AsksName categories)) = none_next (at.thread == t) (length (own_past H t))
granted_next t c library books H M at (Ok (OpensCatalog name)) = ap (λ (ps : List ℕ). next_of (at.thread == t) ps (length (own_past H t))) (opens_places c library books H at name (asked_of c library books H M at.thread (Ok (OpensCatalog name))) (own H at.thread)) ∙ none_next (at.thread == t) (length (own_past H t))
granted_next t c library books H M at (Ok (GetsMessage h set message default)) = none_next (at.thread == t) (length (own_past H t))
granted_next t c library books H M at (Ok (ClosesCatalog h)) = none_next (at.thread == t) (length (own_past H t))

-- ---- versions

between_version : (c : Setting) (library : LibraryData) (H : History) (at : Caller) (n : Named) (read : Read) (object : Option Parts)
    → let done = reads_between c library H at n read object in UpTo (sets done.history) done.line.global
between_version c library H at n read None = call_version c H at.thread (table.Hold n)
between_version c library H at n read (Some object) = none_up (sets (reads_between c library H at n read (Some object)).history)

of_version : (c : Setting) (library : LibraryData) (H : History) (at : Caller) (n : Named) (read : Read) (held : Option Parts)
    → let done = reads_of c library H at n read held in UpTo (sets done.history) done.line.global
of_version c library H at n read (Some object) = none_up (sets H)
of_version c library H at n read None = between_version c library H at n read (object_held (answer c H at.thread (table.Hold n)))

read_version : (c : Setting) (library : LibraryData) (H : History) (at : Caller) (read : Read) (object : Option Parts) → UpTo (sets H) (read_line c library H at read object).global
read_version c library H at read (Some object) = none_up (sets H)
read_version c library H at read None = some_up (sets H) (sets H) (le_refl (sets H))

opens_version : (c : Setting) (library : LibraryData) (books : Books) (H : History) (at : Caller) (name : List ℕ) (asked : Asked) (object : Option Parts) → UpTo (sets H) (opens_line c library books H at name asked object).global
opens_version c library books H at name asked (Some object) = subst (UpTo (sets H)) (sym (open_version at None asked (book_for library books object name))) (none_up (sets H))
opens_version c library books H at name asked None = subst (UpTo (sets H)) (sym (open_version at (Some (sets H)) asked (book_for library books (global c H) name))) (some_up (sets H) (sets H) (le_refl (sets H)))

-- a line prints no version after that of its history
pub granted_version : (c : Setting) (library : LibraryData) (books : Books) (H : History) (M : CatalogHistory) (at : Caller) (w : Result Wish Why)
    → let done = granted c library books H M at w in UpTo (sets done.history) done.line.global
granted_version c library books H M at (Err why) = none_up (sets H)
granted_version c library books H M at (Ok (Calls categories op)) = call_version c H at.thread op
granted_version c library books H M at (Ok (ReadsOf n read)) = of_version c library H at n read (held_as (open_holds H at.thread) n)
granted_version c library books H M at (Ok (Reads read)) = read_version c library H at read (own H at.thread)
granted_version c library books H M at (Ok AsksSelection) = none_up (sets H)
granted_version c library books H M at (Ok (AsksName categories)) = some_up (sets H) (sets H) (le_refl (sets H))
granted_version c library books H M at (Ok (OpensCatalog name)) = opens_version c library books H at name (asked_of c library books H M at.thread (Ok (OpensCatalog name))) (own H at.thread)
granted_version c library books H M at (Ok (GetsMessage h set message default)) = none_up (sets H)
granted_version c library books H M at (Ok (ClosesCatalog h)) = none_up (sets H)
