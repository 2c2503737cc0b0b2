-- The history of the catalogs of `serial`: it goes on from turn to turn, is a legal one of the script's threads, and each line has the places of its entries.
use Rattle.std.proofs.Common.{◌≡◌, ℕ, ◌<◌, List, [], ◌∷◌, ◌++◌, length, Option, Some, None, Result, Ok, Err, ap, ◌∙◌}
use Rattle.std.specs.Prelude.{option_map, All}
use Rattle.std.proofs.lemmas.List.{append-nil}
use Rattle.std.proofs.lemmas.List.Elements.{All-head, All-tail}
use Rattle.std.proofs.lemmas.Grind.{flat_map-append}
use Rattle.mask_compose.specs.Parts.{Parts}
use Rattle.catalog_handles.specs.declared.setting.CatalogSetting.{CatalogSetting}
use Rattle.catalog_handles.specs.Entry as catalog
use Rattle.catalog_handles.specs.Entry.{History as CatalogHistory}
use Rattle.catalog_handles.specs.Answer.{IsLegal, AreThreads}
use Rattle.category_store.specs.LibraryData.{LibraryData}
use Rattle.lc_base.specs.declared.handle.Named.{Named}
use Rattle.handle_table.specs.Entry as table
use Rattle.handle_table.specs.Entry.{History, Setting}
use Rattle.handle_table.specs.History.{sets, global}
use Rattle.handle_table.specs.Answer.{answer, own}
use Rattle.script_commands.specs.declared.command.Read.{Read}
use Rattle.script_out.specs.declared.output.OutLine.{OutLine}
use Rattle.script_out.specs.declared.output.Why.{Why}
use Rattle.script_lines.specs.Catalogs.{Books, book_for, catalog_setting, object_used, asked_after, catalogs_after, open_line}
use Rattle.script_wishes.specs.Holds.{object_held, open_holds, held_as}
use Rattle.script_lines.specs.Lines.{Caller}
use Rattle.script_wishes.specs.Turns.{Turn}
use Rattle.script_wishes.specs.Variables.{bindings_of}
use Rattle.script_wishes.specs.Wishes.{Wish, Calls, ReadsOf, Reads, AsksSelection, AsksName, OpensCatalog, GetsMessage, ClosesCatalog, wish_of}
use Rattle.script_lines.specs.Outcome.{reads_between, reads_of, read_line, opens_line, catalog_op_of, granted, catalogs_left}
use Rattle.script_plan.specs.Serial.{Run, TurnOutcome, next_caller, outcome, with_outcome, played}
use Rattle.script_plan.specs.Prints.{catalog_places_in, all_catalog_places}
use Rattle.script_serial.proofs.CatalogLines.{GoOnFrom, go_nowhere, go_on, op_on, op_legal}
use Rattle.script_serial.proofs.SerialLines.{first_places, no_place, one_place}

-- ---- the history goes on

-- the op of the catalogs that a turn asks for
abbrev pub turn_op : Setting → LibraryData → Books → Run → Turn → Option catalog.Op
turn_op c library books run turn = catalog_op_of c library books run.history turn.thread (wish_of library (bindings_of turn.thread run.bindings) turn.task)

pub turn_catalogs_on : (c : Setting) (library : LibraryData) (books : Books) (run : Run) (turn : Turn) → GoOnFrom run.catalogs (outcome c library books run turn).catalogs
turn_catalogs_on c library books run turn = op_on (catalog_setting c) run.catalogs turn.thread (length run.history) (turn_op c library books run turn)

pub played_catalogs_on : (c : Setting) (library : LibraryData) (books : Books) (run : Run) (turns : List Turn) → GoOnFrom run.catalogs (played c library books run turns).catalogs
played_catalogs_on c library books run [] = go_nowhere run.catalogs
played_catalogs_on c library books run (turn ∷ turns) =
    let done : TurnOutcome = outcome c library books run turn in
    go_on run.catalogs done.catalogs (played c library books (with_outcome run turn done) turns).catalogs (turn_catalogs_on c library books run turn) (played_catalogs_on c library books (with_outcome run turn done) turns)

pub played_catalogs_legal : (c : Setting) (library : LibraryData) (books : Books) (run : Run) (turns : List Turn) → IsLegal (catalog_setting c) run.catalogs → IsLegal (catalog_setting c) (played c library books run turns).catalogs
played_catalogs_legal c library books run [] legal = legal
played_catalogs_legal c library books run (turn ∷ turns) legal =
    played_catalogs_legal c library books (with_outcome run turn (outcome c library books run turn)) turns
    (op_legal (catalog_setting c) run.catalogs turn.thread (length run.history) (turn_op c library books run turn) legal)

op_threads : (n : ℕ) (c : CatalogSetting) (M : CatalogHistory) (thread stamp : ℕ) (op : Option catalog.Op) → thread < n → AreThreads n M → AreThreads n (catalogs_after c M thread stamp op)
op_threads n c M thread stamp None lt of = of
op_threads n c M thread stamp (Some op) lt of = (lt, of)

pub played_catalogs_threads : (n : ℕ) (c : Setting) (library : LibraryData) (books : Books) (run : Run) (turns : List Turn) → All (λ (t : Turn). t.thread < n) turns → AreThreads n run.catalogs
    → AreThreads n (played c library books run turns).catalogs
played_catalogs_threads n c library books run [] all of = of
played_catalogs_threads n c library books run (turn ∷ turns) all of =
    played_catalogs_threads n c library books (with_outcome run turn (outcome c library books run turn)) turns (All-tail (λ (t : Turn). t.thread < n) turn turns all)
    (op_threads n (catalog_setting c) run.catalogs turn.thread (length run.history) (turn_op c library books run turn) (All-head (λ (t : Turn). t.thread < n) turn turns all) of)

-- ---- the places of its entries

-- a line has the next place, where it makes an entry
abbrev Enters : CatalogHistory → OutLine → CatalogHistory → Type 0
Enters M l N = first_places (length M) ++ catalog_places_in l.places ≡ first_places (length N)

open_enters : (c : CatalogSetting) (M : CatalogHistory) (stamp : ℕ) (at : Caller) (version : Option ℕ) (n : Option ℕ)
    → Enters M (open_line at version (asked_after c M at.thread (option_map catalog.Open n)) n) (catalogs_after c M at.thread stamp (option_map catalog.Open n))
open_enters c M stamp at version None = no_place (length M)
open_enters c M stamp at version (Some n) = one_place (length M)

opens_enters : (c : Setting) (library : LibraryData) (books : Books) (H : History) (M : CatalogHistory) (at : Caller) (name : List ℕ) (object : Option Parts)
    → let op = option_map catalog.Open (book_for library books (object_used object (global c H)) name) in
    Enters M (opens_line c library books H at name (asked_after (catalog_setting c) M at.thread op) object) (catalogs_after (catalog_setting c) M at.thread (length H) op)
opens_enters c library books H M at name (Some object) = open_enters (catalog_setting c) M (length H) at None (book_for library books object name)
opens_enters c library books H M at name None = open_enters (catalog_setting c) M (length H) at (Some (sets H)) (book_for library books (global c H) name)

between_enters : (c : Setting) (library : LibraryData) (H : History) (M : CatalogHistory) (at : Caller) (n : Named) (read : Read) (object : Option Parts) → Enters M (reads_between c library H at n read object).line M
between_enters c library H M at n read None = no_place (length M)
between_enters c library H M at n read (Some object) = no_place (length M)

of_enters : (c : Setting) (library : LibraryData) (H : History) (M : CatalogHistory) (at : Caller) (n : Named) (read : Read) (held : Option Parts) → Enters M (reads_of c library H at n read held).line M
of_enters c library H M at n read (Some object) = no_place (length M)
of_enters c library H M at n read None = between_enters c library H M at n read (object_held (answer c H at.thread (table.Hold n)))

read_enters : (c : Setting) (library : LibraryData) (H : History) (M : CatalogHistory) (at : Caller) (read : Read) (object : Option Parts) → Enters M (read_line c library H at read object) M
read_enters c library H M at read (Some object) = no_place (length M)
read_enters c library H M at read None = no_place (length M)

pub granted_enters : (c : Setting) (library : LibraryData) (books : Books) (H : History) (M : CatalogHistory) (at : Caller) (w : Result Wish Why)
    → Enters M (granted c library books H M at w).line (catalogs_left c library books H M at.thread w)
granted_enters c library books H M at (Err why) = no_place (length M)
granted_enters c library books H M at (Ok (Calls categories op)) = no_place (length M)
granted_enters c library books H M at (Ok (ReadsOf n read)) = of_enters c library H M at n read (held_as (open_holds H at.thread) n)
granted_enters c library books H M at (Ok (Reads read)) = read_enters c library H M at read (own H at.thread)
granted_enters c library books H M at (Ok AsksSelection) = no_place (length M)
granted_enters c library books H M at (Ok (AsksName categories)) = no_place (length M)
granted_enters c library books H M at (Ok (OpensCatalog name)) = opens_enters c library books H M at name (own H at.thread)
granted_enters c library books H M at (Ok (GetsMessage h set message default)) = one_place (length M)
granted_enters c library books H M at (Ok (ClosesCatalog h)) = one_place (length M)

abbrev pub IsEntered : Run → Type 0
IsEntered run = all_catalog_places run.lines ≡ first_places (length run.catalogs)

pub one_turn_entered : (c : Setting) (library : LibraryData) (books : Books) (run : Run) (turn : Turn) → IsEntered run → IsEntered (with_outcome run turn (outcome c library books run turn))
one_turn_entered c library books run turn entered =
    let done : TurnOutcome = outcome c library books run turn in
    flat_map-append (λ (l : OutLine). catalog_places_in l.places) run.lines (done.line ∷ [])
    ∙ ap (λ (xs : List ℕ). all_catalog_places run.lines ++ xs) (append-nil (catalog_places_in done.line.places))
    ∙ ap (λ (xs : List ℕ). xs ++ catalog_places_in done.line.places) entered
    ∙ granted_enters c library books run.history run.catalogs (next_caller run turn) (wish_of library (bindings_of turn.thread run.bindings) turn.task)

pub all_turns_entered : (c : Setting) (library : LibraryData) (books : Books) (run : Run) (turns : List Turn) → IsEntered run → IsEntered (played c library books run turns)
all_turns_entered c library books run [] entered = entered
all_turns_entered c library books run (turn ∷ turns) entered = all_turns_entered c library books (with_outcome run turn (outcome c library books run turn)) turns (one_turn_entered c library books run turn entered)
