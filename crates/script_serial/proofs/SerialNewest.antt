-- Each version that a line of `serial` prints without having made it is that of the calls before the line.
use Rattle.std.proofs.Common.{◌≡◌, ℕ, List, [], ◌∷◌, length, Option, Some, None, Result, Ok, Err, refl, sym, ap, subst, ◌∙◌}
use Rattle.std.proofs.lemmas.Option.{same_Some}
use Rattle.mask_compose.specs.Parts.{Parts}
use Rattle.category_store.specs.LibraryData.{LibraryData}
use Rattle.lc_base.specs.declared.handle.Named.{Named}
use Rattle.handle_table.specs.Entry as table
use Rattle.handle_table.specs.Entry.{History, Setting}
use Rattle.handle_table.specs.History.{sets, global}
use Rattle.handle_table.specs.Answer.{answer, own, IsLegal}
use Rattle.script_commands.specs.declared.command.Read.{Read}
use Rattle.script_out.specs.declared.output.OutLine.{OutLine}
use Rattle.script_out.specs.declared.output.Why.{Why}
use Rattle.script_plan.specs.Plan.{PlanData, books_of}
use Rattle.script_wishes.specs.Holds.{object_held, open_holds, held_as}
use Rattle.script_lines.specs.Lines.{Caller}
use Rattle.script_wishes.specs.Turns.{Turn}
use Rattle.script_wishes.specs.Wishes.{Wish, Calls, ReadsOf, Reads, AsksSelection, AsksName, OpensCatalog, GetsMessage, ClosesCatalog}
use Rattle.script_lines.specs.Outcome.{reads_between, reads_of, read_line, granted, opens_line, asked_of}
use Rattle.script_plan.specs.Serial.{Run, next_caller, outcome, with_outcome, played, begun, serial_lines, setting, TurnOutcome}
use Rattle.script_plan.specs.Prints.{places_in, with_tasks, PlacedCall, calls_after, history_below, all_turns, AreNewest, PrintsInOrder}
use Rattle.script_serial.proofs.SerialLines.{IsCounted, one_turn, added}
use Rattle.script_serial.proofs.SerialCalls.{calls_from, past_is, played_on, played_legal, wish_in, calls_played}
use Rattle.script_plan.proofs.GoingOn.{GoesOnFrom}
use Rattle.script_serial.proofs.SerialAnswered.{places_so_far}
use Rattle.script_serial.proofs.SerialPrints.{turns, lines, whole, serial_is, turns_are, serial_prints, serial_in_order, serial_catalogs_in_order}
use Rattle.script_lines.specs.Catalogs.{Books, Asked, book_for}
use Rattle.script_serial.proofs.CatalogLines.{open_version}
use Rattle.catalog_handles.specs.Entry.{History as CatalogHistory}

-- a line without a place prints the version of the history
abbrev PrintsNewest : History → OutLine → Type 0
PrintsNewest H l = (version : ℕ) → places_in l.places ≡ [] → l.global ≡ Some version → version ≡ sets H

no_version : (version : ℕ) (m : ℕ) → None ≡ Some version → version ≡ m
no_version version m is = absurd (cc is)

one_place : (place version m : ℕ) → place ∷ [] ≡ [] → version ≡ m
one_place place version m is = absurd (cc is)

this_version : (version m : ℕ) → Some m ≡ Some version → version ≡ m
this_version version m is = sym (same_Some m version is)

between_newest : (c : Setting) (library : LibraryData) (H : History) (at : Caller) (n : Named) (read : Read) (object : Option Parts) → PrintsNewest H (reads_between c library H at n read object).line
between_newest c library H at n read None version none is = one_place (length H) version (sets H) none
between_newest c library H at n read (Some object) version none is = no_version version (sets H) is

of_newest : (c : Setting) (library : LibraryData) (H : History) (at : Caller) (n : Named) (read : Read) (held : Option Parts) → PrintsNewest H (reads_of c library H at n read held).line
of_newest c library H at n read (Some object) version none is = no_version version (sets H) is
of_newest c library H at n read None version none is = between_newest c library H at n read (object_held (answer c H at.thread (table.Hold n))) version none is

read_newest : (c : Setting) (library : LibraryData) (H : History) (at : Caller) (read : Read) (object : Option Parts) → PrintsNewest H (read_line c library H at read object)
read_newest c library H at read (Some object) version none is = no_version version (sets H) is
read_newest c library H at read None version none is = this_version version (sets H) is

opens_newest : (c : Setting) (library : LibraryData) (books : Books) (H : History) (at : Caller) (name : List ℕ) (asked : Asked) (object : Option Parts) → PrintsNewest H (opens_line c library books H at name asked object)
opens_newest c library books H at name asked (Some object) version none is = no_version version (sets H) (sym (open_version at None asked (book_for library books object name)) ∙ is)
opens_newest c library books H at name asked None version none is = this_version version (sets H) (sym (open_version at (Some (sets H)) asked (book_for library books (global c H) name)) ∙ is)

granted_newest : (c : Setting) (library : LibraryData) (books : Books) (H : History) (M : CatalogHistory) (at : Caller) (w : Result Wish Why) → PrintsNewest H (granted c library books H M at w).line
granted_newest c library books H M at (Err why) version none is = no_version version (sets H) is
granted_newest c library books H M at (Ok (Calls categories op)) version none is = one_place (length H) version (sets H) none
granted_newest c library books H M at (Ok (ReadsOf n read)) version none is = of_newest c library H at n read (held_as (open_holds H at.thread) n) version none is
granted_newest c library books H M at (Ok (Reads read)) version none is = read_newest c library H at read (own H at.thread) version none is
granted_newest c library books H M at (Ok AsksSelection) version none is = no_version version (sets H) is
granted_newest c library books H M at (Ok (AsksName categories)) version none is = this_version version (sets H) is
granted_newest c library books H M at (Ok (OpensCatalog name)) version none is = opens_newest c library books H at name (asked_of c library books H M at.thread (Ok (OpensCatalog name))) (own H at.thread) version none is
granted_newest c library books H M at (Ok (GetsMessage h set message default)) version none is = no_version version (sets H) is
granted_newest c library books H M at (Ok (ClosesCatalog h)) version none is = no_version version (sets H) is

are_newest : (c : Setting) (library : LibraryData) (books : Books) (F : History) (run : Run) (turns : List Turn) → IsLegal c F → F ≡ (played c library books run turns).history → IsCounted run
    → AreNewest c (calls_from F) run.lines (added c library books run turns)
are_newest c library books F run [] legal final counted = tt
are_newest c library books F run (turn ∷ turns) legal final counted =
    let done : TurnOutcome = outcome c library books run turn in
    let past : history_below c (calls_from F) (length run.history) ≡ run.history =
    past_is c F run.history legal (subst (GoesOnFrom run.history) (sym final) (played_on c library books run (turn ∷ turns)))
    in (
      λ version none is.
          granted_newest c library books run.history run.catalogs (next_caller run turn) (wish_in library run turn) version none is
          ∙ sym (ap sets past)
          ∙ sym (ap (λ (n : ℕ). sets (history_below c (calls_from F) n)) (places_so_far run counted)),
      are_newest c library books F (with_outcome run turn done) turns legal final (one_turn c library books run turn counted),
    )

-- serial prints line after line
pub serial_prints_in_order : (rows generations : ℕ) (plan : PlanData) → PrintsInOrder (setting plan rows generations) plan (serial_lines rows generations plan)
serial_prints_in_order rows generations plan =
    let c : Setting = setting plan rows generations in
    let all : List OutLine = lines rows generations plan in
    let ts : List Turn = turns rows generations plan in
    let F : History = whole rows generations plan in
    let calls : calls_after plan.library [] (with_tasks ts all) ≡ calls_from F = calls_played c plan.library (books_of plan) begun [] ts refl in
    let newest : AreNewest c (calls_from F) [] all = are_newest c plan.library (books_of plan) F begun ts (played_legal c plan.library (books_of plan) begun ts tt) refl refl in
    record {
      prints = serial_prints rows generations plan;
      in_order = serial_in_order rows generations plan;
      catalogs_in_order = serial_catalogs_in_order rows generations plan;
      newest =
          subst (λ (ls : List OutLine). AreNewest c (calls_after plan.library [] (with_tasks (all_turns c plan ls) ls)) [] ls) (sym (serial_is rows generations plan))
          (subst (λ (us : List Turn). AreNewest c (calls_after plan.library [] (with_tasks us all)) [] all) (sym (turns_are rows generations plan))
          (subst (λ (cs : List PlacedCall). AreNewest c cs [] all) (sym calls) newest));
    }

-- and so does what has its lines
pub printed_in_order : (plan : PlanData) (rows generations : ℕ) {all : List OutLine} → all ≡ serial_lines rows generations plan → PrintsInOrder (setting plan rows generations) plan all
printed_in_order plan rows generations is = subst (PrintsInOrder (setting plan rows generations) plan) (sym is) (serial_prints_in_order rows generations plan)
