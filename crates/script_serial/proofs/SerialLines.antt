-- The lines that `serial` prints: whose they are, and that their places go up from line to line.
use Rattle.std.proofs.Common.{◌≡◌, ℕ, zero, suc, ◌+◌, cond, List, [], ◌∷◌, ◌++◌, length, map, Option, Some, None, Result, Ok, Err, refl, sym, ap, ◌∙◌, append_assoc, arith}
use Rattle.std.specs.Prelude.{◌==◌, fold}
use Rattle.std.specs.List.{range_with_len}
use Rattle.std.proofs.lemmas.List.{map-append, append-nil}
use Rattle.std.proofs.lemmas.Grind.{flat_map-append}
use Rattle.mask_compose.specs.Parts.{Parts}
use Rattle.category_store.specs.LibraryData.{LibraryData}
use Rattle.lc_base.specs.declared.handle.Named.{Named}
use Rattle.handle_table.specs.Entry as table
use Rattle.handle_table.specs.Entry.{History, Setting}
use Rattle.handle_table.specs.Answer.{answer, own}
use Rattle.script_commands.specs.declared.command.Read.{Read}
use Rattle.script_out.specs.declared.output.OutLine.{OutLine}
use Rattle.script_out.specs.declared.output.Why.{Why}
use Rattle.script_wishes.specs.Holds.{object_held, open_holds, held_as}
use Rattle.script_lines.specs.Lines.{Caller}
use Rattle.script_wishes.specs.Turns.{Turn}
use Rattle.script_wishes.specs.Variables.{bindings_of}
use Rattle.script_wishes.specs.Wishes.{Wish, Calls, ReadsOf, Reads, AsksSelection, AsksName, wish_of, OpensCatalog, GetsMessage, ClosesCatalog}
use Rattle.script_lines.specs.Outcome.{Outcome, reads_between, reads_of, read_line, granted, asked_of}
use Rattle.script_plan.specs.Serial.{Run, next_caller, outcome, with_outcome, played, TurnOutcome}
use Rattle.script_plan.specs.Prints.{places_in, all_places, caller_of, caller_after, callers_after}
use Rattle.script_lines.specs.Catalogs.{Books}
use Rattle.script_serial.proofs.CatalogLines.{opens_caller, opens_places}
use Rattle.catalog_handles.specs.Entry.{History as CatalogHistory}

-- ---- whose line it is

between_caller : (c : Setting) (library : LibraryData) (H : History) (at : Caller) (n : Named) (read : Read) (object : Option Parts) → caller_of (reads_between c library H at n read object).line ≡ at
between_caller c library H at n read None = refl
between_caller c library H at n read (Some object) = refl

of_caller : (c : Setting) (library : LibraryData) (H : History) (at : Caller) (n : Named) (read : Read) (held : Option Parts) → caller_of (reads_of c library H at n read held).line ≡ at
of_caller c library H at n read (Some object) = refl
of_caller c library H at n read None = between_caller c library H at n read (object_held (answer c H at.thread (table.Hold n)))

read_caller : (c : Setting) (library : LibraryData) (H : History) (at : Caller) (read : Read) (object : Option Parts) → caller_of (read_line c library H at read object) ≡ at
read_caller c library H at read (Some object) = refl
read_caller c library H at read None = refl

pub granted_caller : (c : Setting) (library : LibraryData) (books : Books) (H : History) (M : CatalogHistory) (at : Caller) (w : Result Wish Why) → caller_of (granted c library books H M at w).line ≡ at
granted_caller c library books H M at (Err why) = refl
granted_caller c library books H M at (Ok (Calls categories op)) = refl
granted_caller c library books H M at (Ok (ReadsOf n read)) = of_caller c library H at n read (held_as (open_holds H at.thread) n)
granted_caller c library books H M at (Ok (Reads read)) = read_caller c library H at read (own H at.thread)
granted_caller c library books H M at (Ok AsksSelection) = refl
granted_caller c library books H M at (Ok (AsksName categories)) = refl
granted_caller c library books H M at (Ok (OpensCatalog name)) = opens_caller c library books H at name (asked_of c library books H M at.thread (Ok (OpensCatalog name))) (own H at.thread)
granted_caller c library books H M at (Ok (GetsMessage h set message default)) = refl
granted_caller c library books H M at (Ok (ClosesCatalog h)) = refl

-- a thread has as many lines as callers
same_count : (thread : ℕ) (a : ℕ) (lines : List OutLine) → fold (λ n (l : OutLine). n + cond (l.thread == thread) 1 0) a lines ≡ fold (λ n (at : Caller). n + cond (at.thread == thread) 1 0) a (map caller_of lines)
same_count thread a [] = refl
same_count thread a (l ∷ lines) = same_count thread (a + cond (l.thread == thread) 1 0) lines

pub next_is : (run : Run) (turn : Turn) → next_caller run turn ≡ caller_after (map caller_of run.lines) turn
next_is run turn = ap (λ (n : ℕ). record { round = turn.round; thread = turn.thread; index = n + 1 }) (same_count turn.thread 0 run.lines)

-- the callers of the lines are those of the turns
pub callers_played : (c : Setting) (library : LibraryData) (books : Books) (run : Run) (turns : List Turn) → map caller_of (played c library books run turns).lines ≡ map caller_of run.lines ++ callers_after (map caller_of run.lines) turns
callers_played c library books run [] = sym (append-nil (map caller_of run.lines))
callers_played c library books run (turn ∷ turns) =
    let before : List Caller = map caller_of run.lines in
    let done : TurnOutcome = outcome c library books run turn in
    let whose : caller_of done.line ≡ caller_after before turn =
    granted_caller c library books run.history run.catalogs (next_caller run turn) (wish_of library (bindings_of turn.thread run.bindings) turn.task) ∙ next_is run turn
    in
    let longer : map caller_of (run.lines ++ done.line ∷ []) ≡ before ++ caller_after before turn ∷ [] =
    map-append caller_of run.lines (done.line ∷ []) ∙ ap (λ (at : Caller). before ++ at ∷ []) whose
    in
    callers_played c library books (with_outcome run turn done) turns
    ∙ ap (λ (xs : List Caller). xs ++ callers_after xs turns) longer
    ∙ append_assoc before (caller_after before turn ∷ []) (callers_after (before ++ caller_after before turn ∷ []) turns)

pub played_append : (c : Setting) (library : LibraryData) (books : Books) (run : Run) (xs ys : List Turn) → played c library books run (xs ++ ys) ≡ played c library books (played c library books run xs) ys
played_append c library books run [] ys = refl
played_append c library books run (x ∷ xs) ys = played_append c library books (with_outcome run x (outcome c library books run x)) xs ys

-- ---- the lines that turns add

abbrev pub added : Setting → LibraryData → Books → Run → List Turn → List OutLine
added c library books run [] = []
added c library books run (turn ∷ turns) = (outcome c library books run turn).line ∷ added c library books (with_outcome run turn (outcome c library books run turn)) turns

pub played_lines : (c : Setting) (library : LibraryData) (books : Books) (run : Run) (turns : List Turn) → (played c library books run turns).lines ≡ run.lines ++ added c library books run turns
played_lines c library books run [] = sym (append-nil run.lines)
played_lines c library books run (turn ∷ turns) =
    let done : TurnOutcome = outcome c library books run turn in
    played_lines c library books (with_outcome run turn done) turns
    ∙ append_assoc run.lines (done.line ∷ []) (added c library books (with_outcome run turn done) turns)

pub added_append : (c : Setting) (library : LibraryData) (books : Books) (run : Run) (xs ys : List Turn) → added c library books run (xs ++ ys) ≡ added c library books run xs ++ added c library books (played c library books run xs) ys
added_append c library books run [] ys = refl
added_append c library books run (x ∷ xs) ys =
    let done : TurnOutcome = outcome c library books run x in
    ap (λ (ls : List OutLine). done.line ∷ ls) (added_append c library books (with_outcome run x done) xs ys)

-- ---- places

abbrev pub first_places : ℕ → List ℕ
first_places n = range_with_len 0 n

place_more : (a n : ℕ) → range_with_len a n ++ (a + n) ∷ [] ≡ range_with_len a (suc n)
place_more a zero = let here : a + 0 ≡ a = omega arith in ap (λ (m : ℕ). m ∷ []) here
place_more a (suc n) = let next : a + suc n ≡ a + 1 + n = omega arith in ap (λ (m : ℕ). a ∷ (range_with_len (a + 1) n ++ m ∷ [])) next ∙ ap (λ (xs : List ℕ). a ∷ xs) (place_more (a + 1) n)

pub one_place : (n : ℕ) → first_places n ++ n ∷ [] ≡ first_places (suc n)
one_place n = let here : n ≡ 0 + n = omega arith in ap (λ (m : ℕ). first_places n ++ m ∷ []) here ∙ place_more 0 n

two_places : (n : ℕ) → first_places n ++ n ∷ suc n ∷ [] ≡ first_places (suc (suc n))
two_places n = sym (append_assoc (first_places n) (n ∷ []) (suc n ∷ [])) ∙ ap (λ (xs : List ℕ). xs ++ suc n ∷ []) (one_place n) ∙ one_place (suc n)

pub no_place : (n : ℕ) → first_places n ++ [] ≡ first_places n
no_place n = append-nil (first_places n)

abbrev Grows : History → Outcome → Type 0
Grows H done = first_places (length H) ++ places_in done.line.places ≡ first_places (length done.history)

between_places : (c : Setting) (library : LibraryData) (H : History) (at : Caller) (n : Named) (read : Read) (object : Option Parts) → Grows H (reads_between c library H at n read object)
between_places c library H at n read None = one_place (length H)
between_places c library H at n read (Some object) = two_places (length H)

of_places : (c : Setting) (library : LibraryData) (H : History) (at : Caller) (n : Named) (read : Read) (held : Option Parts) → Grows H (reads_of c library H at n read held)
of_places c library H at n read (Some object) = no_place (length H)
of_places c library H at n read None = between_places c library H at n read (object_held (answer c H at.thread (table.Hold n)))

read_places : (c : Setting) (library : LibraryData) (H : History) (at : Caller) (read : Read) (object : Option Parts) → Grows H (record { history = H; line = read_line c library H at read object })
read_places c library H at read (Some object) = no_place (length H)
read_places c library H at read None = no_place (length H)

-- a line has the next places, one for each entry that it makes
pub granted_places : (c : Setting) (library : LibraryData) (books : Books) (H : History) (M : CatalogHistory) (at : Caller) (w : Result Wish Why) → Grows H (granted c library books H M at w)
granted_places c library books H M at (Err why) = no_place (length H)
granted_places c library books H M at (Ok (Calls categories op)) = one_place (length H)
granted_places c library books H M at (Ok (ReadsOf n read)) = of_places c library H at n read (held_as (open_holds H at.thread) n)
granted_places c library books H M at (Ok (Reads read)) = read_places c library H at read (own H at.thread)
granted_places c library books H M at (Ok AsksSelection) = no_place (length H)
granted_places c library books H M at (Ok (AsksName categories)) = no_place (length H)
granted_places c library books H M at (Ok (OpensCatalog name)) = ap (λ (ps : List ℕ). first_places (length H) ++ ps) (opens_places c library books H at name (asked_of c library books H M at.thread (Ok (OpensCatalog name))) (own H at.thread)) ∙ no_place (length H)
granted_places c library books H M at (Ok (GetsMessage h set message default)) = no_place (length H)
granted_places c library books H M at (Ok (ClosesCatalog h)) = no_place (length H)

abbrev pub IsCounted : Run → Type 0
IsCounted run = all_places run.lines ≡ first_places (length run.history)

pub one_turn : (c : Setting) (library : LibraryData) (books : Books) (run : Run) (turn : Turn) → IsCounted run → IsCounted (with_outcome run turn (outcome c library books run turn))
one_turn c library books run turn counted =
    let done : TurnOutcome = outcome c library books run turn in
    flat_map-append (λ (l : OutLine). places_in l.places) run.lines (done.line ∷ [])
    ∙ ap (λ (xs : List ℕ). all_places run.lines ++ xs) (append-nil (places_in done.line.places))
    ∙ ap (λ (xs : List ℕ). xs ++ places_in done.line.places) counted
    ∙ granted_places c library books run.history run.catalogs (next_caller run turn) (wish_of library (bindings_of turn.thread run.bindings) turn.task)

pub all_turns_counted : (c : Setting) (library : LibraryData) (books : Books) (run : Run) (turns : List Turn) → IsCounted run → IsCounted (played c library books run turns)
all_turns_counted c library books run [] counted = counted
all_turns_counted c library books run (turn ∷ turns) counted = all_turns_counted c library books (with_outcome run turn (outcome c library books run turn)) turns (one_turn c library books run turn counted)
