-- The calls of the lines that `serial` prints: with their places they give back its history.
use Rattle.std.proofs.Common.{◌≡◌, ℕ, ◌≤◌, Bool, false, cond, List, [], ◌∷◌, ◌++◌, length, find, Option, Some, None, Result, Ok, Err, refl, sym, ap, subst, ◌∙◌, arith, append_assoc, append-nil, length-append}
use Rattle.std.specs.Prelude.{◌==◌}
use Rattle.std.specs.Option.{option_or}
use Rattle.std.proofs.lemmas.Bool.{eq-eqb, ne_eqb}
use Rattle.std.proofs.lemmas.List.Folds.{find-append}
use Rattle.mask_compose.specs.Parts.{Parts}
use Rattle.category_store.specs.LibraryData.{LibraryData}
use Rattle.lc_base.specs.declared.handle.Named.{Named}
use Rattle.handle_table.specs.Entry as table
use Rattle.handle_table.specs.Entry.{Entry, History, Setting}
use Rattle.handle_table.specs.Answer.{answer, entry, own, IsLegal}
use Rattle.script_commands.specs.declared.command.Read.{Read}
use Rattle.script_out.specs.declared.output.OutLine.{OutLine}
use Rattle.script_out.specs.declared.output.Why.{Why}
use Rattle.script_wishes.specs.Holds.{object_held, open_holds, held_as}
use Rattle.script_lines.specs.Lines.{Caller}
use Rattle.script_wishes.specs.Turns.{Turn}
use Rattle.script_wishes.specs.Variables.{Bound, bindings_of, bindings_after}
use Rattle.script_wishes.specs.Wishes.{Wish, Calls, ReadsOf, Reads, AsksSelection, AsksName, wish_of, OpensCatalog, GetsMessage, ClosesCatalog}
use Rattle.script_lines.specs.Outcome.{Outcome, with_call, reads_between, reads_of, read_line, granted, asked_of}
use Rattle.script_plan.specs.Serial.{Run, next_caller, outcome, with_outcome, played, TurnOutcome}
use Rattle.script_plan.specs.Prints.{TaskLine, with_tasks, bound_by, places_in, PlacedCall, calls_of, calls_after, with_placed, history_below}
use Rattle.script_serial.proofs.SerialLines.{granted_caller, added}
use Rattle.script_lines.specs.Catalogs.{Books}
use Rattle.script_serial.proofs.CatalogLines.{opens_places}
use Rattle.catalog_handles.specs.Entry.{History as CatalogHistory}
use Rattle.script_plan.proofs.GoingOn.{is_at, GoesOnFrom, goes_nowhere, one_entry, goes_on, wished_calls}

-- ---- the calls of a history, each at its place

abbrev pub call_at : History → Entry → PlacedCall
call_at H e = record { place = length H; thread = e.who; op = e.op }

abbrev pub calls_from : History → List PlacedCall
calls_from [] = []
calls_from (e ∷ H) = calls_from H ++ call_at H e ∷ []

pub calls_length : (H : History) → length (calls_from H) ≡ length H
calls_length [] = refl
calls_length (e ∷ H) = let long = length-append (calls_from H) (call_at H e ∷ []) in let before = calls_length H in omega (arith, long, before)

find_none : (H : History) (n : ℕ) → length H ≤ n → find (is_at n) (calls_from H) ≡ None
find_none [] n le = refl
find_none (e ∷ H) n le =
    let off : (length H == n) ≡ false = ne_eqb (length H) n (λ same. omega (arith, same, le)) in
    find-append (is_at n) (calls_from H) (call_at H e ∷ [])
    ∙ ap (λ (o : Option PlacedCall). option_or o (find (is_at n) (call_at H e ∷ []))) (find_none H n (omega (arith, le)))
    ∙ ap (λ (b : Bool). cond b (Some (call_at H e)) None) off

pub find_newest : (H : History) (e : Entry) → find (is_at (length H)) (calls_from (e ∷ H)) ≡ Some (call_at H e)
find_newest H e =
    find-append (is_at (length H)) (calls_from H) (call_at H e ∷ [])
    ∙ ap (λ (o : Option PlacedCall). option_or o (find (is_at (length H)) (call_at H e ∷ []))) (find_none H (length H) (omega arith))
    ∙ ap (λ (b : Bool). cond b (Some (call_at H e)) None) (eq-eqb (length H) (length H) refl)

find_it : (E H : History) (e : Entry) → find (is_at (length H)) (calls_from (E ++ e ∷ H)) ≡ Some (call_at H e)
find_it [] H e = find_newest H e
find_it (d ∷ E) H e =
    find-append (is_at (length H)) (calls_from (E ++ e ∷ H)) (call_at (E ++ e ∷ H) d ∷ [])
    ∙ ap (λ (o : Option PlacedCall). option_or o (find (is_at (length H)) (call_at (E ++ e ∷ H) d ∷ []))) (find_it E H e)

pub legal_before : (c : Setting) (E H : History) → IsLegal c (E ++ H) → IsLegal c H
legal_before c [] H legal = legal
legal_before c (e ∷ E) H legal = legal_before c E H legal.1

pub same_entry : (c : Setting) (H : History) (e : Entry) → e.reply ≡ answer c H e.who e.op → with_call c H e.who e.op ≡ e ∷ H
same_entry c H e is = ap (λ (r : table.Reply). record { who = e.who; op = e.op; reply = r } ∷ H) (sym is)

-- the calls of a legal history give back what it was at each place
pub all_past : (c : Setting) (E H : History) → IsLegal c (E ++ H) → history_below c (calls_from (E ++ H)) (length H) ≡ H
all_past c E [] legal = refl
all_past c E (e ∷ H) legal =
    let calls : List PlacedCall = calls_from (E ++ e ∷ H) in
    let same : (E ++ e ∷ []) ++ H ≡ E ++ e ∷ H = append_assoc E (e ∷ []) H in
    let before : history_below c calls (length H) ≡ H =
    subst (λ (G : History). history_below c (calls_from G) (length H) ≡ H) same (all_past c (E ++ e ∷ []) H (subst (IsLegal c) (sym same) legal))
    in
    let here : IsLegal c (e ∷ H) = legal_before c E (e ∷ H) legal in
    ap (λ (G : History). with_placed c G (find (is_at (length H)) calls)) before
    ∙ ap (λ (o : Option PlacedCall). with_placed c H o) (find_it E H e)
    ∙ same_entry c H e here.0

-- ---- histories that go on

pub past_is : (c : Setting) (F H : History) → IsLegal c F → GoesOnFrom H F → history_below c (calls_from F) (length H) ≡ H
past_is c F H legal on =
    ap (λ (G : History). history_below c (calls_from G) (length H)) on.is ∙ all_past c on.more H (subst (IsLegal c) on.is legal)

between_on : (c : Setting) (library : LibraryData) (H : History) (at : Caller) (n : Named) (read : Read) (object : Option Parts) → GoesOnFrom H (reads_between c library H at n read object).history
between_on c library H at n read None = one_entry H (entry c H at.thread (table.Hold n))
between_on c library H at n read (Some object) =
    let held : History = with_call c H at.thread (table.Hold n) in
    goes_on H held (with_call c held at.thread (table.Release n)) (one_entry H (entry c H at.thread (table.Hold n))) (one_entry held (entry c held at.thread (table.Release n)))

of_on : (c : Setting) (library : LibraryData) (H : History) (at : Caller) (n : Named) (read : Read) (held : Option Parts) → GoesOnFrom H (reads_of c library H at n read held).history
of_on c library H at n read (Some object) = goes_nowhere H
of_on c library H at n read None = between_on c library H at n read (object_held (answer c H at.thread (table.Hold n)))

pub granted_on : (c : Setting) (library : LibraryData) (books : Books) (H : History) (M : CatalogHistory) (at : Caller) (w : Result Wish Why) → GoesOnFrom H (granted c library books H M at w).history
granted_on c library books H M at (Err why) = goes_nowhere H
granted_on c library books H M at (Ok (Calls categories op)) = one_entry H (entry c H at.thread op)
granted_on c library books H M at (Ok (ReadsOf n read)) = of_on c library H at n read (held_as (open_holds H at.thread) n)
granted_on c library books H M at (Ok (Reads read)) = goes_nowhere H
granted_on c library books H M at (Ok AsksSelection) = goes_nowhere H
granted_on c library books H M at (Ok (AsksName categories)) = goes_nowhere H
granted_on c library books H M at (Ok (OpensCatalog name)) = goes_nowhere H
granted_on c library books H M at (Ok (GetsMessage h set message default)) = goes_nowhere H
granted_on c library books H M at (Ok (ClosesCatalog h)) = goes_nowhere H

abbrev pub wish_in : LibraryData → Run → Turn → Result Wish Why
wish_in library run turn = wish_of library (bindings_of turn.thread run.bindings) turn.task

pub turn_on : (c : Setting) (library : LibraryData) (books : Books) (run : Run) (turn : Turn) → GoesOnFrom run.history (outcome c library books run turn).history
turn_on c library books run turn = granted_on c library books run.history run.catalogs (next_caller run turn) (wish_in library run turn)

pub played_on : (c : Setting) (library : LibraryData) (books : Books) (run : Run) (turns : List Turn) → GoesOnFrom run.history (played c library books run turns).history
played_on c library books run [] = goes_nowhere run.history
played_on c library books run (turn ∷ turns) =
    let done : TurnOutcome = outcome c library books run turn in
    goes_on run.history done.history (played c library books (with_outcome run turn done) turns).history (turn_on c library books run turn) (played_on c library books (with_outcome run turn done) turns)

-- ---- histories stay legal

legal_call : (c : Setting) (H : History) (thread : ℕ) (op : table.Op) → IsLegal c H → IsLegal c (with_call c H thread op)
legal_call c H thread op legal = (refl, legal)

between_legal : (c : Setting) (library : LibraryData) (H : History) (at : Caller) (n : Named) (read : Read) (object : Option Parts) → IsLegal c H → IsLegal c (reads_between c library H at n read object).history
between_legal c library H at n read None legal = legal_call c H at.thread (table.Hold n) legal
between_legal c library H at n read (Some object) legal =
    legal_call c (with_call c H at.thread (table.Hold n)) at.thread (table.Release n) (legal_call c H at.thread (table.Hold n) legal)

of_legal : (c : Setting) (library : LibraryData) (H : History) (at : Caller) (n : Named) (read : Read) (held : Option Parts) → IsLegal c H → IsLegal c (reads_of c library H at n read held).history
of_legal c library H at n read (Some object) legal = legal
of_legal c library H at n read None legal = between_legal c library H at n read (object_held (answer c H at.thread (table.Hold n))) legal

pub granted_legal : (c : Setting) (library : LibraryData) (books : Books) (H : History) (M : CatalogHistory) (at : Caller) (w : Result Wish Why) → IsLegal c H → IsLegal c (granted c library books H M at w).history
granted_legal c library books H M at (Err why) legal = legal
granted_legal c library books H M at (Ok (Calls categories op)) legal = legal_call c H at.thread op legal
granted_legal c library books H M at (Ok (ReadsOf n read)) legal = of_legal c library H at n read (held_as (open_holds H at.thread) n) legal
granted_legal c library books H M at (Ok (Reads read)) legal = legal
granted_legal c library books H M at (Ok AsksSelection) legal = legal
granted_legal c library books H M at (Ok (AsksName categories)) legal = legal
granted_legal c library books H M at (Ok (OpensCatalog name)) legal = legal
granted_legal c library books H M at (Ok (GetsMessage h set message default)) legal = legal
granted_legal c library books H M at (Ok (ClosesCatalog h)) legal = legal

pub played_legal : (c : Setting) (library : LibraryData) (books : Books) (run : Run) (turns : List Turn) → IsLegal c run.history → IsLegal c (played c library books run turns).history
played_legal c library books run [] legal = legal
played_legal c library books run (turn ∷ turns) legal =
    played_legal c library books (with_outcome run turn (outcome c library books run turn)) turns
    (granted_legal c library books run.history run.catalogs (next_caller run turn) (wish_in library run turn) legal)

-- ---- the calls of a line are those that its history has gained

abbrev Gains : History → Caller → Result Wish Why → Outcome → Type 0
Gains H at w done = calls_from done.history ≡ calls_from H ++ wished_calls at.thread (places_in done.line.places) w

no_gain : (H : History) → calls_from H ≡ calls_from H ++ []
no_gain H = sym (append-nil (calls_from H))

between_gains : (c : Setting) (library : LibraryData) (H : History) (at : Caller) (n : Named) (read : Read) (object : Option Parts) → Gains H at (Ok (ReadsOf n read)) (reads_between c library H at n read object)
between_gains c library H at n read None = refl
between_gains c library H at n read (Some object) =
    let held : History = with_call c H at.thread (table.Hold n) in
    append_assoc (calls_from H) (call_at H (entry c H at.thread (table.Hold n)) ∷ []) (call_at held (entry c held at.thread (table.Release n)) ∷ [])

of_gains : (c : Setting) (library : LibraryData) (H : History) (at : Caller) (n : Named) (read : Read) (held : Option Parts) → Gains H at (Ok (ReadsOf n read)) (reads_of c library H at n read held)
of_gains c library H at n read (Some object) = no_gain H
of_gains c library H at n read None = between_gains c library H at n read (object_held (answer c H at.thread (table.Hold n)))

read_gains : (c : Setting) (library : LibraryData) (H : History) (at : Caller) (read : Read) (object : Option Parts) → Gains H at (Ok (Reads read)) (record { history = H; line = read_line c library H at read object })
read_gains c library H at read (Some object) = no_gain H
read_gains c library H at read None = no_gain H

pub granted_gains : (c : Setting) (library : LibraryData) (books : Books) (H : History) (M : CatalogHistory) (at : Caller) (w : Result Wish Why) → Gains H at w (granted c library books H M at w)
granted_gains c library books H M at (Err why) = no_gain H
granted_gains c library books H M at (Ok (Calls categories op)) = refl
granted_gains c library books H M at (Ok (ReadsOf n read)) = of_gains c library H at n read (held_as (open_holds H at.thread) n)
granted_gains c library books H M at (Ok (Reads read)) = read_gains c library H at read (own H at.thread)
granted_gains c library books H M at (Ok AsksSelection) = no_gain H
granted_gains c library books H M at (Ok (AsksName categories)) = no_gain H
granted_gains c library books H M at (Ok (OpensCatalog name)) = no_gain H ∙ ap (λ (ps : List ℕ). calls_from H ++ wished_calls at.thread ps (Ok (OpensCatalog name))) (sym (opens_places c library books H at name (asked_of c library books H M at.thread (Ok (OpensCatalog name))) (own H at.thread)))
granted_gains c library books H M at (Ok (GetsMessage h set message default)) = no_gain H
granted_gains c library books H M at (Ok (ClosesCatalog h)) = no_gain H

-- ---- the lines with their tasks

abbrev pub task_line_of : Turn → OutLine → TaskLine
task_line_of turn l = record { task = turn.task; line = l }

pub line_thread : (c : Setting) (library : LibraryData) (books : Books) (run : Run) (turn : Turn) → (outcome c library books run turn).line.thread ≡ turn.thread
line_thread c library books run turn = ap (λ (at : Caller). at.thread) (granted_caller c library books run.history run.catalogs (next_caller run turn) (wish_in library run turn))

pub line_round : (c : Setting) (library : LibraryData) (books : Books) (run : Run) (turn : Turn) → (outcome c library books run turn).line.round ≡ turn.round
line_round c library books run turn = ap (λ (at : Caller). at.round) (granted_caller c library books run.history run.catalogs (next_caller run turn) (wish_in library run turn))

-- what variables stand for after one more line
pub bound_next : (c : Setting) (library : LibraryData) (books : Books) (run : Run) (before : List TaskLine) (turn : Turn) → bound_by before ≡ run.bindings
    → bound_by (task_line_of turn (outcome c library books run turn).line ∷ before) ≡ (with_outcome run turn (outcome c library books run turn)).bindings
bound_next c library books run before turn bounds =
    let l : OutLine = (outcome c library books run turn).line in
    ap (λ (thread : ℕ). bindings_after thread (bound_by before) turn.task l.reply) (line_thread c library books run turn)
    ∙ ap (λ (bs : List Bound). bindings_after turn.thread bs turn.task l.reply) bounds

pub calls_here : (c : Setting) (library : LibraryData) (books : Books) (run : Run) (before : List TaskLine) (turn : Turn) → bound_by before ≡ run.bindings
    → calls_of library (bound_by before) (task_line_of turn (outcome c library books run turn).line)
    ≡ wished_calls turn.thread (places_in (outcome c library books run turn).line.places) (wish_in library run turn)
calls_here c library books run before turn bounds =
    let at : List ℕ = places_in (outcome c library books run turn).line.places in
    ap (λ (thread : ℕ). wished_calls thread at (wish_of library (bindings_of thread (bound_by before)) turn.task)) (line_thread c library books run turn)
    ∙ ap (λ (bs : List Bound). wished_calls turn.thread at (wish_of library (bindings_of turn.thread bs) turn.task)) bounds

-- the calls of the lines of turns are those of the history
pub calls_played : (c : Setting) (library : LibraryData) (books : Books) (run : Run) (before : List TaskLine) (turns : List Turn) → bound_by before ≡ run.bindings
    → calls_from run.history ++ calls_after library before (with_tasks turns (added c library books run turns)) ≡ calls_from (played c library books run turns).history
calls_played c library books run before [] bounds = append-nil (calls_from run.history)
calls_played c library books run before (turn ∷ turns) bounds =
    let done : TurnOutcome = outcome c library books run turn in
    let d : TaskLine = task_line_of turn done.line in
    let next : Run = with_outcome run turn done in
    let after : List PlacedCall = calls_after library (d ∷ before) (with_tasks turns (added c library books next turns)) in
    ap (λ (here : List PlacedCall). calls_from run.history ++ (here ++ after)) (calls_here c library books run before turn bounds)
    ∙ sym (append_assoc (calls_from run.history) (wished_calls turn.thread (places_in done.line.places) (wish_in library run turn)) after)
    ∙ ap (λ (calls : List PlacedCall). calls ++ after) (sym (granted_gains c library books run.history run.catalogs (next_caller run turn) (wish_in library run turn)))
    ∙ calls_played c library books next (d ∷ before) turns (bound_next c library books run before turn bounds)

-- the tasks of turns go with their lines alone
pub with_tasks_first : (c : Setting) (library : LibraryData) (books : Books) (run : Run) (turns : List Turn) (more : List OutLine) → with_tasks turns (added c library books run turns ++ more) ≡ with_tasks turns (added c library books run turns)
with_tasks_first c library books run [] more = refl
with_tasks_first c library books run (turn ∷ turns) more =
    let done : TurnOutcome = outcome c library books run turn in
    ap (λ (ds : List TaskLine). task_line_of turn done.line ∷ ds) (with_tasks_first c library books (with_outcome run turn done) turns more)
