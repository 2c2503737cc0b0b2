-- Each line of `serial` prints what its task asks for, judged by the history before its own places.
use Rattle.std.proofs.Common.{◌≡◌, ℕ, suc, ◌≤◌, true, false, List, [], ◌∷◌, ◌++◌, length, Option, Some, None, Result, Ok, Err, refl, sym, ap, subst, ◌∙◌, arith, inl, inr, le_refl, append-nil, append_assoc, length-append}
use Rattle.std.specs.Prelude.{◌==◌, nat_lt, nat_le, All, option_map}
use Rattle.std.specs.Option.{option_to_list}
use Rattle.std.proofs.lemmas.Bool.{le-ltb, le-leb}
use Rattle.std.proofs.lemmas.List.Elements.{All-nil, All-cons, All-head, All-tail, All-append, All-weaker, All-push, filter-append}
use Rattle.std.proofs.lemmas.List.FromFn.{length-range_with_len}
use Rattle.std.proofs.lemmas.Grind.{flat_map-append}
use Rattle.mask_compose.specs.Parts.{Parts}
use Rattle.category_store.specs.LibraryData.{LibraryData}
use Rattle.lc_base.specs.declared.handle.Named.{Named}
use Rattle.handle_table.specs.Entry as table
use Rattle.handle_table.specs.Entry.{History, Setting}
use Rattle.handle_table.specs.History.{sets, global, global_at, selection}
use Rattle.handle_table.specs.Answer.{answer, entry, own, IsLegal}
use Rattle.script_words.specs.declared.categories.CategoryArgument.TheVariants.{All as AllCategories}
use Rattle.script_commands.specs.declared.command.Read.{Read}
use Rattle.script_out.specs.declared.output.OutLine.{OutLine}
use Rattle.script_out.specs.declared.output.Said.TheVariants as said
use Rattle.script_out.specs.declared.output.Why.{Why}
use Rattle.script_plan.specs.Plan.{PlanData, books_of}
use Rattle.script_wishes.specs.Holds.{object_held, open_holds, held_as}
use Rattle.script_lines.specs.Lines.{Caller, plain_line, placed_line, global_read_line, global_name_line}
use Rattle.script_wishes.specs.Turns.{Turn}
use Rattle.script_wishes.specs.Variables.{Bound, bindings_of}
use Rattle.script_wishes.specs.Wishes.{Wish, Calls, ReadsOf, Reads, AsksSelection, AsksName, wish_of, OpensCatalog, GetsMessage, ClosesCatalog}
use Rattle.script_lines.specs.Outcome.{with_call, reads_between, reads_of, read_line, granted, opens_line, asked_of, catalogs_left}
use Rattle.script_plan.specs.Serial.{Run, next_caller, outcome, with_outcome, played, TurnOutcome}
use Rattle.script_plan.specs.Prints.{TaskLine, with_tasks, bound_by, places_in, all_places, of_thread, before_round, up_to_round, history_below, Around, around, past, next_place, seen, lines_of, first_of, versions, IsUpToPlace, IsVersion, global_of, IsReadOf, IsRead, IsGranted, IsAnswered, AreAnswered, caller_of, IsCatalogCall, IsOpenOf, IsOpen}
use Rattle.script_plan.proofs.LineLists.{all_kept, fewer_kept, filter_all, filter_none}
use Rattle.script_serial.proofs.SerialLines.{granted_caller, IsCounted, one_turn, added}
use Rattle.script_serial.proofs.SerialCalls.{calls_from, calls_length, past_is, granted_on, turn_on, played_on, wish_in, task_line_of, line_thread, line_round, bound_next}
use Rattle.script_serial.proofs.SerialSeen.{own_past, next_of, own_seen, selection_seen, holds_seen, own_back, granted_next, granted_version}
use Rattle.script_plan.proofs.GoingOn.{GoesOnFrom, goes_nowhere, one_entry, goes_on}
use Rattle.script_plan.proofs.VersionLemmas.{sets_on, global_on, past_up, UpTo, released_after}
use Rattle.script_lines.specs.Catalogs.{Books, Asked, book_for, catalog_setting, handle_meant, object_used, asked_after, catalogs_after, open_line, message_line, close_line}
use Rattle.script_serial.proofs.CatalogLines.{GoOnFrom, opens_places}
use Rattle.script_serial.proofs.SerialCatalogs.{played_catalogs_on}
use Rattle.catalog_handles.specs.Entry.{History as CatalogHistory}
use Rattle.catalog_handles.specs.Entry as catalog

-- ---- one line

-- what a line is judged by, where the history before it is H and all lines come to F
pub record Judges (x : Around) (H F : History) (at : Caller) : Type 0 where
  pub legal : IsLegal x.setting F
  pub pasts : (n : ℕ) → past x n ≡ history_below x.setting (calls_from F) n
  pub whole : x.whole ≡ F
  pub seen : next_place at.thread x.before ≡ length (own_past H at.thread)
  pub version : IsVersion x at (sets H)

past_at : (x : Around) (F H : History) → IsLegal x.setting F → ((n : ℕ) → past x n ≡ history_below x.setting (calls_from F) n) → GoesOnFrom H F → past x (length H) ≡ H
past_at x F H legal pasts on = pasts (length H) ∙ past_is x.setting F H legal on

seen_is : (x : Around) (H F : History) (at : Caller) → Judges x H F at → GoesOnFrom H F → seen x at.thread ≡ own_past H at.thread
seen_is x H F at j on =
    ap (past x) j.seen
    ∙ past_at x F (own_past H at.thread) j.legal j.pasts (goes_on (own_past H at.thread) H F (own_back H at.thread) on)

global_is : (x : Around) (H F : History) (at : Caller) → Judges x H F at → GoesOnFrom H F → global_of x (sets H) ≡ global x.setting H
global_is x H F at j on = ap (λ (G : History). global_at x.setting G (sets H)) j.whole ∙ global_on x.setting H F on

read_judged : (x : Around) (H F : History) (at : Caller) (read : Read) (object : Option Parts) → Judges x H F at → GoesOnFrom H F
    → IsRead x at (read_line x.setting x.plan.library H at read object) read object
read_judged x H F at read (Some object) j on = refl
read_judged x H F at read None j on = record {
  version = sets H;
  bounds = j.version;
  is = ap (global_read_line x.plan.library at read (sets H)) (sym (global_is x H F at j on));
}

between_judged : (x : Around) (H F : History) (at : Caller) (n : Named) (read : Read) (object : Option Parts) → Judges x H F at
    → object_held (answer x.setting H at.thread (table.Hold n)) ≡ object
    → GoesOnFrom (reads_between x.setting x.plan.library H at n read object).history F
    → IsReadOf x at (reads_between x.setting x.plan.library H at n read object).line n read None
between_judged x H F at n read None j is on =
    let c : Setting = x.setting in
    let before : past x (length H) ≡ H = past_at x F H j.legal j.pasts (goes_on H (with_call c H at.thread (table.Hold n)) F (one_entry H (entry c H at.thread (table.Hold n))) on) in
    inr (record {
      place = length H;
      held = ap (λ (G : History). object_held (answer c G at.thread (table.Hold n))) before ∙ is;
      is = ap (λ (G : History). placed_line x.plan.library (length H) at AllCategories (answer c G at.thread (table.Hold n))) (sym before);
    })
between_judged x H F at n read (Some object) j is on =
    let c : Setting = x.setting in
    let held : History = with_call c H at.thread (table.Hold n) in
    let released : History = with_call c held at.thread (table.Release n) in
    let later : GoesOnFrom held F = goes_on held released F (one_entry held (entry c held at.thread (table.Release n))) on in
    let before : past x (length H) ≡ H = past_at x F H j.legal j.pasts (goes_on H held F (one_entry H (entry c H at.thread (table.Hold n))) later) in
    let between : past x (length held) ≡ held = past_at x F held j.legal j.pasts later in
    inl (record {
      hold = length H;
      release = length held;
      object = object;
      held = ap (λ (G : History). object_held (answer c G at.thread (table.Hold n))) before ∙ is;
      released = ap (λ (G : History). answer c G at.thread (table.Release n)) between ∙ released_after c H at.thread n object is;
      is = refl;
    })

of_judged : (x : Around) (H F : History) (at : Caller) (n : Named) (read : Read) (held : Option Parts) → Judges x H F at
    → GoesOnFrom (reads_of x.setting x.plan.library H at n read held).history F
    → IsReadOf x at (reads_of x.setting x.plan.library H at n read held).line n read held
of_judged x H F at n read (Some object) j on = refl
of_judged x H F at n read None j on = between_judged x H F at n read (object_held (answer x.setting H at.thread (table.Hold n))) j refl on

-- what the catalogs have answered stands in their history
call_judged : (x : Around) (M : CatalogHistory) (stamp : ℕ) (at : Caller) (op : catalog.Op) (printed : Asked → OutLine) → GoOnFrom (catalogs_after (catalog_setting x.setting) M at.thread stamp (Some op)) x.catalogs
    → IsCatalogCall x at (printed (asked_after (catalog_setting x.setting) M at.thread (Some op))) op printed
call_judged x M stamp at op printed on = record {
  asked = asked_after (catalog_setting x.setting) M at.thread (Some op);
  stands = record { before = M; behind = on.more; stamp = stamp; whole = on.is; place = refl; reply = refl };
  is = refl;
}

open_judged : (x : Around) (M : CatalogHistory) (stamp : ℕ) (at : Caller) (version n : Option ℕ) → GoOnFrom (catalogs_after (catalog_setting x.setting) M at.thread stamp (option_map catalog.Open n)) x.catalogs
    → IsOpenOf x at (open_line at version (asked_after (catalog_setting x.setting) M at.thread (option_map catalog.Open n)) n) version n
open_judged x M stamp at version None on = refl
open_judged x M stamp at version (Some n) on = call_judged x M stamp at (catalog.Open n) (λ (a : Asked). open_line at version a (Some n)) on

opens_judged : (x : Around) (H F : History) (M : CatalogHistory) (at : Caller) (name : List ℕ) (object : Option Parts) → Judges x H F at → GoesOnFrom H F
    → let op = option_map catalog.Open (book_for x.plan.library (books_of x.plan) (object_used object (global x.setting H)) name) in
    GoOnFrom (catalogs_after (catalog_setting x.setting) M at.thread (length H) op) x.catalogs
    → IsOpen x at (opens_line x.setting x.plan.library (books_of x.plan) H at name (asked_after (catalog_setting x.setting) M at.thread op) object) name object
opens_judged x H F M at name (Some object) j on asked = open_judged x M (length H) at None (book_for x.plan.library (books_of x.plan) object name) asked
opens_judged x H F M at name None j on asked =
    let n : Parts → Option ℕ = λ (o : Parts). book_for x.plan.library (books_of x.plan) o name in
    let line : OutLine = open_line at (Some (sets H)) (asked_after (catalog_setting x.setting) M at.thread (option_map catalog.Open (n (global x.setting H)))) (n (global x.setting H)) in
    record {
      version = sets H;
      bounds = j.version;
      opens = subst (λ (o : Parts). IsOpenOf x at line (Some (sets H)) (n o)) (sym (global_is x H F at j on)) (open_judged x M (length H) at (Some (sets H)) (n (global x.setting H)) asked);
    }

-- the line of a wish is as the relation says
granted_judged : (x : Around) (H F : History) (M : CatalogHistory) (at : Caller) (w : Result Wish Why) → Judges x H F at
    → GoesOnFrom (granted x.setting x.plan.library (books_of x.plan) H M at w).history F
    → GoOnFrom (catalogs_left x.setting x.plan.library (books_of x.plan) H M at.thread w) x.catalogs
    → IsGranted x at (granted x.setting x.plan.library (books_of x.plan) H M at w).line w
granted_judged x H F M at (Err why) j on asked = refl
granted_judged x H F M at (Ok (Calls categories op)) j on asked =
    let c : Setting = x.setting in
    let before : past x (length H) ≡ H = past_at x F H j.legal j.pasts (goes_on H (with_call c H at.thread op) F (one_entry H (entry c H at.thread op)) on) in
    record {
      place = length H;
      is = ap (λ (G : History). placed_line x.plan.library (length H) at categories (answer c G at.thread op)) (sym before);
    }
granted_judged x H F M at (Ok (ReadsOf n read)) j on asked =
    let t : ℕ = at.thread in
    let held : Option Parts = held_as (open_holds H t) n in
    let on' : GoesOnFrom H F = goes_on H (reads_of x.setting x.plan.library H at n read held).history F (granted_on x.setting x.plan.library (books_of x.plan) H M at (Ok (ReadsOf n read))) on in
    let same : held ≡ held_as (open_holds (seen x t) t) n =
    ap (λ hs. held_as hs n) (sym (ap (λ (G : History). open_holds G t) (seen_is x H F at j on') ∙ holds_seen H t))
    in
    subst (IsReadOf x at (reads_of x.setting x.plan.library H at n read held).line n read) same (of_judged x H F at n read held j on)
granted_judged x H F M at (Ok (Reads read)) j on asked =
    let t : ℕ = at.thread in
    let same : own H t ≡ own (seen x t) t = sym (ap (λ (G : History). own G t) (seen_is x H F at j on) ∙ own_seen H t) in
    subst (IsRead x at (read_line x.setting x.plan.library H at read (own H t)) read) same (read_judged x H F at read (own H t) j on)
granted_judged x H F M at (Ok AsksSelection) j on asked =
    let t : ℕ = at.thread in
    ap (λ (s : Named). plain_line at (said.Is s)) (sym (ap (λ (G : History). selection G t) (seen_is x H F at j on) ∙ selection_seen H t))
granted_judged x H F M at (Ok (AsksName categories)) j on asked = record {
  version = sets H;
  bounds = j.version;
  is = ap (global_name_line x.plan.library at categories (sets H)) (sym (global_is x H F at j on));
}
granted_judged x H F M at (Ok (OpensCatalog name)) j on asked =
    let t : ℕ = at.thread in
    let own_op : Option Parts → Option catalog.Op = λ (o : Option Parts). option_map catalog.Open (book_for x.plan.library (books_of x.plan) (object_used o (global x.setting H)) name) in
    let same : own H t ≡ own (seen x t) t = sym (ap (λ (G : History). own G t) (seen_is x H F at j on) ∙ own_seen H t) in
    subst (IsOpen x at (opens_line x.setting x.plan.library (books_of x.plan) H at name (asked_after (catalog_setting x.setting) M t (own_op (own H t))) (own H t)) name) same
    (opens_judged x H F M at name (own H t) j on asked)
granted_judged x H F M at (Ok (GetsMessage h set message default)) j on asked = call_judged x M (length H) at (catalog.Get (handle_meant h)) (λ (a : Asked). message_line (books_of x.plan) at set message default a) asked
granted_judged x H F M at (Ok (ClosesCatalog h)) j on asked = call_judged x M (length H) at (catalog.Close (handle_meant h)) (λ (a : Asked). close_line at a) asked

-- ---- the bounds of a version

-- turns whose rounds do not go down
abbrev pub AreByRound : List Turn → Type 0
AreByRound [] = Unit {0}
AreByRound (turn ∷ turns) = All (λ (u : Turn). turn.round ≤ u.round) turns × AreByRound turns

pub added_rounds : (c : Setting) (library : LibraryData) (books : Books) (round : ℕ) (run : Run) (turns : List Turn) → All (λ (u : Turn). round ≤ u.round) turns → All (λ (l : OutLine). round ≤ l.round) (added c library books run turns)
added_rounds c library books round run [] from = All-nil (λ (l : OutLine). round ≤ l.round)
added_rounds c library books round run (turn ∷ turns) from =
    let done : TurnOutcome = outcome c library books run turn in
    All-cons (λ (l : OutLine). round ≤ l.round) done.line (added c library books (with_outcome run turn done) turns)
    (subst (λ (r : ℕ). round ≤ r) (sym (line_round c library books run turn)) (All-head (λ (u : Turn). round ≤ u.round) turn turns from))
    (added_rounds c library books round (with_outcome run turn done) turns (All-tail (λ (u : Turn). round ≤ u.round) turn turns from))

pub grown : (c : Setting) (library : LibraryData) (books : Books) (run : Run) (turn : Turn) → length run.history ≤ length (outcome c library books run turn).history
grown c library books run turn =
    let on = turn_on c library books run turn in
    let long = length-append on.more run.history in
    let is : length (outcome c library books run turn).history ≡ length (on.more ++ run.history) = ap length on.is in
    omega (arith, long, is)

-- the places of the lines that turns add are not below those before
none_below : (n : ℕ) → All (λ (p : ℕ). n ≤ p) []
none_below n = All-nil (λ (p : ℕ). n ≤ p)

one_below : (n p : ℕ) → n ≤ p → All (λ (q : ℕ). n ≤ q) (p ∷ [])
one_below n p le = All-cons (λ (q : ℕ). n ≤ q) p [] le (none_below n)

between_places_from : (c : Setting) (library : LibraryData) (H : History) (at : Caller) (n : Named) (read : Read) (object : Option Parts) → All (λ (p : ℕ). length H ≤ p) (places_in (reads_between c library H at n read object).line.places)
between_places_from c library H at n read None = one_below (length H) (length H) (le_refl (length H))
between_places_from c library H at n read (Some object) = All-cons (λ (q : ℕ). length H ≤ q) (length H) (suc (length H) ∷ []) (le_refl (length H)) (one_below (length H) (suc (length H)) (omega arith))

of_places_from : (c : Setting) (library : LibraryData) (H : History) (at : Caller) (n : Named) (read : Read) (held : Option Parts) → All (λ (p : ℕ). length H ≤ p) (places_in (reads_of c library H at n read held).line.places)
of_places_from c library H at n read (Some object) = none_below (length H)
of_places_from c library H at n read None = between_places_from c library H at n read (object_held (answer c H at.thread (table.Hold n)))

read_places_from : (c : Setting) (library : LibraryData) (H : History) (at : Caller) (read : Read) (object : Option Parts) → All (λ (p : ℕ). length H ≤ p) (places_in (read_line c library H at read object).places)
read_places_from c library H at read (Some object) = none_below (length H)
read_places_from c library H at read None = none_below (length H)

pub granted_places_from : (c : Setting) (library : LibraryData) (books : Books) (H : History) (M : CatalogHistory) (at : Caller) (w : Result Wish Why) → All (λ (p : ℕ). length H ≤ p) (places_in (granted c library books H M at w).line.places)
granted_places_from c library books H M at (Err why) = none_below (length H)
granted_places_from c library books H M at (Ok (Calls categories op)) = one_below (length H) (length H) (le_refl (length H))
granted_places_from c library books H M at (Ok (ReadsOf n read)) = of_places_from c library H at n read (held_as (open_holds H at.thread) n)
granted_places_from c library books H M at (Ok (Reads read)) = read_places_from c library H at read (own H at.thread)
granted_places_from c library books H M at (Ok AsksSelection) = none_below (length H)
granted_places_from c library books H M at (Ok (AsksName categories)) = none_below (length H)
granted_places_from c library books H M at (Ok (OpensCatalog name)) = subst (All (λ (p : ℕ). length H ≤ p)) (sym (opens_places c library books H at name (asked_of c library books H M at.thread (Ok (OpensCatalog name))) (own H at.thread))) (none_below (length H))
granted_places_from c library books H M at (Ok (GetsMessage h set message default)) = none_below (length H)
granted_places_from c library books H M at (Ok (ClosesCatalog h)) = none_below (length H)

added_from : (c : Setting) (library : LibraryData) (books : Books) (n : ℕ) (run : Run) (turns : List Turn) → n ≤ length run.history → All (λ (p : ℕ). n ≤ p) (all_places (added c library books run turns))
added_from c library books n run [] le = none_below n
added_from c library books n run (turn ∷ turns) le =
    let done : TurnOutcome = outcome c library books run turn in
    let next : Run = with_outcome run turn done in
    let more = grown c library books run turn in
    All-append (λ (p : ℕ). n ≤ p) (places_in done.line.places) (all_places (added c library books next turns))
    (All-weaker (λ (p : ℕ). length run.history ≤ p) (λ (p : ℕ). n ≤ p) (λ p from. omega (arith, from, le)) (places_in done.line.places) (granted_places_from c library books run.history run.catalogs (next_caller run turn) (wish_in library run turn)))
    (added_from c library books n next turns (omega (arith, le, more)))

lines_added : (turns : List Turn) (c : Setting) (library : LibraryData) (books : Books) (run : Run) → lines_of (with_tasks turns (added c library books run turns)) ≡ added c library books run turns
lines_added [] c library books run = refl
lines_added (turn ∷ turns) c library books run =
    let done : TurnOutcome = outcome c library books run turn in
    ap (λ (ls : List OutLine). done.line ∷ ls) (lines_added turns c library books (with_outcome run turn done))

-- ---- a run on its way, with the lines that are printed so far

pub record IsOnItsWay (c : Setting) (plan : PlanData) (all : List OutLine) (F : History) (V : CatalogHistory) (run : Run) (before : List TaskLine) (turns : List Turn) : Type 0 where
  pub legal : IsLegal c F
  pub final : F ≡ (played c plan.library (books_of plan) run turns).history
  pub catalogs : V ≡ (played c plan.library (books_of plan) run turns).catalogs
  pub lines : all ≡ run.lines ++ added c plan.library (books_of plan) run turns
  pub bounds : bound_by before ≡ run.bindings
  pub next : (t : ℕ) → next_place t before ≡ length (own_past run.history t)
  pub counted : IsCounted run
  pub by_round : AreByRound turns
  pub earlier : All (λ (l : OutLine). All (λ (u : Turn). l.round ≤ u.round) turns) run.lines
  pub printed : All (λ (v : ℕ). v ≤ sets run.history) (versions run.lines)
  pub printed_before : All (λ (v : ℕ). v ≤ sets run.history) (versions (lines_of before))

rounds_at_most : (run : Run) (turn : Turn) (turns : List Turn) → All (λ (l : OutLine). All (λ (u : Turn). l.round ≤ u.round) (turn ∷ turns)) run.lines → All (λ (l : OutLine). l.round ≤ turn.round) run.lines
rounds_at_most run turn turns earlier =
    All-weaker (λ (l : OutLine). All (λ (u : Turn). l.round ≤ u.round) (turn ∷ turns)) (λ (l : OutLine). l.round ≤ turn.round)
    (λ l h. All-head (λ (u : Turn). l.round ≤ u.round) turn turns h) run.lines earlier

-- the lines of the rounds before a turn's are among those before it
lines_before : (c : Setting) (plan : PlanData) (lines : List OutLine) (F : History) (V : CatalogHistory) (run : Run) (before : List TaskLine) (turn : Turn) (turns : List Turn) → IsOnItsWay c plan lines F V run before (turn ∷ turns)
    → before_round turn.round lines ≡ before_round turn.round run.lines
lines_before c plan lines F V run before turn turns w =
    let later : List OutLine = added c plan.library (books_of plan) run (turn ∷ turns) in
    let from : All (λ (u : Turn). turn.round ≤ u.round) (turn ∷ turns) = All-cons (λ (u : Turn). turn.round ≤ u.round) turn turns (le_refl turn.round) w.by_round.0 in
    let none : before_round turn.round later ≡ [] =
    filter_none (λ (l : OutLine). nat_lt l.round turn.round) later
    (All-weaker (λ (l : OutLine). turn.round ≤ l.round) (λ (l : OutLine). nat_lt l.round turn.round ≡ false) (λ l le. le-ltb l.round turn.round le) later (added_rounds c plan.library (books_of plan) turn.round run (turn ∷ turns) from))
    in
    ap (before_round turn.round) w.lines
    ∙ filter-append (λ (l : OutLine). nat_lt l.round turn.round) run.lines later
    ∙ ap (λ (ls : List OutLine). before_round turn.round run.lines ++ ls) none
    ∙ append-nil (before_round turn.round run.lines)

-- the lines before a turn are among those of the rounds up to its own
lines_up_to : (c : Setting) (plan : PlanData) (lines : List OutLine) (F : History) (V : CatalogHistory) (run : Run) (before : List TaskLine) (turn : Turn) (turns : List Turn) → IsOnItsWay c plan lines F V run before (turn ∷ turns)
    → up_to_round turn.round lines ≡ run.lines ++ up_to_round turn.round (added c plan.library (books_of plan) run (turn ∷ turns))
lines_up_to c plan lines F V run before turn turns w =
    let later : List OutLine = added c plan.library (books_of plan) run (turn ∷ turns) in
    let all : up_to_round turn.round run.lines ≡ run.lines =
    filter_all (λ (l : OutLine). nat_le l.round turn.round) run.lines
    (All-weaker (λ (l : OutLine). l.round ≤ turn.round) (λ (l : OutLine). nat_le l.round turn.round ≡ true) (λ l le. le-leb l.round turn.round le) run.lines (rounds_at_most run turn turns w.earlier))
    in
    ap (up_to_round turn.round) w.lines
    ∙ filter-append (λ (l : OutLine). nat_le l.round turn.round) run.lines later
    ∙ ap (λ (ls : List OutLine). ls ++ up_to_round turn.round later) all

pub places_so_far : (run : Run) → IsCounted run → length (all_places run.lines) ≡ length run.history
places_so_far run counted = ap length counted ∙ length-range_with_len 0 (length run.history)

up_to_first : (x : Around) (H : History) (ps : List ℕ) → ((p : ℕ) → length H ≤ p → sets H ≤ sets (past x p)) → All (λ (p : ℕ). length H ≤ p) ps → IsUpToPlace x (sets H) (first_of ps)
up_to_first x H [] above from = tt
up_to_first x H (p ∷ ps) above from = above p (All-head (λ (q : ℕ). length H ≤ q) p ps from)

-- what the next line is judged by
abbrev next_around : Setting → PlanData → List OutLine → History → CatalogHistory → Run → List TaskLine → Turn → List Turn → Around
next_around c plan lines F V run before turn turns =
    around c plan lines V (calls_from F) before (with_tasks turns (added c plan.library (books_of plan) (with_outcome run turn (outcome c plan.library (books_of plan) run turn)) turns))

on_way : (c : Setting) (plan : PlanData) (lines : List OutLine) (F : History) (V : CatalogHistory) (run : Run) (before : List TaskLine) (turns : List Turn) → IsOnItsWay c plan lines F V run before turns → GoesOnFrom run.history F
on_way c plan lines F V run before turns w = subst (GoesOnFrom run.history) (sym w.final) (played_on c plan.library (books_of plan) run turns)

version_is : (c : Setting) (plan : PlanData) (lines : List OutLine) (F : History) (V : CatalogHistory) (run : Run) (before : List TaskLine) (turn : Turn) (turns : List Turn) → IsOnItsWay c plan lines F V run before (turn ∷ turns)
    → IsVersion (next_around c plan lines F V run before turn turns) (next_caller run turn) (sets run.history)
version_is c plan lines F V run before turn turns w =
    let x : Around = next_around c plan lines F V run before turn turns in
    let H : History = run.history in
    let t : ℕ = turn.thread in
    let next : Run = with_outcome run turn (outcome c plan.library (books_of plan) run turn) in
    let later : List OutLine = added c plan.library (books_of plan) run (turn ∷ turns) in
    let on : GoesOnFrom H F = on_way c plan lines F V run before (turn ∷ turns) w in
    let here : past x (length H) ≡ H = past_is c F H w.legal on in
    let long : length (all_places run.lines) ≡ length H = places_so_far run w.counted in
    let below : (n : ℕ) → n ≤ length H → sets (past x n) ≤ sets H = λ n le. subst (λ (G : History). sets (past x n) ≤ sets G) here (past_up c (calls_from F) n (length H) le) in
    let above : (n : ℕ) → length H ≤ n → sets H ≤ sets (past x n) = λ n le. subst (λ (G : History). sets G ≤ sets (past x n)) here (past_up c (calls_from F) (length H) n le) in
    let back : GoesOnFrom (own_past H t) H = own_back H t in
    let shorter : length (own_past H t) ≤ length H = let sum = length-append back.more (own_past H t) in let is : length H ≡ length (back.more ++ own_past H t) = ap length back.is in omega (arith, sum, is) in
    let fewer : length (all_places (before_round turn.round lines)) ≤ length H =
    let few = fewer_kept (λ (l : OutLine). places_in l.places) (λ (l : OutLine). nat_lt l.round turn.round) run.lines in
    let same : length (all_places (before_round turn.round lines)) ≡ length (all_places (before_round turn.round run.lines)) = ap (λ (ls : List OutLine). length (all_places ls)) (lines_before c plan lines F V run before turn turns w) in
    omega (arith, few, same, long)
    in
    let more : length H ≤ length (all_places (up_to_round turn.round lines)) =
    let rest : List OutLine = up_to_round turn.round later in
    let same : length (all_places (up_to_round turn.round lines)) ≡ length (all_places run.lines ++ all_places rest) =
    ap (λ (ls : List OutLine). length (all_places ls)) (lines_up_to c plan lines F V run before turn turns w)
    ∙ ap length (flat_map-append (λ (l : OutLine). places_in l.places) run.lines rest)
    in
    let sum = length-append (all_places run.lines) (all_places rest) in
    omega (arith, same, sum, long)
    in
    let behind : All (λ (p : ℕ). length H ≤ p) (all_places (of_thread t (lines_of x.after))) =
    all_kept (λ (l : OutLine). places_in l.places) (λ (p : ℕ). length H ≤ p) (λ (l : OutLine). l.thread == t) (lines_of x.after)
    (subst (λ (ls : List OutLine). All (λ (p : ℕ). length H ≤ p) (all_places ls)) (sym (lines_added turns c plan.library (books_of plan) next))
    (added_from c plan.library (books_of plan) (length H) next turns (grown c plan.library (books_of plan) run turn)))
    in
    record {
      seen = subst (λ (n : ℕ). sets (past x n) ≤ sets H) (sym (w.next t)) (below (length (own_past H t)) shorter);
      rounds = below (length (all_places (before_round turn.round lines))) fewer;
      next = up_to_first x H (all_places (of_thread t (lines_of x.after))) above behind;
      round = above (length (all_places (up_to_round turn.round lines))) more;
      printed = all_kept (λ (l : OutLine). option_to_list l.global) (λ (v : ℕ). v ≤ sets H) (λ (l : OutLine). l.thread == t) (lines_of before) w.printed_before;
      printed_earlier = subst (λ (ls : List OutLine). All (λ (v : ℕ). v ≤ sets H) (versions ls)) (sym (lines_before c plan lines F V run before turn turns w))
          (all_kept (λ (l : OutLine). option_to_list l.global) (λ (v : ℕ). v ≤ sets H) (λ (l : OutLine). nat_lt l.round turn.round) run.lines w.printed);
    }

-- the next line prints what its turn asks for
line_answered : (c : Setting) (plan : PlanData) (lines : List OutLine) (F : History) (V : CatalogHistory) (run : Run) (before : List TaskLine) (turn : Turn) (turns : List Turn) → IsOnItsWay c plan lines F V run before (turn ∷ turns)
    → IsAnswered (next_around c plan lines F V run before turn turns) (task_line_of turn (outcome c plan.library (books_of plan) run turn).line)
line_answered c plan lines F V run before turn turns w =
    let x : Around = next_around c plan lines F V run before turn turns in
    let at : Caller = next_caller run turn in
    let done : TurnOutcome = outcome c plan.library (books_of plan) run turn in
    let wished : Result Wish Why = wish_in plan.library run turn in
    let next : Run = with_outcome run turn done in
    let judges : Judges x run.history F at = record {
      legal = w.legal;
      pasts = λ n. refl;
      whole = ap (history_below c (calls_from F)) (calls_length F) ∙ past_is c F F w.legal (goes_nowhere F);
      seen = w.next turn.thread;
      version = version_is c plan lines F V run before turn turns w;
    }
    in
    let on : GoesOnFrom done.history F = subst (GoesOnFrom done.history) (sym w.final) (played_on c plan.library (books_of plan) next turns) in
    let asked : GoOnFrom done.catalogs V = subst (GoOnFrom done.catalogs) (sym w.catalogs) (played_catalogs_on c plan.library (books_of plan) next turns) in
    let judged : IsGranted x at done.line wished = granted_judged x run.history F run.catalogs at wished judges on asked in
    let whose : caller_of done.line ≡ at = granted_caller c plan.library (books_of plan) run.history run.catalogs at wished in
    let same : wished ≡ wish_of plan.library (bindings_of done.line.thread (bound_by before)) turn.task =
    sym (ap (λ (thread : ℕ). wish_of plan.library (bindings_of thread (bound_by before)) turn.task) (line_thread c plan.library (books_of plan) run turn)
    ∙ ap (λ (bs : List Bound). wish_of plan.library (bindings_of turn.thread bs) turn.task) w.bounds)
    in
    subst (λ (a : Caller). IsGranted x a done.line (wish_of plan.library (bindings_of done.line.thread (bound_by before)) turn.task)) (sym whose)
    (subst (IsGranted x at done.line) same judged)

-- ---- all lines

-- no version that was printed is above that of the history
still_up : (H G : History) (vs : List ℕ) → sets H ≤ sets G → All (λ (v : ℕ). v ≤ sets H) vs → All (λ (v : ℕ). v ≤ sets G) vs
still_up H G vs up = All-weaker (λ (v : ℕ). v ≤ sets H) (λ (v : ℕ). v ≤ sets G) (λ v le. omega (arith, le, up)) vs

one_line_on : (c : Setting) (plan : PlanData) (lines : List OutLine) (F : History) (V : CatalogHistory) (run : Run) (before : List TaskLine) (turn : Turn) (turns : List Turn) → IsOnItsWay c plan lines F V run before (turn ∷ turns)
    → let done = outcome c plan.library (books_of plan) run turn in IsOnItsWay c plan lines F V (with_outcome run turn done) (task_line_of turn done.line ∷ before) turns
one_line_on c plan lines F V run before turn turns w =
    let done : TurnOutcome = outcome c plan.library (books_of plan) run turn in
    let next : Run = with_outcome run turn done in
    let l : OutLine = done.line in
    let at : Caller = next_caller run turn in
    let up : sets run.history ≤ sets done.history = sets_on run.history done.history (turn_on c plan.library (books_of plan) run turn) in
    let new : UpTo (sets done.history) l.global = granted_version c plan.library (books_of plan) run.history run.catalogs at (wish_in plan.library run turn) in
    let small : ℕ → Type 0 = λ (v : ℕ). v ≤ sets done.history in
    let tail : All (λ (k : OutLine). All (λ (u : Turn). k.round ≤ u.round) turns) run.lines =
    All-weaker (λ (k : OutLine). All (λ (u : Turn). k.round ≤ u.round) (turn ∷ turns)) (λ (k : OutLine). All (λ (u : Turn). k.round ≤ u.round) turns)
    (λ k h. All-tail (λ (u : Turn). k.round ≤ u.round) turn turns h) run.lines w.earlier
    in
    record {
      legal = w.legal;
      final = w.final;
      catalogs = w.catalogs;
      lines = w.lines ∙ sym (append_assoc run.lines (l ∷ []) (added c plan.library (books_of plan) next turns));
      bounds = bound_next c plan.library (books_of plan) run before turn w.bounds;
      next = λ t.
          ap (λ (n : ℕ). next_of (l.thread == t) (places_in l.places) n) (w.next t)
          ∙ ap (λ (thread : ℕ). next_of (thread == t) (places_in l.places) (length (own_past run.history t))) (line_thread c plan.library (books_of plan) run turn)
          ∙ granted_next t c plan.library (books_of plan) run.history run.catalogs at (wish_in plan.library run turn);
      counted = one_turn c plan.library (books_of plan) run turn w.counted;
      by_round = w.by_round.1;
      earlier = All-push (λ (k : OutLine). All (λ (u : Turn). k.round ≤ u.round) turns) run.lines l tail
          (subst (λ (r : ℕ). All (λ (u : Turn). r ≤ u.round) turns) (sym (line_round c plan.library (books_of plan) run turn)) w.by_round.0);
      printed = subst (All small) (sym (flat_map-append (λ (k : OutLine). option_to_list k.global) run.lines (l ∷ [])))
          (All-append small (versions run.lines) (versions (l ∷ [])) (still_up run.history done.history (versions run.lines) up w.printed)
          (subst (All small) (sym (append-nil (option_to_list l.global))) new));
      printed_before = All-append small (option_to_list l.global) (versions (lines_of before)) new (still_up run.history done.history (versions (lines_of before)) up w.printed_before);
    }

pub are_answered : (c : Setting) (plan : PlanData) (lines : List OutLine) (F : History) (V : CatalogHistory) (run : Run) (before : List TaskLine) (turns : List Turn) → IsOnItsWay c plan lines F V run before turns
    → AreAnswered c plan lines V (calls_from F) before (with_tasks turns (added c plan.library (books_of plan) run turns))
are_answered c plan lines F V run before [] w = tt
are_answered c plan lines F V run before (turn ∷ turns) w =
    let done : TurnOutcome = outcome c plan.library (books_of plan) run turn in (
      line_answered c plan lines F V run before turn turns w,
      are_answered c plan lines F V (with_outcome run turn done) (task_line_of turn done.line ∷ before) turns (one_line_on c plan lines F V run before turn turns w),
    )
