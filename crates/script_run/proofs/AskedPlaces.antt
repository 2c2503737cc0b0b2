-- The places of what lines have asked of the catalogs: each is there once, and they go up along a thread and from round to round.
use Rattle.std.proofs.Common.{◌≡◌, ℕ, suc, ◌+◌, ◌<◌, ◌≤◌, Bool, true, false, cond, List, [], ◌∷◌, ◌++◌, length, map, Option, Some, None, Result, Ok, Err, refl, sym, ap, subst, ◌∙◌, arith, inl, inr, reverse}
use Rattle.std.specs.Prelude.{◌==◌, nat_lt, nat_le, if◌then◌else◌, filter, count_by, All, option_map}
use Rattle.std.specs.List.Sorted.{IsStrictlyIncreasing}
use Rattle.std.proofs.lemmas.Bool.{cases_lt, ne_eqb, le-leb, leb-true}
use Rattle.std.proofs.lemmas.List.{append-nil, length-map, length-reverse, reverse-append}
use Rattle.std.proofs.lemmas.List.Concat.{flat_map-append}
use Rattle.std.proofs.lemmas.List.Elements.{All-nil, All-cons, All-head, All-tail, All-append, All-weaker, All-map, All-filter, filter-append}
use Rattle.std.proofs.lemmas.List.Sorted.{IsPermutation-reverse, sum_by-IsPermutation}
use Rattle.mask_compose.specs.Parts.{Parts}
use Rattle.category_store.specs.LibraryData.{LibraryData}
use Rattle.lc_base.specs.declared.handle.Named.{Named}
use Rattle.handle_table.specs.Entry as table
use Rattle.handle_table.specs.Entry.{Entry, History, Setting}
use Rattle.handle_table.specs.History.{sets, global}
use Rattle.handle_table.specs.Kept as table_kept
use Rattle.handle_table.specs.Answer.{answer, own}
use Rattle.catalog_handles.specs.declared.setting.CatalogSetting.{CatalogSetting}
use Rattle.catalog_handles.specs.Entry as catalogs
use Rattle.catalog_handles.specs.Entry.{History as CatalogHistory}
use Rattle.catalog_handles.specs.Answer as catalog_answers
use Rattle.script_commands.specs.declared.command.Read.{Read}
use Rattle.script_lang.specs.declared.bundle.Bundle.{Bundle}
use Rattle.script_out.specs.declared.output.OutLine.{OutLine}
use Rattle.script_out.specs.declared.output.Places.{Places}
use Rattle.script_out.specs.declared.output.Places.TheVariants as places
use Rattle.script_out.specs.declared.output.Why.{Why}
use Rattle.script_wishes.specs.declared.holds.OpenHold.{OpenHold}
use Rattle.script_lines.specs.Board.{Moments, catalog_op, reads_between, reads_of, reads, opens, granted_at}
use Rattle.script_lines.specs.Catalogs.{Books, Asked, book_for, object_used, catalog_setting, open_line}
use Rattle.script_wishes.specs.Holds.{object_held, open_holds, held_as}
use Rattle.script_lines.specs.Lines.{Caller}
use Rattle.script_wishes.specs.Turns.{Task, Runs, Releases, Ends, Turn, first_numbers, closing_turn, releases, closing, closing_turns}
use Rattle.script_wishes.specs.Variables.{Bindings, bindings_of}
use Rattle.script_wishes.specs.Wishes.{Wish, Calls, ReadsOf, Reads, AsksSelection, AsksName, OpensCatalog, GetsMessage, ClosesCatalog, wish_of}
use Rattle.script_plan.specs.Plan.{PlanData, books_of}
use Rattle.script_plan.specs.Prints.{TaskLine, bound_by, places_in, catalog_places_in, all_catalog_places, before_round, from_round, caller_of, AreCatalogsPlaced}
use Rattle.script_plan.proofs.LineLists.{GoUp, increasing, bit_of, filter_none}
use Rattle.script_plan.proofs.RoundTurns.{flat_all}
use Rattle.script_run.specs.Timed.{places_by, catalog_places_by, Timed, lines_in, task_lines, placed_back, own_lines, asked_place, asked_in, asked_back, moments_in, IsRight, AreRight, in_rounds_before, in_rounds_to, StandsAsked, HasStanding, IsWithin, IsAskedInRound, AreAsked, IsWhole}
use Rattle.script_run.proofs.Counted.{whole_length, once as stands_once, GoDown, down_up, all_reversed, places_down, kept_lines}
use Rattle.script_run.proofs.Placed.{fewer_of, kept_with}

-- ---- histories of the catalogs, by who has called alone

-- the entry of a thread, whatever it has asked
abbrev shadow_entry : catalogs.Entry → Entry
shadow_entry e = record { who = e.who; op = table.End; reply = table.Ended }

abbrev pub shadow : CatalogHistory → History
shadow V = map shadow_entry V

pub shadow_length : (V : CatalogHistory) → length (shadow V) ≡ length V
shadow_length V = length-map V shadow_entry

abbrev pick : Bool → ℕ → List ℕ → List ℕ
pick b n ps = if b then n ∷ ps else ps

pub shadow_places : (thread : ℕ) (V : CatalogHistory) → places_by thread (shadow V) ≡ catalog_places_by thread V
shadow_places thread [] = refl
shadow_places thread (e ∷ V) =
    ap (λ (n : ℕ). pick (e.who == thread) n (places_by thread (shadow V))) (shadow_length V)
    ∙ ap (pick (e.who == thread) (length V)) (shadow_places thread V)

shadow_threads : (n : ℕ) (V : CatalogHistory) → catalog_answers.AreThreads n V → table_kept.AreThreads n (shadow V)
shadow_threads n [] are = tt
shadow_threads n (e ∷ V) are = (are.0, shadow_threads n V are.1)

-- ---- lines, by where what they asked stands

abbrev shadow_at : Option catalogs.Op → Asked → Places
shadow_at None asked = places.None
shadow_at (Some op) asked = places.One asked.place

abbrev shadow_line : Timed → Timed
shadow_line t = record t { task_line = record t.task_line { line = record t.task_line.line { places = shadow_at t.op t.asked } } }

back_of : (op : Option catalogs.Op) (asked : Asked) → reverse (asked_place op asked) ≡ asked_place op asked
back_of None asked = refl
back_of (Some op) asked = refl

shadow_back_of : (op : Option catalogs.Op) (asked : Asked) (ps qs : List ℕ) → ps ≡ qs → reverse (places_in (shadow_at op asked)) ++ ps ≡ asked_place op asked ++ qs
shadow_back_of None asked ps qs same = same
shadow_back_of (Some op) asked ps qs same = ap (λ (rs : List ℕ). asked.place ∷ rs) same

shadow_back : (ts : List Timed) → placed_back (map shadow_line ts) ≡ asked_back ts
shadow_back [] = refl
shadow_back (t ∷ ts) = shadow_back_of t.op t.asked (placed_back (map shadow_line ts)) (asked_back ts) (shadow_back ts)

map_if : {X Y : Type 0} (f : X → Y) (x : X) (ks : List X) (b : Bool) → cond b (f x ∷ map f ks) (map f ks) ≡ map f (cond b (x ∷ ks) ks)
map_if f x ks true = refl
map_if f x ks false = refl

filter_map : {X Y : Type 0} (keep : Y → Bool) (f : X → Y) (xs : List X) → filter keep (map f xs) ≡ map f (filter (λ (x : X). keep (f x)) xs)
filter_map keep f [] = refl
filter_map keep f (x ∷ xs) =
    ap (λ (ks : List _). cond (keep (f x)) (f x ∷ ks) ks) (filter_map keep f xs) ∙ map_if f x (filter (λ (y : _). keep (f y)) xs) (keep (f x))

shadow_own : (thread : ℕ) (ts : List Timed) → own_lines thread (map shadow_line ts) ≡ map shadow_line (own_lines thread ts)
shadow_own thread ts = filter_map (λ (t : Timed). t.task_line.line.thread == thread) shadow_line ts

abbrev pub HasAskedPlaces : ℕ → CatalogHistory → List Timed → Type 0
HasAskedPlaces n V ts = (thread : ℕ) → thread < n → catalog_places_by thread V ≡ asked_back (own_lines thread ts)

module _ (n : ℕ) (V : CatalogHistory) (ts : List Timed) (callers : catalog_answers.AreThreads n V) (are : HasAskedPlaces n V ts) (threads : All (λ (t : Timed). t.task_line.line.thread < n) ts) where
  shadow_are : (thread : ℕ) → thread < n → places_by thread (shadow V) ≡ placed_back (own_lines thread (map shadow_line ts))
  shadow_are thread lt =
      shadow_places thread V ∙ are thread lt ∙ sym (shadow_back (own_lines thread ts)) ∙ ap placed_back (sym (shadow_own thread ts))

  shadow_below : All (λ (t : Timed). t.task_line.line.thread < n) (map shadow_line ts)
  shadow_below = All-map (λ (t : Timed). t.task_line.line.thread < n) shadow_line ts threads

  -- as much was asked as there are entries
  pub asked_length : length (asked_back ts) ≡ length V
  asked_length =
      ap length (sym (shadow_back ts)) ∙ whole_length n (shadow V) (map shadow_line ts) (shadow_threads n V callers) shadow_are shadow_below ∙ shadow_length V

  asked_once : (p : ℕ) → p < length V → count_by (λ (q : ℕ). q == p) (asked_back ts) ≡ 1
  asked_once p lt =
      ap (count_by (λ (q : ℕ). q == p)) (sym (shadow_back ts))
      ∙ stands_once n (shadow V) (map shadow_line ts) (shadow_threads n V callers) shadow_are shadow_below p (subst (λ (k : ℕ). p < k) (sym (shadow_length V)) lt)

  asked_down : (thread : ℕ) → GoDown (asked_back (own_lines thread ts))
  asked_down thread =
      elim (cases_lt thread n) [
        | inl lt ↦ subst GoDown (shadow_places thread V ∙ are thread lt) (places_down thread (shadow V))
        | inr ge ↦
            let none : own_lines thread ts ≡ [] =
            filter_none (λ (t : Timed). t.task_line.line.thread == thread) ts
            (All-weaker (λ (t : Timed). t.task_line.line.thread < n) (λ (t : Timed). (t.task_line.line.thread == thread) ≡ false)
            (λ t lt. ne_eqb t.task_line.line.thread thread (λ same. omega (arith, lt, ge, same))) ts threads)
            in
            subst GoDown (sym (ap asked_back none)) tt
      ]

-- ---- the printed lines show these places

between_shows : (c : Setting) (library : LibraryData) (m : Moments) (at : Caller) (n : Named) (read : Read) (object : Option Parts) → catalog_places_in (reads_between c library m at n read object).line.places ≡ []
between_shows c library m at n read None = refl
between_shows c library m at n read (Some object) = refl

of_shows : (c : Setting) (library : LibraryData) (m : Moments) (at : Caller) (n : Named) (read : Read) (object : Option Parts) → catalog_places_in (reads_of c library m at n read object).line.places ≡ []
of_shows c library m at n read (Some object) = refl
of_shows c library m at n read None = between_shows c library m at n read (object_held (answer c m.first at.thread (table.Hold n)))

read_shows : (c : Setting) (library : LibraryData) (m : Moments) (at : Caller) (read : Read) (object : Option Parts) → catalog_places_in (reads c library m at read object).line.places ≡ []
read_shows c library m at read (Some object) = refl
read_shows c library m at read None = refl

open_shows : (at : Caller) (version : Option ℕ) (asked : Asked) (n : Option ℕ) → catalog_places_in (open_line at version asked n).places ≡ asked_place (option_map catalogs.Open n) asked
open_shows at version asked None = refl
open_shows at version asked (Some n) = refl

opens_shows : (c : Setting) (library : LibraryData) (books : Books) (m : Moments) (at : Caller) (name : List ℕ) (object : Option Parts)
    → catalog_places_in (opens c library books m at name object).line.places ≡ asked_place (option_map catalogs.Open (book_for library books (object_used object (global c m.first)) name)) m.asked
opens_shows c library books m at name (Some object) = open_shows at None m.asked (book_for library books object name)
opens_shows c library books m at name None = open_shows at (Some (sets m.first)) m.asked (book_for library books (global c m.first) name)

granted_shows : (c : Setting) (library : LibraryData) (books : Books) (m : Moments) (at : Caller) (w : Result Wish Why)
    → catalog_places_in (granted_at c library books m at w).line.places ≡ asked_place (catalog_op c library books m at.thread w) m.asked
granted_shows c library books m at (Err why) = refl
granted_shows c library books m at (Ok (Calls categories op)) = refl
granted_shows c library books m at (Ok (ReadsOf n read)) = of_shows c library m at n read (held_as (open_holds m.seen at.thread) n)
granted_shows c library books m at (Ok (Reads read)) = read_shows c library m at read (own m.seen at.thread)
granted_shows c library books m at (Ok AsksSelection) = refl
granted_shows c library books m at (Ok (AsksName categories)) = refl
granted_shows c library books m at (Ok (OpensCatalog name)) = opens_shows c library books m at name (own m.seen at.thread)
granted_shows c library books m at (Ok (GetsMessage h set message default)) = refl
granted_shows c library books m at (Ok (ClosesCatalog h)) = refl

abbrev pub Shows : Timed → Type 0
Shows t = catalog_places_in t.task_line.line.places ≡ asked_in t

line_shows : (c : Setting) (plan : PlanData) (W : History) (before : List TaskLine) (t : Timed) → IsRight c plan W before t → Shows t
line_shows c plan W before t r =
    let w : Result Wish Why = wish_of plan.library (bindings_of t.task_line.line.thread (bound_by before)) t.task_line.task in
    ap (λ (l : OutLine). catalog_places_in l.places) r.line
    ∙ granted_shows c plan.library (books_of plan) (moments_in W before t) (caller_of t.task_line.line) w
    ∙ ap (λ (op : Option catalogs.Op). asked_place op t.asked) (sym r.op)

pub all_show : (c : Setting) (plan : PlanData) (W : History) (ts : List Timed) → AreRight c plan W ts → All Shows ts
all_show c plan W [] right = All-nil Shows
all_show c plan W (t ∷ ts) right = All-cons Shows t ts (line_shows c plan W (task_lines ts) t right.0) (all_show c plan W ts right.1)

reversed_shown : (ts : List Timed) → All Shows ts → all_catalog_places (reverse (lines_in ts)) ≡ reverse (asked_back ts)
reversed_shown [] all = refl
reversed_shown (t ∷ ts) all =
    let l : OutLine = t.task_line.line in
    ap all_catalog_places (reverse-append (l ∷ []) (lines_in ts))
    ∙ flat_map-append (λ (k : OutLine). catalog_places_in k.places) (reverse (lines_in ts)) (l ∷ [])
    ∙ ap (λ (ps : List ℕ). ps ++ (catalog_places_in l.places ++ [])) (reversed_shown ts (All-tail Shows t ts all))
    ∙ ap (λ (ps : List ℕ). reverse (asked_back ts) ++ ps) (append-nil (catalog_places_in l.places) ∙ All-head Shows t ts all ∙ sym (back_of t.op t.asked))
    ∙ sym (reverse-append (asked_in t) (asked_back ts))

kept_shown : (keep : OutLine → Bool) (ts : List Timed) → All Shows ts → all_catalog_places (filter keep (reverse (lines_in ts))) ≡ reverse (asked_back (filter (λ (t : Timed). keep t.task_line.line) ts))
kept_shown keep ts all =
    ap all_catalog_places (kept_lines keep ts) ∙ reversed_shown (filter (λ (t : Timed). keep t.task_line.line) ts) (All-filter (λ (t : Timed). keep t.task_line.line) Shows ts all)

-- ---- the rounds

all_asked : (P : ℕ → Type 0) (ts : List Timed) → All (λ (t : Timed). All P (asked_in t)) ts → All P (asked_back ts)
all_asked P [] all = All-nil P
all_asked P (t ∷ ts) all =
    let Each : Timed → Type 0 = λ (x : Timed). All P (asked_in x) in
    All-append P (asked_in t) (asked_back ts) (All-head Each t ts all) (all_asked P ts (All-tail Each t ts all))

abbrev asked_before : ℕ → List Timed → ℕ
asked_before round ts = length (asked_back (in_rounds_before round ts))

before_below : (ts : List Timed) (round : ℕ) → All (IsAskedInRound ts) ts → All (λ (p : ℕ). p < asked_before round ts) (asked_back (in_rounds_before round ts))
before_below ts round known =
    let Below : ℕ → Type 0 = λ (p : ℕ). p < asked_before round ts in
    all_asked Below (in_rounds_before round ts)
    (kept_with (IsAskedInRound ts) (λ (t : Timed). All Below (asked_in t)) (λ (t : Timed). nat_lt t.task_line.line.round round) ts known
    (λ t earlier is.
    let next : suc t.task_line.line.round ≤ round = leb-true (suc t.task_line.line.round) round earlier in
    let fewer : length (asked_back (in_rounds_to t.task_line.line.round ts)) ≤ asked_before round ts =
    fewer_of asked_in (λ (x : Timed). nat_le x.task_line.line.round t.task_line.line.round) (λ (x : Timed). nat_lt x.task_line.line.round round) ts
    (λ x yes. let le : x.task_line.line.round ≤ t.task_line.line.round = leb-true x.task_line.line.round t.task_line.line.round yes in le-leb (suc x.task_line.line.round) round (omega (arith, le, next)))
    in
    All-weaker (IsWithin (asked_before t.task_line.line.round ts) (length (asked_back (in_rounds_to t.task_line.line.round ts)))) Below
    (λ p b. let below : p < length (asked_back (in_rounds_to t.task_line.line.round ts)) = b.until in omega (arith, below, fewer)) (asked_in t) is))

from_above : (ts : List Timed) (round : ℕ) → All (IsAskedInRound ts) ts → All (λ (q : ℕ). asked_before round ts ≤ q) (asked_back (filter (λ (t : Timed). nat_le round t.task_line.line.round) ts))
from_above ts round known =
    let Above : ℕ → Type 0 = λ (q : ℕ). asked_before round ts ≤ q in
    all_asked Above (filter (λ (t : Timed). nat_le round t.task_line.line.round) ts)
    (kept_with (IsAskedInRound ts) (λ (t : Timed). All Above (asked_in t)) (λ (t : Timed). nat_le round t.task_line.line.round) ts known
    (λ t later is.
    let le : round ≤ t.task_line.line.round = leb-true round t.task_line.line.round later in
    let fewer : asked_before round ts ≤ asked_before t.task_line.line.round ts =
    fewer_of asked_in (λ (x : Timed). nat_lt x.task_line.line.round round) (λ (x : Timed). nat_lt x.task_line.line.round t.task_line.line.round) ts
    (λ x yes. let next : suc x.task_line.line.round ≤ round = leb-true (suc x.task_line.line.round) round yes in le-leb (suc x.task_line.line.round) t.task_line.line.round (omega (arith, next, le)))
    in
    All-weaker (IsWithin (asked_before t.task_line.line.round ts) (length (asked_back (in_rounds_to t.task_line.line.round ts)))) Above
    (λ q b. let since : asked_before t.task_line.line.round ts ≤ q = b.since in omega (arith, since, fewer)) (asked_in t) is))

rounds_apart : (ts : List Timed) (round : ℕ) → All Shows ts → All (IsAskedInRound ts) ts
    → All (λ (p : ℕ). All (λ (q : ℕ). p < q) (all_catalog_places (from_round round (reverse (lines_in ts))))) (all_catalog_places (before_round round (reverse (lines_in ts))))
rounds_apart ts round shows known =
    let n : ℕ = asked_before round ts in
    let later : List Timed = filter (λ (t : Timed). nat_le round t.task_line.line.round) ts in
    let earlier : List Timed = in_rounds_before round ts in
    let above : All (λ (q : ℕ). n ≤ q) (all_catalog_places (from_round round (reverse (lines_in ts)))) =
    subst (All (λ (q : ℕ). n ≤ q)) (sym (kept_shown (λ (l : OutLine). nat_le round l.round) ts shows)) (all_reversed (λ (q : ℕ). n ≤ q) (asked_back later) (from_above ts round known))
    in
    let below : All (λ (p : ℕ). p < n) (all_catalog_places (before_round round (reverse (lines_in ts)))) =
    subst (All (λ (p : ℕ). p < n)) (sym (kept_shown (λ (l : OutLine). nat_lt l.round round) ts shows)) (all_reversed (λ (p : ℕ). p < n) (asked_back earlier) (before_below ts round known))
    in
    All-weaker (λ (p : ℕ). p < n) (λ (p : ℕ). All (λ (q : ℕ). p < q) (all_catalog_places (from_round round (reverse (lines_in ts)))))
    (λ p lt. All-weaker (λ (q : ℕ). n ≤ q) (λ (q : ℕ). p < q) (λ q le. omega (arith, lt, le)) (all_catalog_places (from_round round (reverse (lines_in ts)))) above)
    (all_catalog_places (before_round round (reverse (lines_in ts)))) below

-- ---- the whole

up_from : (keep : OutLine → Bool) (ts : List Timed) → All Shows ts → GoDown (asked_back (filter (λ (t : Timed). keep t.task_line.line) ts)) → IsStrictlyIncreasing (all_catalog_places (filter keep (reverse (lines_in ts))))
up_from keep ts shows down =
    increasing (all_catalog_places (filter keep (reverse (lines_in ts)))) (subst GoUp (sym (kept_shown keep ts shows)) (down_up (asked_back (filter (λ (t : Timed). keep t.task_line.line) ts)) down))

asked_placed : (c : Setting) (plan : PlanData) (W : History) (V : CatalogHistory) (ts : List Timed) → IsWhole c plan W ts → AreAsked (catalog_setting c) V ts → AreCatalogsPlaced (catalog_setting c) V (reverse (lines_in ts))
asked_placed c plan W V ts w a =
    let n : ℕ = c.threads in
    let ls : List OutLine = reverse (lines_in ts) in
    let shows : All Shows ts = all_show c plan W ts w.right in
    let same : all_catalog_places ls ≡ reverse (asked_back ts) = reversed_shown ts shows in
    let many : length (all_catalog_places ls) ≡ length V = ap length same ∙ length-reverse (asked_back ts) ∙ asked_length n V ts a.callers a.places w.threads in
    record {
      legal = a.legal;
      callers = a.callers;
      many = many;
      once = λ place lt.
          ap (count_by (λ (p : ℕ). p == place)) same ∙ sum_by-IsPermutation (bit_of place) (asked_back ts) (reverse (asked_back ts)) (IsPermutation-reverse (asked_back ts))
          ∙ asked_once n V ts a.callers a.places w.threads place (omega (arith, lt, many));
      threads = λ thread. up_from (λ (l : OutLine). l.thread == thread) ts shows (asked_down n V ts a.callers a.places w.threads thread);
      rounds = λ round. rounds_apart ts round shows a.rounds;
    }

-- ---- closing lines ask nothing of the catalogs

-- the task closes a thread
abbrev pub IsClosingTask : Task → Type 0
IsClosingTask (Runs command) = ⊥
IsClosingTask (Releases h) = Unit {0}
IsClosingTask Ends = Unit {0}

releases_close : (round thread : ℕ) (holds : List OpenHold) → All (λ (t : Turn). IsClosingTask t.task) (releases round thread holds)
releases_close round thread [] = All-nil (λ (t : Turn). IsClosingTask t.task)
releases_close round thread (o ∷ os) = All-cons (λ (t : Turn). IsClosingTask t.task) (closing_turn round thread (Releases o.handle)) (releases round thread os) tt (releases_close round thread os)

pub closing_tasks : (bundle : Bundle) (M : History) → All (λ (t : Turn). IsClosingTask t.task) (closing_turns bundle M)
closing_tasks bundle M =
    flat_all (λ (t : Turn). IsClosingTask t.task) (λ (t : ℕ). closing (bundle.rounds + 1) t (open_holds M t)) (first_numbers (length bundle.threads))
    (λ t. All-append (λ (u : Turn). IsClosingTask u.task) (releases (bundle.rounds + 1) t (open_holds M t)) (closing_turn (bundle.rounds + 1) t Ends ∷ [])
    (releases_close (bundle.rounds + 1) t (open_holds M t))
    (All-cons (λ (u : Turn). IsClosingTask u.task) (closing_turn (bundle.rounds + 1) t Ends) [] tt (All-nil (λ (u : Turn). IsClosingTask u.task))))

closer_asks : (c : Setting) (library : LibraryData) (books : Books) (m : Moments) (thread : ℕ) (b : Bindings) (task : Task) → IsClosingTask task → catalog_op c library books m thread (wish_of library b task) ≡ None
closer_asks c library books m thread b (Runs command) is = absurd is
closer_asks c library books m thread b (Releases h) is = refl
closer_asks c library books m thread b Ends is = refl

abbrev AsksNothing : Timed → Type 0
AsksNothing t = t.op ≡ None

closers_ask : (c : Setting) (plan : PlanData) (W : History) (closing made : List Timed) → AreRight c plan W (closing ++ made) → All (λ (t : Timed). IsClosingTask t.task_line.task) closing → All AsksNothing closing
closers_ask c plan W [] made right all = All-nil AsksNothing
closers_ask c plan W (t ∷ ts) made right all =
    let Closer : Timed → Type 0 = λ (x : Timed). IsClosingTask x.task_line.task in
    let before : List TaskLine = task_lines (ts ++ made) in
    All-cons AsksNothing t ts
    (right.0.op ∙ closer_asks c plan.library (books_of plan) (moments_in W before t) t.task_line.line.thread (bindings_of t.task_line.line.thread (bound_by before)) t.task_line.task (All-head Closer t ts all))
    (closers_ask c plan W ts made right.1 (All-tail Closer t ts all))

nothing_stands : (c : CatalogSetting) (V : CatalogHistory) (t : Timed) → AsksNothing t → HasStanding c V t
nothing_stands c V t none = subst (λ (op : Option catalogs.Op). StandsAsked c V t.task_line.line.thread op t.asked t.stamp) (sym none) tt

nothing_in : (t : Timed) → AsksNothing t → asked_in t ≡ []
nothing_in t none = ap (λ (op : Option catalogs.Op). asked_place op t.asked) none

nothing_back : (ts : List Timed) → All AsksNothing ts → asked_back ts ≡ []
nothing_back [] all = refl
nothing_back (t ∷ ts) all =
    ap (λ (ps : List ℕ). ps ++ asked_back ts) (nothing_in t (All-head AsksNothing t ts all)) ∙ nothing_back ts (All-tail AsksNothing t ts all)

pub all_standing : (c : Setting) (plan : PlanData) (W : History) (V : CatalogHistory) (closing made : List Timed) → AreRight c plan W (closing ++ made) → All (λ (t : Timed). IsClosingTask t.task_line.task) closing
    → All (HasStanding (catalog_setting c) V) made → All (HasStanding (catalog_setting c) V) (closing ++ made)
all_standing c plan W V closing made right closers standing =
    All-append (HasStanding (catalog_setting c) V) closing made
    (All-weaker AsksNothing (HasStanding (catalog_setting c) V) (λ t none. nothing_stands (catalog_setting c) V t none) closing (closers_ask c plan W closing made right closers)) standing

without_closing : (keep : Timed → Bool) (closing made : List Timed) → All AsksNothing closing → asked_back (filter keep (closing ++ made)) ≡ asked_back (filter keep made)
without_closing keep closing made none =
    ap asked_back (filter-append keep closing made)
    ∙ flat_map-append asked_in (filter keep closing) (filter keep made)
    ∙ ap (λ (ps : List ℕ). ps ++ asked_back (filter keep made)) (nothing_back (filter keep closing) (All-filter keep AsksNothing closing none))

-- what the lines of the commands have asked is what all lines have
pub asked_with : (c : Setting) (plan : PlanData) (W : History) (V : CatalogHistory) (closing made : List Timed) → AreRight c plan W (closing ++ made) → All (λ (t : Timed). IsClosingTask t.task_line.task) closing
    → AreAsked (catalog_setting c) V made → AreAsked (catalog_setting c) V (closing ++ made)
asked_with c plan W V closing made right closers a =
    let none : All AsksNothing closing = closers_ask c plan W closing made right closers in
    let all : List Timed = closing ++ made in
    let old : (t : Timed) → IsAskedInRound made t → IsAskedInRound all t = λ t is.
    let r : ℕ = t.task_line.line.round in
    let first : asked_back (in_rounds_before r all) ≡ asked_back (in_rounds_before r made) = without_closing (λ (x : Timed). nat_lt x.task_line.line.round r) closing made none in
    let last : asked_back (in_rounds_to r all) ≡ asked_back (in_rounds_to r made) = without_closing (λ (x : Timed). nat_le x.task_line.line.round r) closing made none in
    subst (λ (ps : List ℕ). All (IsWithin (length ps) (length (asked_back (in_rounds_to r all)))) (asked_in t)) (sym first)
    (subst (λ (ps : List ℕ). All (IsWithin (length (asked_back (in_rounds_before r made))) (length ps)) (asked_in t)) (sym last) is)
    in
    let new : (t : Timed) → AsksNothing t → IsAskedInRound all t = λ t nothing.
    let low : ℕ = length (asked_back (in_rounds_before t.task_line.line.round all)) in
    let high : ℕ = length (asked_back (in_rounds_to t.task_line.line.round all)) in
    subst (All (IsWithin low high)) (sym (nothing_in t nothing)) (All-nil (IsWithin low high))
    in
    record {
      legal = a.legal;
      rising = a.rising;
      callers = a.callers;
      standing = all_standing c plan W V closing made right closers a.standing;
      places = λ thread lt. a.places thread lt ∙ sym (without_closing (λ (t : Timed). t.task_line.line.thread == thread) closing made none);
      rounds = All-append (IsAskedInRound all) closing made (All-weaker AsksNothing (IsAskedInRound all) new closing none) (All-weaker (IsAskedInRound made) (IsAskedInRound all) old made a.rounds);
    }

pub catalogs_placed : (c : Setting) (plan : PlanData) (W : History) (V : CatalogHistory) (closing made : List Timed) → IsWhole c plan W (closing ++ made) → All (λ (t : Timed). IsClosingTask t.task_line.task) closing
    → AreAsked (catalog_setting c) V made → AreCatalogsPlaced (catalog_setting c) V (reverse (lines_in (closing ++ made)))
catalogs_placed c plan W V closing made w closers a = asked_placed c plan W V (closing ++ made) w (asked_with c plan W V closing made w.right closers a)
