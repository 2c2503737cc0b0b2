-- The versions that lines print of the global locale are those of what stood before them, and lie between those that bound them.
use Rattle.std.proofs.Common.{◌≡◌, ℕ, ◌+◌, ◌<◌, ◌≤◌, Bool, true, false, cond, List, [], ◌∷◌, ◌++◌, length, reverse, Option, Some, None, Result, Ok, Err, unwrap_or, refl, sym, ap, subst, ◌∙◌, arith, le_refl, append_assoc, length-append}
use Rattle.std.specs.Prelude.{◌==◌, nat_lt, nat_le, if◌then◌else◌, filter, All}
use Rattle.std.specs.Option.{option_to_list}
use Rattle.std.proofs.lemmas.Bool.{eq-eqb, lt-ltb, leb-true, ltb-true}
use Rattle.std.proofs.lemmas.List.{length-reverse, reverse-append}
use Rattle.std.proofs.lemmas.List.Elements.{All-nil, All-cons, All-head, All-tail, All-append, All-map, All-weaker, filter-append}
use Rattle.mask_compose.specs.Parts.{Parts}
use Rattle.category_store.specs.LibraryData.{LibraryData}
use Rattle.lc_base.specs.declared.handle.Named.{Named}
use Rattle.handle_table.specs.Entry as table
use Rattle.handle_table.specs.Entry.{History, Setting}
use Rattle.handle_table.specs.History.{sets, global}
use Rattle.handle_table.specs.Answer.{answer, own}
use Rattle.script_commands.specs.declared.command.Read.{Read}
use Rattle.script_words.specs.declared.categories.CategoryArgument.{CategoryArgument}
use Rattle.script_words.specs.declared.categories.CategoryArgument.TheVariants.{All as AllCategories}
use Rattle.script_out.specs.declared.output.OutLine.{OutLine}
use Rattle.script_out.specs.declared.output.Why.{Why}
use Rattle.catalog_handles.specs.Entry.{History as CatalogHistory}
use Rattle.script_lines.specs.Catalogs.{Books, Asked, book_for, open_line}
use Rattle.script_lines.specs.Board.{granted_at, reads_between, reads_of, reads, opens}
use Rattle.script_wishes.specs.Holds.{object_held, open_holds, held_as}
use Rattle.script_lines.specs.Lines.{Caller, entry_line, version_made}
use Rattle.script_lines.specs.Outcome.{with_call}
use Rattle.script_wishes.specs.Variables.{bindings_of}
use Rattle.script_wishes.specs.Wishes.{Wish, Calls, ReadsOf, Reads, AsksSelection, AsksName, OpensCatalog, GetsMessage, ClosesCatalog, wish_of}
use Rattle.script_plan.specs.Plan.{PlanData, books_of}
use Rattle.script_plan.specs.Prints.{TaskLine, PlacedCall, bound_by, places_in, call_of, all_places, of_thread, behind_last, next_place, history_below, Around, around, past, lines_of, first_of, place_behind, versions, IsUpToPlace, IsVersion, caller_of}
use Rattle.script_plan.proofs.LineLists.{all_right}
use Rattle.script_plan.proofs.GoingOn.{wished_calls}
use Rattle.script_plan.proofs.VersionLemmas.{UpTo, none_up, some_up, call_version}
use Rattle.script_run.specs.Timed.{oldest, Timed, end_of, last_end, AreTimed, lines_in, task_lines, placed_back, own_lines, in_rounds_before, in_rounds_to, moments_in, IsEntryOf, IsRight, AreRight, IsInRound, IsWhole}
use Rattle.script_run.proofs.Before.{oldest_again, sets_within}
use Rattle.script_run.proofs.Counted.{all_reversed, kept_places}
use Rattle.script_run.proofs.Placed.{StartsAt, line_starts}
use Rattle.script_run.proofs.LineAnswered.{MakesEntries}

-- ---- the version of one line

-- the line of an entry
entry_version : (c : Setting) (library : LibraryData) (W : History) (u : Timed) (categories : CategoryArgument) (op : table.Op) (more : List PlacedCall) → let first = oldest u.moment W in
    u.task_line.line ≡ entry_line library first (caller_of u.task_line.line) categories (answer c first u.task_line.line.thread op)
    → All (IsEntryOf c W) (call_of u.task_line.line.thread (length first, op) ∷ more)
    → UpTo (sets (oldest (end_of u) W)) u.task_line.line.global
entry_version c library W u categories op more is entries =
    let thread : ℕ = u.task_line.line.thread in
    let first : History = oldest u.moment W in
    let end : end_of u ≡ length first + 1 = ap (λ (l : OutLine). unwrap_or (behind_last (places_in l.places)) u.stamp) is in
    let here : IsEntryOf c W (call_of thread (length first, op)) = All-head (IsEntryOf c W) (call_of thread (length first, op)) more entries in
    let after : with_call c first thread op ≡ oldest (end_of u) W =
    ap (λ (G : History). with_call c G thread op) (sym (oldest_again u.moment W)) ∙ sym here.entry ∙ ap (λ (n : ℕ). oldest n W) (sym end)
    in
    subst (UpTo (sets (oldest (end_of u) W))) (sym (ap (λ (l : OutLine). l.global) is))
    (subst (λ (G : History). UpTo (sets G) (version_made (answer c first thread op))) after (call_version c first thread op))

-- a line that prints no version
silent_version : (n : ℕ) (l m : OutLine) → l ≡ m → m.global ≡ None → UpTo n l.global
silent_version n l m is none = subst (UpTo n) (sym (ap (λ (k : OutLine). k.global) is ∙ none)) (none_up n)

-- a line that prints the version of its moment
newest_version : (W : History) (u : Timed) (m : OutLine) → u.moment ≤ end_of u → u.task_line.line ≡ m → m.global ≡ Some (sets (oldest u.moment W)) → UpTo (sets (oldest (end_of u) W)) u.task_line.line.global
newest_version W u m since is some =
    subst (UpTo (sets (oldest (end_of u) W))) (sym (ap (λ (k : OutLine). k.global) is ∙ some))
    (some_up (sets (oldest (end_of u) W)) (sets (oldest u.moment W)) (sets_within u.moment (end_of u) W since))

between_version : (c : Setting) (library : LibraryData) (W : History) (before : List TaskLine) (u : Timed) (n : Named) (read : Read) (object : Option Parts)
    → MakesEntries c W u (Ok (ReadsOf n read))
    → u.task_line.line ≡ (reads_between c library (moments_in W before u) (caller_of u.task_line.line) n read object).line
    → UpTo (sets (oldest (end_of u) W)) u.task_line.line.global
between_version c library W before u n read None entries is =
    let at : places_in u.task_line.line.places ≡ length (oldest u.moment W) ∷ [] = ap (λ (l : OutLine). places_in l.places) is in
    entry_version c library W u AllCategories (table.Hold n) [] is (subst (λ (ps : List ℕ). All (IsEntryOf c W) (wished_calls u.task_line.line.thread ps (Ok (ReadsOf n read)))) at entries)
between_version c library W before u n read (Some object) entries is =
    silent_version (sets (oldest (end_of u) W)) u.task_line.line (reads_between c library (moments_in W before u) (caller_of u.task_line.line) n read (Some object)).line is refl

of_version : (c : Setting) (library : LibraryData) (W : History) (before : List TaskLine) (u : Timed) (n : Named) (read : Read) (object : Option Parts)
    → MakesEntries c W u (Ok (ReadsOf n read))
    → u.task_line.line ≡ (reads_of c library (moments_in W before u) (caller_of u.task_line.line) n read object).line
    → UpTo (sets (oldest (end_of u) W)) u.task_line.line.global
of_version c library W before u n read (Some object) entries is =
    silent_version (sets (oldest (end_of u) W)) u.task_line.line (reads_of c library (moments_in W before u) (caller_of u.task_line.line) n read (Some object)).line is refl
of_version c library W before u n read None entries is =
    between_version c library W before u n read (object_held (answer c (oldest u.moment W) u.task_line.line.thread (table.Hold n))) entries is

read_version : (c : Setting) (library : LibraryData) (W : History) (before : List TaskLine) (u : Timed) (read : Read) (object : Option Parts) → u.moment ≤ end_of u
    → u.task_line.line ≡ (reads c library (moments_in W before u) (caller_of u.task_line.line) read object).line
    → UpTo (sets (oldest (end_of u) W)) u.task_line.line.global
read_version c library W before u read (Some object) since is =
    silent_version (sets (oldest (end_of u) W)) u.task_line.line (reads c library (moments_in W before u) (caller_of u.task_line.line) read (Some object)).line is refl
read_version c library W before u read None since is =
    newest_version W u (reads c library (moments_in W before u) (caller_of u.task_line.line) read None).line since is refl

-- the version of a catopen, whether there is such a catalog or not
open_global : (at : Caller) (version : Option ℕ) (asked : Asked) (n : Option ℕ) → (open_line at version asked n).global ≡ version
open_global at version asked None = refl
open_global at version asked (Some n) = refl

opens_version : (c : Setting) (library : LibraryData) (books : Books) (W : History) (before : List TaskLine) (u : Timed) (name : List ℕ) (object : Option Parts) → u.moment ≤ end_of u
    → u.task_line.line ≡ (opens c library books (moments_in W before u) (caller_of u.task_line.line) name object).line
    → UpTo (sets (oldest (end_of u) W)) u.task_line.line.global
opens_version c library books W before u name (Some object) since is =
    silent_version (sets (oldest (end_of u) W)) u.task_line.line (opens c library books (moments_in W before u) (caller_of u.task_line.line) name (Some object)).line is
    (open_global (caller_of u.task_line.line) None u.asked (book_for library books object name))
opens_version c library books W before u name None since is =
    newest_version W u (opens c library books (moments_in W before u) (caller_of u.task_line.line) name None).line since is
    (open_global (caller_of u.task_line.line) (Some (sets (oldest u.moment W))) u.asked (book_for library books (global c (oldest u.moment W)) name))

granted_version : (c : Setting) (library : LibraryData) (books : Books) (W : History) (before : List TaskLine) (u : Timed) (w : Result Wish Why) → u.moment ≤ end_of u → MakesEntries c W u w
    → u.task_line.line ≡ (granted_at c library books (moments_in W before u) (caller_of u.task_line.line) w).line
    → UpTo (sets (oldest (end_of u) W)) u.task_line.line.global
granted_version c library books W before u (Err why) since entries is =
    silent_version (sets (oldest (end_of u) W)) u.task_line.line (granted_at c library books (moments_in W before u) (caller_of u.task_line.line) (Err why)).line is refl
granted_version c library books W before u (Ok (Calls categories op)) since entries is =
    let at : places_in u.task_line.line.places ≡ length (oldest u.moment W) ∷ [] = ap (λ (l : OutLine). places_in l.places) is in
    entry_version c library W u categories op [] is (subst (λ (ps : List ℕ). All (IsEntryOf c W) (wished_calls u.task_line.line.thread ps (Ok (Calls categories op)))) at entries)
granted_version c library books W before u (Ok (ReadsOf n read)) since entries is =
    of_version c library W before u n read (held_as (open_holds (oldest (next_place u.task_line.line.thread before) W) u.task_line.line.thread) n) entries is
granted_version c library books W before u (Ok (Reads read)) since entries is =
    read_version c library W before u read (own (oldest (next_place u.task_line.line.thread before) W) u.task_line.line.thread) since is
granted_version c library books W before u (Ok AsksSelection) since entries is =
    silent_version (sets (oldest (end_of u) W)) u.task_line.line (granted_at c library books (moments_in W before u) (caller_of u.task_line.line) (Ok AsksSelection)).line is refl
granted_version c library books W before u (Ok (AsksName categories)) since entries is =
    newest_version W u (granted_at c library books (moments_in W before u) (caller_of u.task_line.line) (Ok (AsksName categories))).line since is refl
granted_version c library books W before u (Ok (OpensCatalog name)) since entries is =
    opens_version c library books W before u name (own (oldest (next_place u.task_line.line.thread before) W) u.task_line.line.thread) since is
granted_version c library books W before u (Ok (GetsMessage h set message default)) since entries is =
    silent_version (sets (oldest (end_of u) W)) u.task_line.line (granted_at c library books (moments_in W before u) (caller_of u.task_line.line) (Ok (GetsMessage h set message default))).line is refl
granted_version c library books W before u (Ok (ClosesCatalog h)) since entries is =
    silent_version (sets (oldest (end_of u) W)) u.task_line.line (granted_at c library books (moments_in W before u) (caller_of u.task_line.line) (Ok (ClosesCatalog h))).line is refl

-- a line prints no version above that of what stands before its end
pub line_version : (c : Setting) (plan : PlanData) (W : History) (before : List TaskLine) (u : Timed) → IsRight c plan W before u → UpTo (sets (oldest (end_of u) W)) u.task_line.line.global
line_version c plan W before u right =
    granted_version c plan.library (books_of plan) W before u (wish_of plan.library (bindings_of u.task_line.line.thread (bound_by before)) u.task_line.task) right.since right.entries right.line

-- ---- lines of one thread go on in time

timed_if : (b : Bool) (u : Timed) (own : List Timed) → AreTimed (cond b (u ∷ own) own) → AreTimed own
timed_if true u own timed = timed.1
timed_if false u own timed = timed

next_or : (o : Option ℕ) (n stamp : ℕ) → n ≤ unwrap_or o stamp → unwrap_or o n ≤ unwrap_or o stamp
next_or None n stamp le = le
next_or (Some k) n stamp le = le_refl k

next_if : (b : Bool) (u : Timed) (own : List Timed) (n : ℕ) → u.moment ≤ end_of u → n ≤ last_end own → AreTimed (cond b (u ∷ own) own)
    → (if b then unwrap_or (behind_last (places_in u.task_line.line.places)) n else n) ≤ last_end (cond b (u ∷ own) own)
next_if true u own n since le timed = let later = timed.0 in next_or (behind_last (places_in u.task_line.line.places)) n u.stamp (omega (arith, le, later, since))
next_if false u own n since le timed = le

-- what a thread has seen of its own calls ends where its newest line does, or before
pub next_up : (thread : ℕ) (ts : List Timed) → All (λ (t : Timed). t.moment ≤ end_of t) ts → AreTimed (own_lines thread ts) → next_place thread (task_lines ts) ≤ last_end (own_lines thread ts)
next_up thread [] since timed = omega arith
next_up thread (u ∷ ts) since timed =
    let own : Bool = u.task_line.line.thread == thread in
    next_if own u (own_lines thread ts) (next_place thread (task_lines ts)) (All-head (λ (t : Timed). t.moment ≤ end_of t) u ts since)
    (next_up thread ts (All-tail (λ (t : Timed). t.moment ≤ end_of t) u ts since) (timed_if own u (own_lines thread ts) timed)) timed

all_since : (c : Setting) (plan : PlanData) (W : History) (ts : List Timed) → AreRight c plan W ts → All (λ (t : Timed). t.moment ≤ end_of t) ts
all_since c plan W [] right = All-nil (λ (t : Timed). t.moment ≤ end_of t)
all_since c plan W (t ∷ ts) right = All-cons (λ (u : Timed). u.moment ≤ end_of u) t ts right.0.since (all_since c plan W ts right.1)

-- a thread's lines print no version above that of what stands behind them
version_if : (small : ℕ → Type 0) (b : Bool) (n : ℕ) (u : Timed) (own : List Timed) (rest : List OutLine) → u.moment ≤ end_of u → AreTimed (cond b (u ∷ own) own) → last_end (cond b (u ∷ own) own) ≤ n
    → (end_of u ≤ n → All small (option_to_list u.task_line.line.global)) → (last_end own ≤ n → All small (versions rest)) → All small (versions (cond b (u.task_line.line ∷ rest) rest))
version_if small true n u own rest since timed le here more =
    let later = timed.0 in
    All-append small (option_to_list u.task_line.line.global) (versions rest) (here le) (more (omega (arith, later, since, le)))
version_if small false n u own rest since timed le here more = more le

up_later : (n m : ℕ) (W : History) (o : Option ℕ) → n ≤ m → UpTo (sets (oldest n W)) o → UpTo (sets (oldest m W)) o
up_later n m W o le up =
    let more = sets_within n m W le in
    All-weaker (λ (v : ℕ). v ≤ sets (oldest n W)) (λ (v : ℕ). v ≤ sets (oldest m W)) (λ v below. omega (arith, below, more)) (option_to_list o) up

pub own_versions : (c : Setting) (plan : PlanData) (W : History) (thread n : ℕ) (ts : List Timed) → AreRight c plan W ts → AreTimed (own_lines thread ts) → last_end (own_lines thread ts) ≤ n
    → All (λ (v : ℕ). v ≤ sets (oldest n W)) (versions (of_thread thread (lines_of (task_lines ts))))
own_versions c plan W thread n [] right timed le = All-nil (λ (v : ℕ). v ≤ sets (oldest n W))
own_versions c plan W thread n (u ∷ ts) right timed le =
    let own : Bool = u.task_line.line.thread == thread in
    version_if (λ (v : ℕ). v ≤ sets (oldest n W)) own n u (own_lines thread ts) (of_thread thread (lines_of (task_lines ts))) right.0.since timed le
    (λ below. up_later (end_of u) n W u.task_line.line.global below (line_version c plan W (task_lines ts) u right.0))
    (λ below. own_versions c plan W thread n ts right.1 (timed_if own u (own_lines thread ts) timed) below)

-- ---- the next place of a thread

abbrev pub IsFrom : ℕ → Option ℕ → Type 0
IsFrom n None = Unit {0}
IsFrom n (Some p) = n ≤ p

first_from : (ps rest : List ℕ) (n moment : ℕ) → StartsAt moment ps → n ≤ moment → IsFrom n (first_of rest) → IsFrom n (first_of (ps ++ rest))
first_from [] rest n moment starts le more = more
first_from (p ∷ ps) rest n moment starts le more = omega (arith, starts, le)

behind_if : (b : Bool) (n : ℕ) (u : Timed) (own : List Timed) (rest : List OutLine) → StartsAt u.moment (places_in u.task_line.line.places) → u.moment ≤ end_of u → AreTimed (cond b (u ∷ own) own) → n ≤ last_end own
    → (n ≤ last_end (cond b (u ∷ own) own) → IsFrom n (first_of (all_places rest))) → IsFrom n (first_of (all_places (cond b (u.task_line.line ∷ rest) rest)))
behind_if true n u own rest starts since timed le more =
    let later = timed.0 in
    first_from (places_in u.task_line.line.places) (all_places rest) n u.moment starts (omega (arith, le, later)) (more (omega (arith, le, later, since)))
behind_if false n u own rest starts since timed le more = more le

pub right_part : (c : Setting) (plan : PlanData) (W : History) (newer ts : List Timed) → AreRight c plan W (newer ++ ts) → AreRight c plan W ts
right_part c plan W [] ts right = right
right_part c plan W (u ∷ newer) ts right = right_part c plan W newer ts right.1

timed_part : (newer ts : List Timed) → AreTimed (newer ++ ts) → AreTimed ts
timed_part [] ts timed = timed
timed_part (u ∷ newer) ts timed = timed_part newer ts timed.1

pub own_part : (thread : ℕ) (newer ts : List Timed) → AreTimed (own_lines thread (newer ++ ts)) → AreTimed (own_lines thread ts)
own_part thread newer ts timed =
    timed_part (own_lines thread newer) (own_lines thread ts) (subst AreTimed (filter-append (λ (t : Timed). t.task_line.line.thread == thread) newer ts) timed)

-- a list with its first element before what stands reversed
pub back_one : (u : Timed) (after older : List Timed) → reverse (u ∷ after) ++ older ≡ reverse after ++ u ∷ older
back_one u after older = ap (λ (ts : List Timed). ts ++ older) (reverse-append (u ∷ []) after) ∙ append_assoc (reverse after) (u ∷ []) older

-- the first place of a thread's lines behind older ones is not before the end of those
pub place_from : (c : Setting) (plan : PlanData) (W : History) (thread n : ℕ) (older after : List Timed) → AreRight c plan W (reverse after ++ older) → AreTimed (own_lines thread (reverse after ++ older))
    → n ≤ last_end (own_lines thread older) → IsFrom n (first_of (all_places (of_thread thread (lines_of (task_lines after)))))
place_from c plan W thread n older [] right timed le = tt
place_from c plan W thread n older (u ∷ after) right timed le =
    let split : reverse (u ∷ after) ++ older ≡ reverse after ++ u ∷ older = back_one u after older in
    let right' : AreRight c plan W (reverse after ++ u ∷ older) = subst (AreRight c plan W) split right in
    let timed' : AreTimed (own_lines thread (reverse after ++ u ∷ older)) = subst (λ (ts : List Timed). AreTimed (own_lines thread ts)) split timed in
    let here : IsRight c plan W (task_lines older) u = (right_part c plan W (reverse after) (u ∷ older) right').0 in
    behind_if (u.task_line.line.thread == thread) n u (own_lines thread older) (of_thread thread (lines_of (task_lines after))) (line_starts c plan W (task_lines older) u here) here.since
    (own_part thread (reverse after) (u ∷ older) timed') le
    (λ further. place_from c plan W thread n (u ∷ older) after right' timed' further)

-- ---- rounds

-- the rounds up to one are among those before a later one
fewer_if : (a b : Bool) (u : Timed) (xs ys : List Timed) → (a ≡ true → b ≡ true) → length (placed_back xs) ≤ length (placed_back ys) → length (placed_back (cond a (u ∷ xs) xs)) ≤ length (placed_back (cond b (u ∷ ys) ys))
fewer_if true true u xs ys so le =
    let here : List ℕ = reverse (places_in u.task_line.line.places) in
    let fewer = length-append here (placed_back xs) in
    let more = length-append here (placed_back ys) in
    omega (arith, fewer, more, le)
fewer_if true false u xs ys so le = absurd (cc (so refl))
fewer_if false true u xs ys so le =
    let more = length-append (reverse (places_in u.task_line.line.places)) (placed_back ys) in
    omega (arith, more, le)
fewer_if false false u xs ys so le = le

rounds_up : (a b : ℕ) → a < b → (ts : List Timed) → length (placed_back (in_rounds_to a ts)) ≤ length (placed_back (in_rounds_before b ts))
rounds_up a b lt [] = omega arith
rounds_up a b lt (u ∷ ts) =
    let r : ℕ = u.task_line.line.round in
    fewer_if (nat_le r a) (nat_lt r b) u (in_rounds_to a ts) (in_rounds_before b ts) (λ is. let le : r ≤ a = leb-true r a is in lt-ltb r b (omega (arith, le, lt))) (rounds_up a b lt ts)

-- a line of an earlier round has ended before a later one begins
pub ended_before : (ts : List Timed) (t u : Timed) → IsInRound ts t → IsInRound ts u → u.task_line.line.round < t.task_line.line.round → end_of u ≤ t.moment
ended_before ts t u here there lt =
    let until = there.until in
    let since = here.since in
    let up = rounds_up u.task_line.line.round t.task_line.line.round lt ts in
    omega (arith, until, since, up)

-- ---- the bounds of a line's version

kept_if : (small : ℕ → Type 0) (b : Bool) (l : OutLine) (ks : List OutLine) → (b ≡ true → All small (option_to_list l.global)) → All small (versions ks) → All small (versions (cond b (l ∷ ks) ks))
kept_if small true l ks here more = All-append small (option_to_list l.global) (versions ks) (here refl) more
kept_if small false l ks here more = more

kept_versions : (small : ℕ → Type 0) (keep : OutLine → Bool) (ls : List OutLine) → All (λ (l : OutLine). keep l ≡ true → All small (option_to_list l.global)) ls → All small (versions (filter keep ls))
kept_versions small keep [] h = All-nil small
kept_versions small keep (l ∷ ls) h =
    let P : OutLine → Type 0 = λ (k : OutLine). keep k ≡ true → All small (option_to_list k.global) in
    kept_if small (keep l) l (filter keep ls) (All-head P l ls h) (kept_versions small keep ls (All-tail P l ls h))

-- the lines of earlier rounds print no version above that of a line's moment
earlier_lines : (c : Setting) (plan : PlanData) (W : History) (all : List Timed) (t : Timed) → IsInRound all t → (ts : List Timed) → AreRight c plan W ts → All (IsInRound all) ts
    → All (λ (u : Timed). nat_lt u.task_line.line.round t.task_line.line.round ≡ true → UpTo (sets (oldest t.moment W)) u.task_line.line.global) ts
earlier_lines c plan W all t here [] right rounds = All-nil (λ (u : Timed). nat_lt u.task_line.line.round t.task_line.line.round ≡ true → UpTo (sets (oldest t.moment W)) u.task_line.line.global)
earlier_lines c plan W all t here (u ∷ ts) right rounds =
    All-cons (λ (d : Timed). nat_lt d.task_line.line.round t.task_line.line.round ≡ true → UpTo (sets (oldest t.moment W)) d.task_line.line.global) u ts
    (λ is. up_later (end_of u) t.moment W u.task_line.line.global
    (ended_before all t u here (All-head (IsInRound all) u ts rounds) (ltb-true u.task_line.line.round t.task_line.line.round is)) (line_version c plan W (task_lines ts) u right.0))
    (earlier_lines c plan W all t here ts right.1 (All-tail (IsInRound all) u ts rounds))

next_to : (x : Around) (W : History) (n : ℕ) (o : Option ℕ) → ((k : ℕ) → past x k ≡ oldest k W) → IsFrom n o → IsUpToPlace x (sets (oldest n W)) o
next_to x W n None pasts from = tt
next_to x W n (Some p) pasts from = subst (λ (G : History). sets (oldest n W) ≤ sets G) (sym (pasts p)) (sets_within n p W from)

-- lines of which some stand behind this one and others before it
pub record StandsAmong (ts older : List Timed) (t : Timed) (after : List Timed) : Type 0 where
  pub split : ts ≡ reverse after ++ t ∷ older

module _ (c : Setting) (plan : PlanData) (W : History) (ts : List Timed) (w : IsWhole c plan W ts) (calls : List PlacedCall) (pasts : (n : ℕ) → history_below c calls n ≡ oldest n W) (V : CatalogHistory) where
  abbrev pub around_it : List Timed → List Timed → Around
  around_it older after = around c plan (reverse (lines_in ts)) V calls (task_lines older) (task_lines after)

  -- of a line's own thread
  pub own_timed : (older after : List Timed) (t : Timed) → StandsAmong ts older t after → AreTimed (t ∷ own_lines t.task_line.line.thread older)
  own_timed older after t among =
      let thread : ℕ = t.task_line.line.thread in
      let all : AreTimed (own_lines thread (reverse after ++ t ∷ older)) = subst (λ (us : List Timed). AreTimed (own_lines thread us)) among.split (w.timed thread) in
      subst AreTimed (ap (λ (b : Bool). cond b (t ∷ own_lines thread older) (own_lines thread older)) (eq-eqb thread thread refl)) (own_part thread (reverse after) (t ∷ older) all)

  pub right_here : (older after : List Timed) (t : Timed) → StandsAmong ts older t after → AreRight c plan W (t ∷ older)
  right_here older after t among = right_part c plan W (reverse after) (t ∷ older) (subst (AreRight c plan W) among.split w.right)

  in_round : (older after : List Timed) (t : Timed) → StandsAmong ts older t after → IsInRound ts t
  in_round older after t among = All-head (IsInRound ts) t older (all_right (IsInRound ts) (reverse after) (t ∷ older) (subst (All (IsInRound ts)) among.split w.rounds))

  -- the past of so many places of lines that are kept
  abbrev so_far : (OutLine → Bool) → ℕ
  so_far keep = length (all_places (filter keep (reverse (lines_in ts))))

  as_many : (keep : OutLine → Bool) → so_far keep ≡ length (placed_back (filter (λ (t : Timed). keep t.task_line.line) ts))
  as_many keep = let kept : List ℕ = placed_back (filter (λ (t : Timed). keep t.task_line.line) ts) in ap length (kept_places keep ts) ∙ length-reverse kept

  past_below : (keep : OutLine → Bool) (n : ℕ) → length (placed_back (filter (λ (t : Timed). keep t.task_line.line) ts)) ≤ n → sets (history_below c calls (so_far keep)) ≤ sets (oldest n W)
  past_below keep n le = subst (λ (G : History). sets G ≤ sets (oldest n W)) (sym (pasts (so_far keep))) (sets_within (so_far keep) n W (subst (λ (k : ℕ). k ≤ n) (sym (as_many keep)) le))

  past_above : (keep : OutLine → Bool) (n : ℕ) → n ≤ length (placed_back (filter (λ (t : Timed). keep t.task_line.line) ts)) → sets (oldest n W) ≤ sets (history_below c calls (so_far keep))
  past_above keep n le = subst (λ (G : History). sets (oldest n W) ≤ sets G) (sym (pasts (so_far keep))) (sets_within n (so_far keep) W (subst (λ (k : ℕ). n ≤ k) (sym (as_many keep)) le))

  next_is : (older after : List Timed) (t : Timed) → StandsAmong ts older t after
      → IsUpToPlace (around_it older after) (sets (oldest t.moment W)) (place_behind (around_it older after) t.task_line.line.thread)
  next_is older after t among =
      let thread : ℕ = t.task_line.line.thread in
      let right : AreRight c plan W (reverse after ++ t ∷ older) = subst (AreRight c plan W) among.split w.right in
      let timed : AreTimed (own_lines thread (reverse after ++ t ∷ older)) = subst (λ (us : List Timed). AreTimed (own_lines thread us)) among.split (w.timed thread) in
      let mine : own_lines thread (t ∷ older) ≡ t ∷ own_lines thread older = ap (λ (b : Bool). cond b (t ∷ own_lines thread older) (own_lines thread older)) (eq-eqb thread thread refl) in
      let end : t.moment ≤ last_end (own_lines thread (t ∷ older)) = subst (λ (us : List Timed). t.moment ≤ last_end us) (sym mine) (right_here older after t among).0.since in
      next_to (around_it older after) W t.moment (first_of (all_places (of_thread thread (lines_of (task_lines after))))) pasts
      (place_from c plan W thread t.moment (t ∷ older) after right timed end)

  pub version_is : (older after : List Timed) (t : Timed) → StandsAmong ts older t after → IsVersion (around_it older after) (caller_of t.task_line.line) (sets (oldest t.moment W))
  version_is older after t among =
      let thread : ℕ = t.task_line.line.thread in
      let round : ℕ = t.task_line.line.round in
      let v : ℕ = sets (oldest t.moment W) in
      let own : AreTimed (t ∷ own_lines thread older) = own_timed older after t among in
      let right : AreRight c plan W (t ∷ older) = right_here older after t among in
      let this : IsInRound ts t = in_round older after t among in
      let place : ℕ = next_place thread (task_lines older) in
      let up = next_up thread older (all_since c plan W older right.1) own.1 in
      let later = own.0 in
      let since = right.0.since in
      let until = this.until in
      let Small : OutLine → Type 0 = λ (l : OutLine). nat_lt l.round round ≡ true → UpTo v l.global in
      record {
        seen = subst (λ (G : History). sets G ≤ v) (sym (pasts place)) (sets_within place t.moment W (omega (arith, up, later)));
        rounds = past_below (λ (l : OutLine). nat_lt l.round round) t.moment this.since;
        next = next_is older after t among;
        round = past_above (λ (l : OutLine). nat_le l.round round) t.moment (omega (arith, since, until));
        printed = own_versions c plan W thread t.moment older right.1 own.1 own.0;
        printed_earlier = kept_versions (λ (n : ℕ). n ≤ v) (λ (l : OutLine). nat_lt l.round round) (reverse (lines_in ts))
            (all_reversed Small (lines_in ts) (All-map Small (λ (u : Timed). u.task_line.line) ts (earlier_lines c plan W ts t this ts w.right w.rounds)));
      }
