-- The history of the calls of lines, each at its place, is the one that the lines are right for.
use Rattle.std.proofs.Common.{◌≡◌, ℕ, zero, suc, ◌+◌, ◌≤◌, Bool, true, false, cond, List, [], ◌∷◌, ◌++◌, length, map, reverse, find, Option, Some, None, Result, Ok, Err, refl, sym, ap, subst, ◌∙◌, arith, inl, inr, add-one, append-nil, length-append}
use Rattle.std.specs.Prelude.{◌==◌, All}
use Rattle.std.proofs.lemmas.Bool.{cases_lt, eqb-true}
use Rattle.std.proofs.lemmas.List.{length-map, length-reverse, reverse-reverse}
use Rattle.std.proofs.lemmas.List.Elements.{All-nil, All-cons, All-head, All-tail, All-append, All-map, All-filter}
use Rattle.mask_compose.specs.Parts.{Parts}
use Rattle.category_store.specs.LibraryData.{LibraryData}
use Rattle.lc_base.specs.declared.handle.Named.{Named}
use Rattle.handle_table.specs.Entry as table
use Rattle.handle_table.specs.Entry.{History, Setting}
use Rattle.handle_table.specs.History.{sets, global}
use Rattle.handle_table.specs.Answer.{answer, own}
use Rattle.script_commands.specs.declared.command.Read.{Read}
use Rattle.script_out.specs.declared.output.OutLine.{OutLine}
use Rattle.script_out.specs.declared.output.Places.{Places}
use Rattle.script_out.specs.declared.output.Why.{Why}
use Rattle.script_lines.specs.Catalogs.{Books, Asked, book_for, open_line}
use Rattle.script_lines.specs.Board.{Moments, granted_at, reads_between, reads_of, reads, opens}
use Rattle.script_wishes.specs.Holds.{object_held, open_holds, held_as}
use Rattle.script_lines.specs.Lines.{Caller}
use Rattle.script_lines.specs.Outcome.{with_call}
use Rattle.script_wishes.specs.Variables.{bindings_of}
use Rattle.script_wishes.specs.Wishes.{Wish, Calls, ReadsOf, Reads, AsksSelection, AsksName, OpensCatalog, GetsMessage, ClosesCatalog, wish_of}
use Rattle.script_plan.specs.Plan.{PlanData, books_of}
use Rattle.script_plan.specs.Prints.{TaskLine, bound_by, places_in, PlacedCall, calls_of, calls_after, with_placed, history_below, caller_of}
use Rattle.script_plan.proofs.LineLists.{all_left, all_right}
use Rattle.script_plan.proofs.GoingOn.{is_at, wished_calls}
use Rattle.script_plan.proofs.PlacedCalls.{place_of}
use Rattle.script_run.specs.Timed.{oldest, Timed, task_lines, placed_back, own_lines, moments_in, IsEntryOf, IsRight, AreRight, IsWhole}
use Rattle.script_run.proofs.Before.{oldest_none, missing}
use Rattle.script_run.proofs.Counted.{whole_length, all_reversed}
use Rattle.script_run.proofs.Growth.{oldest_whole}
use Rattle.script_run.proofs.Versions.{right_part, back_one}

-- ---- the calls of a line have its places

abbrev KeepsPlaces : ℕ → Result Wish Why → Places → Type 0
KeepsPlaces thread w at = map place_of (wished_calls thread (places_in at) w) ≡ places_in at

between_kept : (c : Setting) (library : LibraryData) (m : Moments) (at : Caller) (n : Named) (read : Read) (object : Option Parts) → KeepsPlaces at.thread (Ok (ReadsOf n read)) (reads_between c library m at n read object).line.places
between_kept c library m at n read None = refl
between_kept c library m at n read (Some object) = refl

of_kept : (c : Setting) (library : LibraryData) (m : Moments) (at : Caller) (n : Named) (read : Read) (object : Option Parts) → KeepsPlaces at.thread (Ok (ReadsOf n read)) (reads_of c library m at n read object).line.places
of_kept c library m at n read (Some object) = refl
of_kept c library m at n read None = between_kept c library m at n read (object_held (answer c m.first at.thread (table.Hold n)))

read_kept : (c : Setting) (library : LibraryData) (m : Moments) (at : Caller) (read : Read) (object : Option Parts) → KeepsPlaces at.thread (Ok (Reads read)) (reads c library m at read object).line.places
read_kept c library m at read (Some object) = refl
read_kept c library m at read None = refl

open_kept : (at : Caller) (name : List ℕ) (version : Option ℕ) (asked : Asked) (n : Option ℕ) → KeepsPlaces at.thread (Ok (OpensCatalog name)) (open_line at version asked n).places
open_kept at name version asked None = refl
open_kept at name version asked (Some n) = refl

opens_kept : (c : Setting) (library : LibraryData) (books : Books) (m : Moments) (at : Caller) (name : List ℕ) (object : Option Parts) → KeepsPlaces at.thread (Ok (OpensCatalog name)) (opens c library books m at name object).line.places
opens_kept c library books m at name (Some object) = open_kept at name None m.asked (book_for library books object name)
opens_kept c library books m at name None = open_kept at name (Some (sets m.first)) m.asked (book_for library books (global c m.first) name)

granted_kept : (c : Setting) (library : LibraryData) (books : Books) (m : Moments) (at : Caller) (w : Result Wish Why) → KeepsPlaces at.thread w (granted_at c library books m at w).line.places
granted_kept c library books m at (Err why) = refl
granted_kept c library books m at (Ok (Calls categories op)) = refl
granted_kept c library books m at (Ok (ReadsOf n read)) = of_kept c library m at n read (held_as (open_holds m.seen at.thread) n)
granted_kept c library books m at (Ok (Reads read)) = read_kept c library m at read (own m.seen at.thread)
granted_kept c library books m at (Ok AsksSelection) = refl
granted_kept c library books m at (Ok (AsksName categories)) = refl
granted_kept c library books m at (Ok (OpensCatalog name)) = opens_kept c library books m at name (own m.seen at.thread)
granted_kept c library books m at (Ok (GetsMessage h set message default)) = refl
granted_kept c library books m at (Ok (ClosesCatalog h)) = refl

line_kept : (c : Setting) (plan : PlanData) (W : History) (before : List TaskLine) (u : Timed) → IsRight c plan W before u → map place_of (calls_of plan.library (bound_by before) u.task_line) ≡ places_in u.task_line.line.places
line_kept c plan W before u right =
    let thread : ℕ = u.task_line.line.thread in
    let w : Result Wish Why = wish_of plan.library (bindings_of thread (bound_by before)) u.task_line.task in
    subst (λ (l : OutLine). KeepsPlaces thread w l.places) (sym right.line) (granted_kept c plan.library (books_of plan) (moments_in W before u) (caller_of u.task_line.line) w)

-- ---- the calls of lines, of which the newest stand behind

abbrev pub calls_back : PlanData → List Timed → List PlacedCall
calls_back plan ts = calls_after plan.library [] (task_lines (reverse ts))

abbrev calls_behind : PlanData → List Timed → List Timed → List PlacedCall
calls_behind plan older after = calls_after plan.library (task_lines older) (task_lines after)

-- the line behind older ones, where all are right
right_line : (c : Setting) (plan : PlanData) (W : History) (u : Timed) (older after : List Timed) → AreRight c plan W (reverse after ++ u ∷ older) → IsRight c plan W (task_lines older) u
right_line c plan W u older after right = (right_part c plan W (reverse after) (u ∷ older) right).0

right_next : (c : Setting) (plan : PlanData) (W : History) (u : Timed) (older after : List Timed) → AreRight c plan W (reverse (u ∷ after) ++ older) → AreRight c plan W (reverse after ++ u ∷ older)
right_next c plan W u older after right = subst (AreRight c plan W) (back_one u after older) right

-- each is an entry
all_entries : (c : Setting) (plan : PlanData) (W : History) (older after : List Timed) → AreRight c plan W (reverse after ++ older) → All (IsEntryOf c W) (calls_behind plan older after)
all_entries c plan W older [] right = All-nil (IsEntryOf c W)
all_entries c plan W older (u ∷ after) right =
    let right' : AreRight c plan W (reverse after ++ u ∷ older) = right_next c plan W u older after right in
    All-append (IsEntryOf c W) (calls_of plan.library (bound_by (task_lines older)) u.task_line) (calls_behind plan (u ∷ older) after)
    (right_line c plan W u older after right').entries (all_entries c plan W (u ∷ older) after right')

-- there are as many as places
as_many : (c : Setting) (plan : PlanData) (W : History) (older after : List Timed) → AreRight c plan W (reverse after ++ older)
    → length (calls_behind plan older after) + length (placed_back older) ≡ length (placed_back (reverse after ++ older))
as_many c plan W older [] right = omega arith
as_many c plan W older (u ∷ after) right =
    let right' : AreRight c plan W (reverse after ++ u ∷ older) = right_next c plan W u older after right in
    let here : List PlacedCall = calls_of plan.library (bound_by (task_lines older)) u.task_line in
    let places : List ℕ = places_in u.task_line.line.places in
    let rest : List PlacedCall = calls_behind plan (u ∷ older) after in
    let sum = length-append here rest in
    let kept : length (map place_of here) ≡ length places = ap length (line_kept c plan W (task_lines older) u (right_line c plan W u older after right')) in
    let mapped : length (map place_of here) ≡ length here = length-map here place_of in
    let back : length (reverse places) ≡ length places = length-reverse places in
    let more = length-append (reverse places) (placed_back older) in
    let further = as_many c plan W (u ∷ older) after right' in
    let split : length (placed_back (reverse (u ∷ after) ++ older)) ≡ length (placed_back (reverse after ++ u ∷ older)) = ap (λ (us : List Timed). length (placed_back us)) (back_one u after older) in
    omega (arith, sum, kept, mapped, back, more, further, split)

-- a place at which no call stands is none of the lines
abbrev IsOther : ℕ → ℕ → Type 0
IsOther p q = (q == p) ≡ false

abbrev IsElsewhere : ℕ → Timed → Type 0
IsElsewhere p u = All (IsOther p) (places_in u.task_line.line.places)

all_elsewhere : (c : Setting) (plan : PlanData) (W : History) (p : ℕ) (older after : List Timed) → AreRight c plan W (reverse after ++ older) → All (λ (k : PlacedCall). is_at p k ≡ false) (calls_behind plan older after)
    → All (IsElsewhere p) after
all_elsewhere c plan W p older [] right none = All-nil (IsElsewhere p)
all_elsewhere c plan W p older (u ∷ after) right none =
    let Not : PlacedCall → Type 0 = λ (k : PlacedCall). is_at p k ≡ false in
    let right' : AreRight c plan W (reverse after ++ u ∷ older) = right_next c plan W u older after right in
    let here : List PlacedCall = calls_of plan.library (bound_by (task_lines older)) u.task_line in
    let rest : List PlacedCall = calls_behind plan (u ∷ older) after in
    All-cons (IsElsewhere p) u after
    (subst (All (IsOther p)) (line_kept c plan W (task_lines older) u (right_line c plan W u older after right')) (All-map (IsOther p) place_of here (all_left Not here rest none)))
    (all_elsewhere c plan W p (u ∷ older) after right' (all_right Not here rest none))

places_elsewhere : (p : ℕ) (ts : List Timed) → All (IsElsewhere p) ts → All (IsOther p) (placed_back ts)
places_elsewhere p [] h = All-nil (IsOther p)
places_elsewhere p (u ∷ ts) h =
    let places : List ℕ = places_in u.task_line.line.places in
    All-append (IsOther p) (reverse places) (placed_back ts) (all_reversed (IsOther p) places (All-head (IsElsewhere p) u ts h)) (places_elsewhere p ts (All-tail (IsElsewhere p) u ts h))

-- ---- what is found among calls

abbrev Finds : (PlacedCall → Type 0) → (PlacedCall → Bool) → List PlacedCall → Option PlacedCall → Type 0
Finds P q calls None = All (λ (k : PlacedCall). q k ≡ false) calls
Finds P q calls (Some call) = P call × (q call ≡ true)

find_if : (P : PlacedCall → Type 0) (q : PlacedCall → Bool) (k : PlacedCall) (calls : List PlacedCall) (b : Bool) → q k ≡ b → P k → (o : Option PlacedCall) → Finds P q calls o → Finds P q (k ∷ calls) (cond b (Some k) o)
find_if P q k calls true is here o rest = (here, is)
find_if P q k calls false is here None rest = All-cons (λ (j : PlacedCall). q j ≡ false) k calls is rest
find_if P q k calls false is here (Some call) rest = rest

finds : (P : PlacedCall → Type 0) (q : PlacedCall → Bool) (calls : List PlacedCall) → All P calls → Finds P q calls (find q calls)
finds P q [] h = All-nil (λ (k : PlacedCall). q k ≡ false)
finds P q (k ∷ calls) h = find_if P q k calls (q k) refl (All-head P k calls h) (find q calls) (finds P q calls (All-tail P k calls h))

one_past : (c : Setting) (W : History) (p : ℕ) (calls : List PlacedCall) (o : Option PlacedCall) → Finds (IsEntryOf c W) (is_at p) calls o → (All (λ (k : PlacedCall). is_at p k ≡ false) calls → length W ≤ p)
    → with_placed c (oldest p W) o ≡ oldest (suc p) W
one_past c W p calls None none short = let le = short none in oldest_whole p W le ∙ sym (oldest_whole (suc p) W (omega (arith, le)))
one_past c W p calls (Some call) found short =
    let entry = found.0 in
    let same : call.place ≡ p = eqb-true call.place p found.1 in
    ap (λ (n : ℕ). with_call c (oldest n W) call.thread call.op) (sym same) ∙ sym entry.entry ∙ ap (λ (n : ℕ). oldest (n + 1) W) same ∙ ap (λ (n : ℕ). oldest n W) (add-one p)

-- ---- all of it

module _ (c : Setting) (plan : PlanData) (W : History) (ts : List Timed) (w : IsWhole c plan W ts) where
  pub right_back : AreRight c plan W (reverse (reverse ts) ++ [])
  right_back = subst (AreRight c plan W) (sym (append-nil (reverse (reverse ts)) ∙ reverse-reverse ts)) w.right

  short : (p : ℕ) → All (λ (k : PlacedCall). is_at p k ≡ false) (calls_back plan ts) → length W ≤ p
  short p none =
      let every : All (IsElsewhere p) ts =
      subst (All (IsElsewhere p)) (reverse-reverse ts) (all_reversed (IsElsewhere p) (reverse ts) (all_elsewhere c plan W p [] (reverse ts) right_back none))
      in
      elim (cases_lt p (length W)) [
        | inl lt ↦
            absurd (missing c.threads p W w.callers lt (λ (t : ℕ) within.
            subst (All (IsOther p)) (sym (w.places t within)) (places_elsewhere p (own_lines t ts) (All-filter (λ (u : Timed). u.task_line.line.thread == t) (IsElsewhere p) ts every))))
        | inr ge ↦ ge
      ]

  -- before each place stands what the history has there
  pub pasts_are : (p : ℕ) → history_below c (calls_back plan ts) p ≡ oldest p W
  pasts_are zero = sym (oldest_none W)
  pasts_are (suc p) =
      let calls : List PlacedCall = calls_back plan ts in
      ap (λ (G : History). with_placed c G (find (is_at p) calls)) (pasts_are p)
      ∙ one_past c W p calls (find (is_at p) calls) (finds (IsEntryOf c W) (is_at p) calls (all_entries c plan W [] (reverse ts) right_back)) (short p)

  -- all of them make the whole of it
  pub whole_is : history_below c (calls_back plan ts) (length (calls_back plan ts)) ≡ W
  whole_is =
      let calls : List PlacedCall = calls_back plan ts in
      let many : length calls + 0 ≡ length (placed_back (reverse (reverse ts) ++ [])) = as_many c plan W [] (reverse ts) right_back in
      let same : length (placed_back (reverse (reverse ts) ++ [])) ≡ length (placed_back ts) = ap (λ (us : List Timed). length (placed_back us)) (append-nil (reverse (reverse ts)) ∙ reverse-reverse ts) in
      let long : length (placed_back ts) ≡ length W = whole_length c.threads W ts w.callers w.places w.threads in
      pasts_are (length calls) ∙ oldest_whole (length calls) W (omega (arith, many, same, long))
