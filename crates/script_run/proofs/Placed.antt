-- The places of the printed lines: each is there once, and they go up along a thread, from round to round and along the closing lines.
use Rattle.std.proofs.Common.{◌≡◌, ℕ, suc, ◌+◌, ◌<◌, ◌≤◌, Bool, true, false, List, [], ◌∷◌, ◌++◌, length, Option, Some, None, Result, Ok, Err, refl, sym, ap, subst, ◌∙◌, arith, inl, inr, length-append, reverse}
use Rattle.std.specs.Prelude.{◌==◌, nat_lt, nat_le, if◌then◌else◌, filter, flat_map, count_by, All, unwrap_or}
use Rattle.std.specs.List.Sorted.{IsStrictlyIncreasing}
use Rattle.std.proofs.lemmas.List.{append-nil, length-reverse}
use Rattle.std.proofs.lemmas.Bool.{cases_lt, eq-eqb, ne_eqb, le-leb, lt-leb, leb-true}
use Rattle.std.proofs.lemmas.List.Elements.{All-nil, All-cons, All-head, All-tail, All-append, All-weaker, filter-append}
use Rattle.std.proofs.lemmas.List.Sorted.{IsPermutation-reverse, sum_by-IsPermutation}
use Rattle.mask_compose.specs.Parts.{Parts}
use Rattle.category_store.specs.LibraryData.{LibraryData}
use Rattle.lc_base.specs.declared.handle.Named.{Named}
use Rattle.handle_table.specs.Entry as table
use Rattle.handle_table.specs.Entry.{History, Setting}
use Rattle.handle_table.specs.History.{sets, global}
use Rattle.handle_table.specs.Answer.{answer, own}
use Rattle.script_commands.specs.declared.command.Read.{Read}
use Rattle.script_out.specs.declared.output.OutLine.{OutLine}
use Rattle.script_out.specs.declared.output.Places.{Places}
use Rattle.script_out.specs.declared.output.Places.TheVariants as places
use Rattle.script_out.specs.declared.output.Why.{Why}
use Rattle.script_lines.specs.Catalogs.{Books, Asked, book_for, open_line}
use Rattle.script_lines.specs.Board.{Moments, reads_between, reads_of, reads, opens, granted_at}
use Rattle.script_wishes.specs.Holds.{object_held, open_holds, held_as}
use Rattle.script_lines.specs.Lines.{Caller}
use Rattle.script_wishes.specs.Variables.{bindings_of}
use Rattle.script_wishes.specs.Wishes.{Wish, Calls, ReadsOf, Reads, AsksSelection, AsksName, OpensCatalog, GetsMessage, ClosesCatalog, wish_of}
use Rattle.script_plan.specs.Plan.{PlanData, books_of}
use Rattle.script_plan.specs.Prints.{TaskLine, bound_by, places_in, all_places, before_round, from_round, behind_last, caller_of, ArePlaced}
use Rattle.script_plan.proofs.LineLists.{GoUp, increasing, bit_of, filter_all, filter_none}
use Rattle.script_run.specs.Timed.{oldest, Timed, end_of, last_end, AreTimed, lines_in, task_lines, placed_back, own_lines, moments_in, IsRight, AreRight, in_rounds_before, in_rounds_to, IsInRound, IsWhole}
use Rattle.script_run.proofs.Growth.{oldest_length}
use Rattle.script_run.proofs.Counted.{whole_length, once as stands_once, GoDown, down_left, down_right, down_join, down_up, all_reversed, places_down, kept_places, reversed_places}

-- ---- the first call of a line stands at its moment

abbrev pub StartsAt : ℕ → List ℕ → Type 0
StartsAt n [] = Unit {0}
StartsAt n (place ∷ more) = place ≡ n

between_starts : (c : Setting) (library : LibraryData) (m : Moments) (at : Caller) (n : Named) (read : Read) (object : Option Parts) → StartsAt (length m.first) (places_in (reads_between c library m at n read object).line.places)
between_starts c library m at n read None = refl
between_starts c library m at n read (Some object) = refl

of_starts : (c : Setting) (library : LibraryData) (m : Moments) (at : Caller) (n : Named) (read : Read) (held : Option Parts) → StartsAt (length m.first) (places_in (reads_of c library m at n read held).line.places)
of_starts c library m at n read (Some object) = tt
of_starts c library m at n read None = between_starts c library m at n read (object_held (answer c m.first at.thread (table.Hold n)))

read_starts : (c : Setting) (library : LibraryData) (m : Moments) (at : Caller) (read : Read) (object : Option Parts) → StartsAt (length m.first) (places_in (reads c library m at read object).line.places)
read_starts c library m at read (Some object) = tt
read_starts c library m at read None = tt

-- a line of the catalogs makes no entry in the history of the table
open_starts : (n : ℕ) (at : Caller) (version : Option ℕ) (asked : Asked) (k : Option ℕ) → StartsAt n (places_in (open_line at version asked k).places)
open_starts n at version asked None = tt
open_starts n at version asked (Some k) = tt

opens_starts : (c : Setting) (library : LibraryData) (books : Books) (m : Moments) (at : Caller) (name : List ℕ) (object : Option Parts) → StartsAt (length m.first) (places_in (opens c library books m at name object).line.places)
opens_starts c library books m at name (Some object) = open_starts (length m.first) at None m.asked (book_for library books object name)
opens_starts c library books m at name None = open_starts (length m.first) at (Some (sets m.first)) m.asked (book_for library books (global c m.first) name)

granted_starts : (c : Setting) (library : LibraryData) (books : Books) (m : Moments) (at : Caller) (w : Result Wish Why) → StartsAt (length m.first) (places_in (granted_at c library books m at w).line.places)
granted_starts c library books m at (Err why) = tt
granted_starts c library books m at (Ok (Calls categories op)) = refl
granted_starts c library books m at (Ok (ReadsOf n read)) = of_starts c library m at n read (held_as (open_holds m.seen at.thread) n)
granted_starts c library books m at (Ok (Reads read)) = read_starts c library m at read (own m.seen at.thread)
granted_starts c library books m at (Ok AsksSelection) = tt
granted_starts c library books m at (Ok (AsksName categories)) = tt
granted_starts c library books m at (Ok (OpensCatalog name)) = opens_starts c library books m at name (own m.seen at.thread)
granted_starts c library books m at (Ok (GetsMessage h set message default)) = tt
granted_starts c library books m at (Ok (ClosesCatalog h)) = tt

pub line_starts : (c : Setting) (plan : PlanData) (W : History) (before : List TaskLine) (t : Timed) → IsRight c plan W before t → StartsAt t.moment (places_in t.task_line.line.places)
line_starts c plan W before t r =
    let m : Moments = moments_in W before t in
    let at : Caller = caller_of t.task_line.line in
    let w : Result Wish Why = wish_of plan.library (bindings_of t.task_line.line.thread (bound_by before)) t.task_line.task in
    let since : t.moment ≤ end_of t = r.since in
    let within : end_of t ≤ length W = r.within in
    let long : length (oldest t.moment W) ≡ t.moment = oldest_length t.moment W (omega (arith, since, within)) in
    subst (λ (n : ℕ). StartsAt n (places_in t.task_line.line.places)) long
    (subst (λ (l : OutLine). StartsAt (length m.first) (places_in l.places)) (sym r.line) (granted_starts c plan.library (books_of plan) m at w))

-- ---- the places of a line stand between its moment and its end

-- from one number on, and below another
pub record IsBetween (moment end p : ℕ) : Type 0 where
  pub since : moment ≤ p
  pub until : p < end

abbrev pub AreBetween : ℕ → ℕ → List ℕ → Type 0
AreBetween moment end ps = All (IsBetween moment end) ps

places_between : (at : Places) (moment stamp : ℕ) → StartsAt moment (places_in at) → GoDown (reverse (places_in at)) → AreBetween moment (unwrap_or (behind_last (places_in at)) stamp) (reverse (places_in at))
places_between places.None moment stamp starts down = All-nil (IsBetween moment stamp)
places_between (places.Catalog place) moment stamp starts down = All-nil (IsBetween moment stamp)
places_between (places.One place) moment stamp starts down =
    All-cons (IsBetween moment (place + 1)) place [] (record { since = omega (arith, starts); until = omega arith }) (All-nil (IsBetween moment (place + 1)))
places_between (places.Two hold release) moment stamp starts down =
    let up : hold < release = All-head (λ (y : ℕ). y < release) hold [] down.0 in
    All-cons (IsBetween moment (release + 1)) release (hold ∷ []) (record { since = omega (arith, starts, up); until = omega arith })
    (All-cons (IsBetween moment (release + 1)) hold [] (record { since = omega (arith, starts); until = omega (arith, up) }) (All-nil (IsBetween moment (release + 1))))

-- what is known of a line among right lines
pub record Spans (t : Timed) : Type 0 where
  pub since : t.moment ≤ end_of t
  pub between : AreBetween t.moment (end_of t) (reverse (places_in t.task_line.line.places))
  pub down : GoDown (reverse (places_in t.task_line.line.places))

-- the places of each thread go down
abbrev pub EachGoesDown : List Timed → Type 0
EachGoesDown ts = (thread : ℕ) → GoDown (placed_back (own_lines thread ts))

rest_down : (t : Timed) (ours : List Timed) (b : Bool) → GoDown (placed_back (if b then t ∷ ours else ours)) → GoDown (placed_back ours)
rest_down t ours true down = down_right (reverse (places_in t.task_line.line.places)) (placed_back ours) down
rest_down t ours false down = down

pub all_span : (c : Setting) (plan : PlanData) (W : History) (ts : List Timed) → AreRight c plan W ts → EachGoesDown ts → All Spans ts
all_span c plan W [] right down = All-nil Spans
all_span c plan W (t ∷ ts) right down =
    let who : ℕ = t.task_line.line.thread in
    let ours : List Timed = own_lines who ts in
    let ps : List ℕ = places_in t.task_line.line.places in
    let here : GoDown (reverse ps) = down_left (reverse ps) (placed_back ours) (subst (λ (b : Bool). GoDown (placed_back (if b then t ∷ ours else ours))) (eq-eqb who who refl) (down who)) in
    All-cons Spans t ts
    (record { since = right.0.since; between = places_between t.task_line.line.places t.moment t.stamp (line_starts c plan W (task_lines ts) t right.0) here; down = here })
    (all_span c plan W ts right.1 (λ thread. rest_down t (own_lines thread ts) (t.task_line.line.thread == thread) (down thread)))

-- the places of those that span, where each line has them in a range
places_of_all : (P : ℕ → Type 0) (ts : List Timed) → All (λ (t : Timed). All P (reverse (places_in t.task_line.line.places))) ts → All P (placed_back ts)
places_of_all P [] all = All-nil P
places_of_all P (t ∷ ts) all =
    let Each : Timed → Type 0 = λ (x : Timed). All P (reverse (places_in x.task_line.line.places)) in
    All-append P (reverse (places_in t.task_line.line.places)) (placed_back ts) (All-head Each t ts all) (places_of_all P ts (All-tail Each t ts all))

-- ---- lines whose moments do not go back

timed_below : (ts : List Timed) → AreTimed ts → All Spans ts → All (λ (p : ℕ). p < last_end ts) (placed_back ts)
timed_below [] timed span = All-nil (λ (p : ℕ). p < 0)
timed_below (t ∷ ts) timed span =
    let here : Spans t = All-head Spans t ts span in
    let since : t.moment ≤ end_of t = here.since in
    let earlier : last_end ts ≤ t.moment = timed.0 in
    All-append (λ (p : ℕ). p < end_of t) (reverse (places_in t.task_line.line.places)) (placed_back ts)
    (All-weaker (IsBetween t.moment (end_of t)) (λ (p : ℕ). p < end_of t) (λ p is. is.until) (reverse (places_in t.task_line.line.places)) here.between)
    (All-weaker (λ (p : ℕ). p < last_end ts) (λ (p : ℕ). p < end_of t) (λ p lt. omega (arith, lt, earlier, since)) (placed_back ts) (timed_below ts timed.1 (All-tail Spans t ts span)))

pub timed_down : (ts : List Timed) → AreTimed ts → All Spans ts → GoDown (placed_back ts)
timed_down [] timed span = tt
timed_down (t ∷ ts) timed span =
    let here : Spans t = All-head Spans t ts span in
    let more : All Spans ts = All-tail Spans t ts span in
    let earlier : last_end ts ≤ t.moment = timed.0 in
    let below : All (λ (p : ℕ). p < last_end ts) (placed_back ts) = timed_below ts timed.1 more in
    let above : (q : ℕ) → IsBetween t.moment (end_of t) q → All (λ (p : ℕ). p < q) (placed_back ts) = λ q is.
    let since : t.moment ≤ q = is.since in
    All-weaker (λ (p : ℕ). p < last_end ts) (λ (p : ℕ). p < q) (λ p lt. omega (arith, lt, earlier, since)) (placed_back ts) below
    in
    down_join (reverse (places_in t.task_line.line.places)) (placed_back ts) here.down (timed_down ts timed.1 more)
    (All-weaker (IsBetween t.moment (end_of t)) (λ (q : ℕ). All (λ (p : ℕ). p < q) (placed_back ts)) above (reverse (places_in t.task_line.line.places)) here.between)

-- ---- the rounds

abbrev pub Implies : {X : Type 0} → (X → Bool) → (X → Bool) → Type 0
Implies {X} keep more = (x : X) → keep x ≡ true → more x ≡ true

fewer_if : {X : Type 0} (g : X → List ℕ) (x : X) (ks ls : List X) (a b : Bool) → (a ≡ true → b ≡ true) → length (flat_map g ks) ≤ length (flat_map g ls) → length (flat_map g (if a then x ∷ ks else ks)) ≤ length (flat_map g (if b then x ∷ ls else ls))
fewer_if g x ks ls true true implies le =
    let one = length-append (g x) (flat_map g ks) in
    let other = length-append (g x) (flat_map g ls) in
    omega (arith, one, other, le)
fewer_if g x ks ls true false implies le = let no : false ≡ true = implies refl in absurd (cc no)
fewer_if g x ks ls false true implies le = let other = length-append (g x) (flat_map g ls) in omega (arith, other, le)
fewer_if g x ks ls false false implies le = le

pub fewer_of : {X : Type 0} (g : X → List ℕ) (keep more : X → Bool) (xs : List X) → Implies keep more → length (flat_map g (filter keep xs)) ≤ length (flat_map g (filter more xs))
fewer_of g keep more [] implies = omega arith
fewer_of g keep more (x ∷ xs) implies = fewer_if g x (filter keep xs) (filter more xs) (keep x) (more x) (implies x) (fewer_of g keep more xs implies)

abbrev back_places : Timed → List ℕ
back_places t = reverse (places_in t.task_line.line.places)

-- what is known of a line in its round
record InRound (ts : List Timed) (t : Timed) : Type 0 where
  spans : Spans t
  round : IsInRound ts t

in_round : (ts xs : List Timed) → All Spans xs → All (IsInRound ts) xs → All (InRound ts) xs
in_round ts [] span rounds = All-nil (InRound ts)
in_round ts (x ∷ xs) span rounds =
    All-cons (InRound ts) x xs (record { spans = All-head Spans x xs span; round = All-head (IsInRound ts) x xs rounds })
    (in_round ts xs (All-tail Spans x xs span) (All-tail (IsInRound ts) x xs rounds))

with_if : {X : Type 0} (P Q : X → Type 0) (x : X) (ks : List X) (b : Bool) → P x → (b ≡ true → P x → Q x) → All Q ks → All Q (if b then x ∷ ks else ks)
with_if P Q x ks true here implies more = All-cons Q x ks (implies refl here) more
with_if P Q x ks false here implies more = more

-- what holds of all and is implied by the test holds of those that are kept
pub kept_with : {X : Type 0} (P Q : X → Type 0) (keep : X → Bool) (xs : List X) → All P xs → ((x : X) → keep x ≡ true → P x → Q x) → All Q (filter keep xs)
kept_with P Q keep [] all each = All-nil Q
kept_with P Q keep (x ∷ xs) all each = with_if P Q x (filter keep xs) (keep x) (All-head P x xs all) (each x) (kept_with P Q keep xs (All-tail P x xs all) each)

abbrev places_before : ℕ → List Timed → ℕ
places_before round ts = length (placed_back (in_rounds_before round ts))

before_below : (ts : List Timed) (round : ℕ) → All (InRound ts) ts → All (λ (p : ℕ). p < places_before round ts) (placed_back (in_rounds_before round ts))
before_below ts round known =
    let Below : ℕ → Type 0 = λ (p : ℕ). p < places_before round ts in
    places_of_all Below (in_rounds_before round ts)
    (kept_with (InRound ts) (λ (t : Timed). All Below (back_places t)) (λ (t : Timed). nat_lt t.task_line.line.round round) ts known
    (λ t earlier is.
    let until : end_of t ≤ length (placed_back (in_rounds_to t.task_line.line.round ts)) = is.round.until in
    let next : suc t.task_line.line.round ≤ round = leb-true (suc t.task_line.line.round) round earlier in
    let fewer : length (placed_back (in_rounds_to t.task_line.line.round ts)) ≤ places_before round ts =
    fewer_of back_places (λ (x : Timed). nat_le x.task_line.line.round t.task_line.line.round) (λ (x : Timed). nat_lt x.task_line.line.round round) ts
    (λ x yes. let le : x.task_line.line.round ≤ t.task_line.line.round = leb-true x.task_line.line.round t.task_line.line.round yes in le-leb (suc x.task_line.line.round) round (omega (arith, le, next)))
    in
    All-weaker (IsBetween t.moment (end_of t)) Below (λ p b. let below : p < end_of t = b.until in omega (arith, below, until, fewer)) (back_places t) is.spans.between))

from_above : (ts : List Timed) (round : ℕ) → All (InRound ts) ts → All (λ (q : ℕ). places_before round ts ≤ q) (placed_back (filter (λ (t : Timed). nat_le round t.task_line.line.round) ts))
from_above ts round known =
    let Above : ℕ → Type 0 = λ (q : ℕ). places_before round ts ≤ q in
    places_of_all Above (filter (λ (t : Timed). nat_le round t.task_line.line.round) ts)
    (kept_with (InRound ts) (λ (t : Timed). All Above (back_places t)) (λ (t : Timed). nat_le round t.task_line.line.round) ts known
    (λ t later is.
    let since : places_before t.task_line.line.round ts ≤ t.moment = is.round.since in
    let le : round ≤ t.task_line.line.round = leb-true round t.task_line.line.round later in
    let fewer : places_before round ts ≤ places_before t.task_line.line.round ts =
    fewer_of back_places (λ (x : Timed). nat_lt x.task_line.line.round round) (λ (x : Timed). nat_lt x.task_line.line.round t.task_line.line.round) ts
    (λ x yes. let next : suc x.task_line.line.round ≤ round = leb-true (suc x.task_line.line.round) round yes in le-leb (suc x.task_line.line.round) t.task_line.line.round (omega (arith, next, le)))
    in
    All-weaker (IsBetween t.moment (end_of t)) Above (λ q b. let behind : t.moment ≤ q = b.since in omega (arith, since, fewer, behind)) (back_places t) is.spans.between))

rounds_apart : (ts : List Timed) (round : ℕ) → All (InRound ts) ts
    → All (λ (p : ℕ). All (λ (q : ℕ). p < q) (all_places (from_round round (reverse (lines_in ts))))) (all_places (before_round round (reverse (lines_in ts))))
rounds_apart ts round known =
    let n : ℕ = places_before round ts in
    let later : List Timed = filter (λ (t : Timed). nat_le round t.task_line.line.round) ts in
    let earlier : List Timed = in_rounds_before round ts in
    let above : All (λ (q : ℕ). n ≤ q) (all_places (from_round round (reverse (lines_in ts)))) =
    subst (All (λ (q : ℕ). n ≤ q)) (sym (kept_places (λ (l : OutLine). nat_le round l.round) ts)) (all_reversed (λ (q : ℕ). n ≤ q) (placed_back later) (from_above ts round known))
    in
    let below : All (λ (p : ℕ). p < n) (all_places (before_round round (reverse (lines_in ts)))) =
    subst (All (λ (p : ℕ). p < n)) (sym (kept_places (λ (l : OutLine). nat_lt l.round round) ts)) (all_reversed (λ (p : ℕ). p < n) (placed_back earlier) (before_below ts round known))
    in
    All-weaker (λ (p : ℕ). p < n) (λ (p : ℕ). All (λ (q : ℕ). p < q) (all_places (from_round round (reverse (lines_in ts)))))
    (λ p lt. All-weaker (λ (q : ℕ). n ≤ q) (λ (q : ℕ). p < q) (λ q le. omega (arith, lt, le)) (all_places (from_round round (reverse (lines_in ts)))) above)
    (all_places (before_round round (reverse (lines_in ts)))) below

-- ---- the whole

pub each_goes_down : (c : Setting) (plan : PlanData) (W : History) (ts : List Timed) → IsWhole c plan W ts → EachGoesDown ts
each_goes_down c plan W ts whole thread =
    elim (cases_lt thread c.threads) [
      | inl lt ↦ subst GoDown (whole.places thread lt) (places_down thread W)
      | inr ge ↦
          let none : own_lines thread ts ≡ [] =
          filter_none (λ (t : Timed). t.task_line.line.thread == thread) ts
          (All-weaker (λ (t : Timed). t.task_line.line.thread < c.threads) (λ (t : Timed). (t.task_line.line.thread == thread) ≡ false)
          (λ t lt. ne_eqb t.task_line.line.thread thread (λ same. omega (arith, lt, ge, same))) ts whole.threads)
          in
          subst GoDown (sym (ap placed_back none)) tt
    ]

up_from : (keep : OutLine → Bool) (ts : List Timed) → GoDown (placed_back (filter (λ (t : Timed). keep t.task_line.line) ts)) → IsStrictlyIncreasing (all_places (filter keep (reverse (lines_in ts))))
up_from keep ts down = increasing (all_places (filter keep (reverse (lines_in ts)))) (subst GoUp (sym (kept_places keep ts)) (down_up (placed_back (filter (λ (t : Timed). keep t.task_line.line) ts)) down))

-- the lines of the round after the last are the closing ones
closing_kept : (closing made : List Timed) (last : ℕ) → All (λ (t : Timed). t.task_line.line.round ≤ last) made → All (λ (t : Timed). t.task_line.line.round ≡ last + 1) closing
    → filter (λ (t : Timed). nat_le (last + 1) t.task_line.line.round) (closing ++ made) ≡ closing
closing_kept closing made last before after =
    let late : Timed → Bool = λ (t : Timed). nat_le (last + 1) t.task_line.line.round in
    filter-append late closing made
    ∙ ap (λ (ks : List Timed). ks ++ filter late made)
    (filter_all late closing (All-weaker (λ (t : Timed). t.task_line.line.round ≡ last + 1) (λ (t : Timed). late t ≡ true) (λ t is. le-leb (last + 1) t.task_line.line.round (omega (arith, is))) closing after))
    ∙ ap (λ (ks : List Timed). closing ++ ks)
    (filter_none late made (All-weaker (λ (t : Timed). t.task_line.line.round ≤ last) (λ (t : Timed). late t ≡ false) (λ t le. lt-leb (last + 1) t.task_line.line.round (omega (arith, le))) made before))
    ∙ append-nil closing

spans_left : (xs ys : List Timed) → All Spans (xs ++ ys) → All Spans xs
spans_left [] ys all = All-nil Spans
spans_left (x ∷ xs) ys all = All-cons Spans x xs (All-head Spans x (xs ++ ys) all) (spans_left xs ys (All-tail Spans x (xs ++ ys) all))

pub placed : (c : Setting) (plan : PlanData) (W : History) (closing made : List Timed) (last : ℕ) → IsWhole c plan W (closing ++ made)
    → All (λ (t : Timed). t.task_line.line.round ≤ last) made → All (λ (t : Timed). t.task_line.line.round ≡ last + 1) closing → AreTimed closing
    → ArePlaced last (reverse (lines_in (closing ++ made)))
placed c plan W closing made last whole before after timed =
    let ts : List Timed = closing ++ made in
    let ls : List OutLine = reverse (lines_in ts) in
    let downs : EachGoesDown ts = each_goes_down c plan W ts whole in
    let span : All Spans ts = all_span c plan W ts whole.right downs in
    let long : length (placed_back ts) ≡ length W = whole_length c.threads W ts whole.callers whole.places whole.threads in
    let same : all_places ls ≡ reverse (placed_back ts) = reversed_places ts in
    let longer : length (all_places ls) ≡ length W = ap length same ∙ length-reverse (placed_back ts) ∙ long in
    let shut : filter (λ (t : Timed). nat_le (last + 1) t.task_line.line.round) ts ≡ closing = closing_kept closing made last before after in
    let one : (place : ℕ) → place < length (all_places ls) → count_by (λ (p : ℕ). p == place) (all_places ls) ≡ 1 = λ place lt.
    ap (count_by (λ (p : ℕ). p == place)) same ∙ sum_by-IsPermutation (bit_of place) (placed_back ts) (reverse (placed_back ts)) (IsPermutation-reverse (placed_back ts))
    ∙ stands_once c.threads W ts whole.callers whole.places whole.threads place (omega (arith, lt, longer))
    in
    let up : IsStrictlyIncreasing (all_places (from_round (last + 1) ls)) =
    up_from (λ (l : OutLine). nat_le (last + 1) l.round) ts (subst (λ (ks : List Timed). GoDown (placed_back ks)) (sym shut) (timed_down closing timed (spans_left closing made span)))
    in
    record {
      once = one;
      threads = λ thread. up_from (λ (l : OutLine). l.thread == thread) ts (downs thread);
      rounds = λ round. rounds_apart ts round (in_round ts ts span whole.rounds);
      closing = up;
    }
