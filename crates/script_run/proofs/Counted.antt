-- The places of the lines of all threads are those of the history, each once.
use Rattle.std.proofs.Common.{◌≡◌, ℕ, zero, suc, ◌+◌, ◌<◌, ◌≤◌, Bool, true, false, cond, List, [], ◌∷◌, ◌++◌, length, refl, sym, ap, subst, ◌∙◌, arith, inl, inr, reverse}
use Rattle.std.specs.Prelude.{◌≢◌, ◌==◌, if◌then◌else◌, filter, sum_by, count_by, All}
use Rattle.std.proofs.lemmas.List.{append-nil, reverse-append, reverse-reverse}
use Rattle.std.proofs.lemmas.Bool.{eq-eqb, ne_eqb}
use Rattle.std.proofs.lemmas.Bool.Decides.{eqb_tells}
use Rattle.std.proofs.lemmas.List.Concat.{flat_map-append}
use Rattle.std.proofs.lemmas.List.Elements.{All-nil, All-cons, All-head, All-tail, All-append, All-weaker, filter-append}
use Rattle.std.proofs.lemmas.List.Sorted.{All-permutation, IsPermutation-reverse}
use Rattle.std.proofs.lemmas.List.Sums.{sum_by-cons, sum_by-append}
use Rattle.handle_table.specs.Entry.{History}
use Rattle.handle_table.specs.Kept.{AreThreads}
use Rattle.script_out.specs.declared.output.OutLine.{OutLine}
use Rattle.script_plan.specs.Prints.{places_in, all_places}
use Rattle.script_plan.proofs.LineLists.{GoUp, up_join, is_this, bit_of, count_more, all_left}
use Rattle.script_run.specs.Timed.{places_by, Timed, lines_in, placed_back, own_lines}

-- ---- sums over threads

abbrev total : (ℕ → ℕ) → ℕ → ℕ
total f zero = 0
total f (suc n) = total f n + f n

total_none : (f : ℕ → ℕ) (n : ℕ) → ((t : ℕ) → f t ≡ 0) → total f n ≡ 0
total_none f zero none = refl
total_none f (suc n) none =
    let before : total f n ≡ 0 = total_none f n none in
    let here : f n ≡ 0 = none n in
    omega (arith, before, here)

total_same : (f g : ℕ → ℕ) (n : ℕ) → ((t : ℕ) → t < n → f t ≡ g t) → total f n ≡ total g n
total_same f g zero same = refl
total_same f g (suc n) same =
    let before : total f n ≡ total g n = total_same f g n (λ t lt. same t (omega (arith, lt))) in
    let here : f n ≡ g n = same n (omega arith) in
    omega (arith, before, here)

-- the summand of one number is greater, and all others are the same
total_one : (f g : ℕ → ℕ) (who more n : ℕ) → who < n → f who ≡ g who + more → ((t : ℕ) → t ≢ who → f t ≡ g t) → total f n ≡ total g n + more
total_one f g who more zero lt here others = absurd (omega (arith, lt))
total_one f g who more (suc n) lt here others =
    elim (eqb_tells who n) [
      | inl same ↦
          let is : who ≡ n = same.1 in
          let before : total f n ≡ total g n = total_same f g n (λ t below. others t (λ it. omega (arith, it, below, is))) in
          let last : f n ≡ g n + more = subst (λ (k : ℕ). f k ≡ g k + more) is here in
          omega (arith, before, last)
      | inr differs ↦
          let apart : who ≢ n = differs.1 in
          let before : total f n ≡ total g n + more = total_one f g who more n (omega (arith, apart, lt)) here others in
          let last : f n ≡ g n = others n (λ it. apart (sym it)) in
          omega (arith, before, last)
    ]

-- ---- the places of all entries are those of each thread, and those of lines, too

-- the places of all entries, the newest first
abbrev places_all : History → List ℕ
places_all [] = []
places_all (e ∷ H) = length H ∷ places_all H

length_all : (W : History) → length (places_all W) ≡ length W
length_all [] = refl
length_all (e ∷ W) = ap suc (length_all W)

total_entries : (f : ℕ → ℕ) (n : ℕ) (W : History) → AreThreads n W → total (λ (t : ℕ). sum_by f (places_by t W)) n ≡ sum_by f (places_all W)
total_entries f n [] callers = total_none (λ (t : ℕ). sum_by f (places_by t [])) n (λ t. refl)
total_entries f n (e ∷ W) callers =
    let before : total (λ (t : ℕ). sum_by f (places_by t W)) n ≡ sum_by f (places_all W) = total_entries f n W callers.1 in
    let with_it : ℕ → Bool → ℕ = λ t b. sum_by f (if b then length W ∷ places_by t W else places_by t W) in
    let ours : sum_by f (length W ∷ places_by e.who W) ≡ f (length W) + sum_by f (places_by e.who W) = sum_by-cons f (length W) (places_by e.who W) in
    let here : sum_by f (places_by e.who (e ∷ W)) ≡ sum_by f (length W ∷ places_by e.who W) = ap (with_it e.who) (eq-eqb e.who e.who refl) in
    let one : total (λ (t : ℕ). sum_by f (places_by t (e ∷ W))) n ≡ total (λ (t : ℕ). sum_by f (places_by t W)) n + f (length W) =
    total_one (λ (t : ℕ). sum_by f (places_by t (e ∷ W))) (λ (t : ℕ). sum_by f (places_by t W)) e.who (f (length W)) n callers.0 (omega (arith, here, ours))
    (λ t apart. ap (with_it t) (ne_eqb e.who t (λ same. apart (sym same))))
    in
    let all : sum_by f (places_all (e ∷ W)) ≡ f (length W) + sum_by f (places_all W) = sum_by-cons f (length W) (places_all W) in
    omega (arith, before, one, all)

abbrev IsBelow : ℕ → Timed → Type 0
IsBelow n t = t.task_line.line.thread < n

total_lines : (f : ℕ → ℕ) (n : ℕ) (ts : List Timed) → All (IsBelow n) ts → total (λ (t : ℕ). sum_by f (placed_back (own_lines t ts))) n ≡ sum_by f (placed_back ts)
total_lines f n [] threads = total_none (λ (t : ℕ). sum_by f (placed_back (own_lines t []))) n (λ t. refl)
total_lines f n (x ∷ ts) threads =
    let who : ℕ = x.task_line.line.thread in
    let ps : List ℕ = reverse (places_in x.task_line.line.places) in
    let before : total (λ (t : ℕ). sum_by f (placed_back (own_lines t ts))) n ≡ sum_by f (placed_back ts) = total_lines f n ts (All-tail (IsBelow n) x ts threads) in
    let with_it : ℕ → Bool → ℕ = λ t b. sum_by f (placed_back (if b then x ∷ own_lines t ts else own_lines t ts)) in
    let ours : sum_by f (ps ++ placed_back (own_lines who ts)) ≡ sum_by f ps + sum_by f (placed_back (own_lines who ts)) = sum_by-append f ps (placed_back (own_lines who ts)) in
    let here : sum_by f (placed_back (own_lines who (x ∷ ts))) ≡ sum_by f (ps ++ placed_back (own_lines who ts)) = ap (with_it who) (eq-eqb who who refl) in
    let one : total (λ (t : ℕ). sum_by f (placed_back (own_lines t (x ∷ ts)))) n ≡ total (λ (t : ℕ). sum_by f (placed_back (own_lines t ts))) n + sum_by f ps =
    total_one (λ (t : ℕ). sum_by f (placed_back (own_lines t (x ∷ ts)))) (λ (t : ℕ). sum_by f (placed_back (own_lines t ts))) who (sum_by f ps) n
    (All-head (IsBelow n) x ts threads) (omega (arith, here, ours)) (λ t apart. ap (with_it t) (ne_eqb who t (λ same. apart (sym same))))
    in
    let all : sum_by f (ps ++ placed_back ts) ≡ sum_by f ps + sum_by f (placed_back ts) = sum_by-append f ps (placed_back ts) in
    omega (arith, before, one, all)

abbrev pub HasPlacesOf : ℕ → History → List Timed → Type 0
HasPlacesOf n W ts = (thread : ℕ) → thread < n → places_by thread W ≡ placed_back (own_lines thread ts)

whole_sum : (f : ℕ → ℕ) (n : ℕ) (W : History) (ts : List Timed) → AreThreads n W → HasPlacesOf n W ts → All (IsBelow n) ts → sum_by f (placed_back ts) ≡ sum_by f (places_all W)
whole_sum f n W ts callers places threads =
    sym (total_lines f n ts threads)
    ∙ total_same (λ (t : ℕ). sum_by f (placed_back (own_lines t ts))) (λ (t : ℕ). sum_by f (places_by t W)) n (λ t lt. ap (sum_by f) (sym (places t lt)))
    ∙ total_entries f n W callers

-- ---- so many places, and each once

abbrev ones : ℕ → ℕ
ones p = 1

ones_length : (ps : List ℕ) → sum_by ones ps ≡ length ps
ones_length [] = refl
ones_length (p ∷ ps) =
    let more : sum_by ones (p ∷ ps) ≡ 1 + sum_by ones ps = sum_by-cons ones p ps in
    let rest : sum_by ones ps ≡ length ps = ones_length ps in
    omega (arith, more, rest)

-- there are as many places as entries
pub whole_length : (n : ℕ) (W : History) (ts : List Timed) → AreThreads n W → ((thread : ℕ) → thread < n → places_by thread W ≡ placed_back (own_lines thread ts))
    → All (λ (t : Timed). t.task_line.line.thread < n) ts → length (placed_back ts) ≡ length W
whole_length n W ts callers places threads =
    sym (ones_length (placed_back ts)) ∙ whole_sum ones n W ts callers places threads ∙ ones_length (places_all W) ∙ length_all W

none_past : (p : ℕ) (W : History) → length W ≤ p → count_by (is_this p) (places_all W) ≡ 0
none_past p [] le = refl
none_past p (e ∷ W) le =
    let more : count_by (is_this p) (length W ∷ places_all W) ≡ bit_of p (length W) + count_by (is_this p) (places_all W) = count_more p (length W) (places_all W) in
    let no : bit_of p (length W) ≡ 0 = ap (λ (b : Bool). cond b 1 0) (ne_eqb (length W) p (λ same. omega (arith, same, le))) in
    let rest : count_by (is_this p) (places_all W) ≡ 0 = none_past p W (omega (arith, le)) in
    omega (arith, more, no, rest)

once_all : (p : ℕ) (W : History) → p < length W → count_by (is_this p) (places_all W) ≡ 1
once_all p [] lt = absurd (omega (arith, lt))
once_all p (e ∷ W) lt =
    let more : count_by (is_this p) (length W ∷ places_all W) ≡ bit_of p (length W) + count_by (is_this p) (places_all W) = count_more p (length W) (places_all W) in
    elim (eqb_tells (length W) p) [
      | inl same ↦
          let is : length W ≡ p = same.1 in
          let yes : bit_of p (length W) ≡ 1 = ap (λ (b : Bool). cond b 1 0) same.0 in
          let rest : count_by (is_this p) (places_all W) ≡ 0 = none_past p W (omega (arith, is)) in
          omega (arith, more, yes, rest)
      | inr differs ↦
          let apart : length W ≢ p = differs.1 in
          let no : bit_of p (length W) ≡ 0 = ap (λ (b : Bool). cond b 1 0) differs.0 in
          let rest : count_by (is_this p) (places_all W) ≡ 1 = once_all p W (omega (arith, apart, lt)) in
          omega (arith, more, no, rest)
    ]

-- each place of an entry stands once among those of the lines
pub once : (n : ℕ) (W : History) (ts : List Timed) → AreThreads n W → ((thread : ℕ) → thread < n → places_by thread W ≡ placed_back (own_lines thread ts))
    → All (λ (t : Timed). t.task_line.line.thread < n) ts → (p : ℕ) → p < length W → count_by (λ (q : ℕ). q == p) (placed_back ts) ≡ 1
once n W ts callers places threads p lt = whole_sum (bit_of p) n W ts callers places threads ∙ once_all p W lt

-- ---- numbers that go down

abbrev pub GoDown : List ℕ → Type 0
GoDown [] = Unit {0}
GoDown (x ∷ xs) = All (λ (y : ℕ). y < x) xs × GoDown xs

-- all numbers of one list are below each of another
abbrev pub AreAbove : List ℕ → List ℕ → Type 0
AreAbove xs ys = All (λ (x : ℕ). All (λ (y : ℕ). y < x) ys) xs

pub down_left : (xs ys : List ℕ) → GoDown (xs ++ ys) → GoDown xs
down_left [] ys down = tt
down_left (x ∷ xs) ys down = (all_left (λ (y : ℕ). y < x) xs ys down.0, down_left xs ys down.1)

pub down_right : (xs ys : List ℕ) → GoDown (xs ++ ys) → GoDown ys
down_right [] ys down = down
down_right (x ∷ xs) ys down = down_right xs ys down.1

pub down_join : (xs ys : List ℕ) → GoDown xs → GoDown ys → AreAbove xs ys → GoDown (xs ++ ys)
down_join [] ys down more above = more
down_join (x ∷ xs) ys down more above =
    let Above : ℕ → Type 0 = λ (z : ℕ). All (λ (y : ℕ). y < z) ys in
    (All-append (λ (y : ℕ). y < x) xs ys down.0 (All-head Above x xs above), down_join xs ys down.1 more (All-tail Above x xs above))

pub all_reversed : {X : Type 0} (P : X → Type 0) (xs : List X) → All P xs → All P (reverse xs)
all_reversed P xs all = All-permutation P xs (reverse xs) (IsPermutation-reverse xs) all

-- the other way round they go up
pub down_up : (xs : List ℕ) → GoDown xs → GoUp (reverse xs)
down_up [] down = tt
down_up (x ∷ xs) down =
    let last : (z : ℕ) → z < x → All (λ (y : ℕ). z < y) (x ∷ []) = λ z lt. All-cons (λ (y : ℕ). z < y) x [] lt (All-nil (λ (y : ℕ). z < y)) in
    subst GoUp (sym (reverse-append (x ∷ []) xs))
    (up_join (reverse xs) (x ∷ []) (down_up xs down.1) (All-nil (λ (y : ℕ). x < y), tt)
    (All-weaker (λ (z : ℕ). z < x) (λ (z : ℕ). All (λ (y : ℕ). z < y) (x ∷ [])) last (reverse xs) (all_reversed (λ (z : ℕ). z < x) xs down.0)))

below_if : (b : Bool) (n : ℕ) (ps : List ℕ) → All (λ (p : ℕ). p < n) ps → All (λ (p : ℕ). p < suc n) (if b then n ∷ ps else ps)
below_if true n ps all = All-cons (λ (p : ℕ). p < suc n) n ps (omega arith) (All-weaker (λ (p : ℕ). p < n) (λ (p : ℕ). p < suc n) (λ p lt. omega (arith, lt)) ps all)
below_if false n ps all = All-weaker (λ (p : ℕ). p < n) (λ (p : ℕ). p < suc n) (λ p lt. omega (arith, lt)) ps all

-- the places of a thread are within the history, and the newest is the last
pub places_within : (thread : ℕ) (H : History) → All (λ (p : ℕ). p < length H) (places_by thread H)
places_within thread [] = All-nil (λ (p : ℕ). p < 0)
places_within thread (e ∷ H) = below_if (e.who == thread) (length H) (places_by thread H) (places_within thread H)

down_if : (b : Bool) (n : ℕ) (ps : List ℕ) → All (λ (p : ℕ). p < n) ps → GoDown ps → GoDown (if b then n ∷ ps else ps)
down_if true n ps all down = (all, down)
down_if false n ps all down = down

pub places_down : (thread : ℕ) (H : History) → GoDown (places_by thread H)
places_down thread [] = tt
places_down thread (e ∷ H) = down_if (e.who == thread) (length H) (places_by thread H) (places_within thread H) (places_down thread H)

-- ---- the printed lines are the other way round

last_if : {X : Type 0} (x : X) (ks : List X) (b : Bool) → reverse ks ++ cond b (x ∷ []) [] ≡ reverse (cond b (x ∷ ks) ks)
last_if x ks true = sym (reverse-append (x ∷ []) ks)
last_if x ks false = append-nil (reverse ks)

pub filter_reverse : {X : Type 0} (keep : X → Bool) (xs : List X) → filter keep (reverse xs) ≡ reverse (filter keep xs)
filter_reverse keep [] = refl
filter_reverse {X} keep (x ∷ xs) =
    ap (filter keep) (reverse-append (x ∷ []) xs)
    ∙ filter-append keep (reverse xs) (x ∷ [])
    ∙ ap (λ (ks : List X). ks ++ filter keep (x ∷ [])) (filter_reverse keep xs)
    ∙ last_if x (filter keep xs) (keep x)

line_if : (t : Timed) (ls : List OutLine) (ks : List Timed) (b : Bool) → ls ≡ lines_in ks → cond b (t.task_line.line ∷ ls) ls ≡ lines_in (cond b (t ∷ ks) ks)
line_if t ls ks true same = ap (λ (rest : List OutLine). t.task_line.line ∷ rest) same
line_if t ls ks false same = same

filter_lines : (keep : OutLine → Bool) (ts : List Timed) → filter keep (lines_in ts) ≡ lines_in (filter (λ (t : Timed). keep t.task_line.line) ts)
filter_lines keep [] = refl
filter_lines keep (t ∷ ts) = line_if t (filter keep (lines_in ts)) (filter (λ (x : Timed). keep x.task_line.line) ts) (keep t.task_line.line) (filter_lines keep ts)

pub kept_lines : (keep : OutLine → Bool) (ts : List Timed) → filter keep (reverse (lines_in ts)) ≡ reverse (lines_in (filter (λ (t : Timed). keep t.task_line.line) ts))
kept_lines keep ts = filter_reverse keep (lines_in ts) ∙ ap reverse (filter_lines keep ts)

pub reversed_places : (ts : List Timed) → all_places (reverse (lines_in ts)) ≡ reverse (placed_back ts)
reversed_places [] = refl
reversed_places (t ∷ ts) =
    let ps : List ℕ = places_in t.task_line.line.places in
    ap all_places (reverse-append (t.task_line.line ∷ []) (lines_in ts))
    ∙ flat_map-append (λ (l : OutLine). places_in l.places) (reverse (lines_in ts)) (t.task_line.line ∷ [])
    ∙ ap (λ (qs : List ℕ). qs ++ (ps ++ [])) (reversed_places ts)
    ∙ ap (λ (qs : List ℕ). reverse (placed_back ts) ++ qs) (append-nil ps ∙ sym (reverse-reverse ps))
    ∙ sym (reverse-append (reverse ps) (placed_back ts))

pub kept_places : (keep : OutLine → Bool) (ts : List Timed) → all_places (filter keep (reverse (lines_in ts))) ≡ reverse (placed_back (filter (λ (t : Timed). keep t.task_line.line) ts))
kept_places keep ts = ap all_places (kept_lines keep ts) ∙ reversed_places (filter (λ (t : Timed). keep t.task_line.line) ts)
