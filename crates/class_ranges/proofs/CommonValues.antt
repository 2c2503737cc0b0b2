-- The least value that two sets of ranges have in common.
use Rattle.std.proofs.Common.{◌≡◌, ℕ, suc, ◌+◌, ◌<◌, ◌≤◌, min, max, Bool, true, false, ◌&&◌, ◌||◌, ⊎_elim, List, [], ◌∷◌, length, get_or, drop, Option, Some, None, refl, sym, ap, subst, ◌∙◌, arith, add-one, leb}
use Rattle.std.specs.Int.{is_in_range}
use Rattle.std.specs.Option.{option_or}
use Rattle.std.proofs.Math.Seq.{drop-cons}
use Rattle.std.proofs.lemmas.List.{drop_all}
use Rattle.std.proofs.lemmas.Bool.{cases_lt, cond_both, cond-false, leb-true, leb-false, lt-leb, and_right, and_parts, or_left, or_from, false_from_ne_true, true≢false}
use Rattle.std.proofs.lemmas.Bool.Decides.{nat_tests}
use Rattle.class_ranges.specs.Ranges.{Range, IsApart, covers, first_in, first_common, IsLeast}
use Rattle.class_ranges.proofs.Orders.{FollowFrom, follow_apart, follow_drop, covers_before}

-- ---- one step of a walk over both

-- a range has nothing in common with ranges behind it
first_in_after : (r : Range) (low : ℕ) (ss : List Range) → FollowFrom low ss → r.1 < low → first_in r ss ≡ None
first_in_after r low [] h behind = refl
first_in_after r low (s ∷ ss) h behind =
    let no : leb (max r.0 s.0) (min r.1 s.1) ≡ false = lt-leb (max r.0 s.0) (min r.1 s.1) (omega (arith, h.0)) in
    cond-false (leb (max r.0 s.0) (min r.1 s.1)) (Some (max r.0 s.0)) (first_in r ss) no ∙ first_in_after r (s.1 + 2) ss h.2 (omega (arith, h.0, h.1))

-- a range that lies before the other ones is passed
pub pass_range : (r : Range) (rs : List Range) (s : Range) (ss : List Range) → FollowFrom 0 (s ∷ ss) → r.1 < s.0 → first_common (r ∷ rs) (s ∷ ss) ≡ first_common rs (s ∷ ss)
pass_range r rs s ss h before = rw (first_in_after r s.0 (s ∷ ss) (omega arith, h.1, h.2) before) refl

-- a range of the others that lies before these is passed
pub pass_other : (low : ℕ) (rs : List Range) (s : Range) (ss : List Range) → FollowFrom low rs → s.1 < low → first_common rs (s ∷ ss) ≡ first_common rs ss
pass_other low [] s ss h before = refl
pass_other low (r ∷ rs) s ss h before =
    let no : leb (max r.0 s.0) (min r.1 s.1) ≡ false = lt-leb (max r.0 s.0) (min r.1 s.1) (omega (arith, h.0)) in
    rw (cond-false (leb (max r.0 s.0) (min r.1 s.1)) (Some (max r.0 s.0)) (first_in r ss) no, pass_other (r.1 + 2) rs s ss h.2 (omega (arith, h.0, h.1))) refl

pub nothing_common : (rs : List Range) → first_common rs [] ≡ None
nothing_common [] = refl
nothing_common (r ∷ rs) = nothing_common rs

-- ---- it is the least

-- the least value of which a test holds is that of a test with the same answers
least_same : (f g : ℕ → Bool) (o : Option ℕ) → ((w : ℕ) → g w ≡ f w) → IsLeast f o → IsLeast g o
least_same f g None same h = λ w. same w ∙ h w
least_same f g (Some w) same h = (same w ∙ h.0, λ v below. same v ∙ h.1 v below)

-- a test beside one that is false
and_none : (a : Bool) → (a && false) ≡ false
and_none true = refl
and_none false = refl

-- a test that is false beside another takes no part
drop_or : (a b c : Bool) → (a && b) ≡ false → (a && (b || c)) ≡ (a && c)
drop_or true true c h = absurd (true≢false h)
drop_or true false c h = refl
drop_or false b c h = refl

-- two ranges with a gap between them have no value in common
no_meeting : (r s : Range) (w : ℕ) → min r.1 s.1 < max r.0 s.0 → (is_in_range r.0 r.1 w && is_in_range s.0 s.1 w) ≡ false
no_meeting r s w gap = grind (arith, nat_tests)

inside : (low high v : ℕ) → low ≤ v → v ≤ high → is_in_range low high v ≡ true
inside low high v above below = grind (arith, nat_tests)

before : (low high v : ℕ) → v < low → is_in_range low high v ≡ false
before low high v below = grind (arith, nat_tests)

-- of a range
first_in_least : (r : Range) (low : ℕ) (ss : List Range) → r.0 ≤ r.1 → FollowFrom low ss → IsLeast (λ w. is_in_range r.0 r.1 w && covers ss w) (first_in r ss)
first_in_least r low [] whole h = λ w. and_none (is_in_range r.0 r.1 w)
first_in_least r low (s ∷ ss) whole h =
    cond_both (leb (max r.0 s.0) (min r.1 s.1)) (Some (max r.0 s.0)) (first_in r ss) (IsLeast (λ w. is_in_range r.0 r.1 w && covers (s ∷ ss) w))
    (λ meets.
    let shared : max r.0 s.0 ≤ min r.1 s.1 = leb-true (max r.0 s.0) (min r.1 s.1) meets in
    let one : is_in_range r.0 r.1 (max r.0 s.0) ≡ true = inside r.0 r.1 (max r.0 s.0) (omega arith) (omega arith) in
    let other : is_in_range s.0 s.1 (max r.0 s.0) ≡ true = inside s.0 s.1 (max r.0 s.0) (omega arith) (omega arith) in (
      rw (one, other) refl,
      λ v below.
          ⊎_elim
          (λ under. let out : is_in_range r.0 r.1 v ≡ false = before r.0 r.1 v under in rw out refl)
          (λ above. let out : covers (s ∷ ss) v ≡ false = covers_before s.0 (s ∷ ss) v (omega arith, h.1, h.2) (omega arith) in and_right (is_in_range r.0 r.1 v) (covers (s ∷ ss) v) out)
          (cases_lt v r.0),
    ))
    (λ apart.
    let gap : min r.1 s.1 < max r.0 s.0 = leb-false (max r.0 s.0) (min r.1 s.1) apart in
    least_same (λ w. is_in_range r.0 r.1 w && covers ss w) (λ w. is_in_range r.0 r.1 w && covers (s ∷ ss) w) (first_in r ss)
    (λ w. drop_or (is_in_range r.0 r.1 w) (is_in_range s.0 s.1 w) (covers ss w) (no_meeting r s w gap))
    (first_in_least r (s.1 + 2) ss whole h.2))

-- the least value of two tests, one of which holds only below the other
least_either : (f g : ℕ → Bool) (o p : Option ℕ) → ((w v : ℕ) → f w ≡ true → g v ≡ true → w < v) → IsLeast f o → IsLeast g p → IsLeast (λ w. f w || g w) (option_or o p)
least_either f g None p apart h k = least_same g (λ w. f w || g w) p (λ w. ap (λ (b : Bool). b || g w) (h w)) k
least_either f g (Some w) p apart h k =
    (or_left (f w) (g w) h.0, λ v below. or_from (f v) (g v) (h.1 v below) (false_from_ne_true (g v) (λ holds. let later : w < v = apart w v h.0 holds in absurd (omega arith))))

-- a test beside a choice is a choice of both beside it
spread : (a b c : Bool) → ((a || b) && c) ≡ ((a && c) || (b && c))
spread true true true = refl
spread true true false = refl
spread true false true = refl
spread true false false = refl
spread false b c = refl

-- what a range and later ones have in common
range_first : (r : Range) (rs ss : List Range) → FollowFrom (r.1 + 2) rs → (w v : ℕ) → (is_in_range r.0 r.1 w && covers ss w) ≡ true → (covers rs v && covers ss v) ≡ true → w < v
range_first r rs ss h w v one other =
    let in_range : is_in_range r.0 r.1 w ≡ true = (and_parts (is_in_range r.0 r.1 w) (covers ss w) one).0 in
    let upto : w ≤ r.1 = leb-true w r.1 ((and_parts (leb r.0 w) (leb w r.1) in_range).1) in
    let in_rest : covers rs v ≡ true = (and_parts (covers rs v) (covers ss v) other).0 in
    ⊎_elim
    (λ under. absurd (true≢false (sym in_rest ∙ covers_before (r.1 + 2) rs v h under)))
    (λ above. omega arith)
    (cases_lt v (r.1 + 2))

-- of two sets
pub first_common_least : (low : ℕ) (rs ss : List Range) → FollowFrom low rs → FollowFrom 0 ss → IsLeast (λ w. covers rs w && covers ss w) (first_common rs ss)
first_common_least low [] ss h k = λ w. refl
first_common_least low (r ∷ rs) ss h k =
    least_same (λ w. (is_in_range r.0 r.1 w && covers ss w) || (covers rs w && covers ss w)) (λ w. covers (r ∷ rs) w && covers ss w) (option_or (first_in r ss) (first_common rs ss))
    (λ w. spread (is_in_range r.0 r.1 w) (covers rs w) (covers ss w))
    (least_either (λ w. is_in_range r.0 r.1 w && covers ss w) (λ w. covers rs w && covers ss w) (first_in r ss) (first_common rs ss)
    (range_first r rs ss h.2)
    (first_in_least r 0 ss h.1 k)
    (first_common_least (r.1 + 2) rs ss h.2 k))

-- ---- the same at indices

-- ranges from an index on
at_index : (rs : List Range) (i : ℕ) → IsApart rs → i < length rs → (drop i rs ≡ get_or rs i (0, 0) ∷ drop (suc i) rs) × FollowFrom 0 (get_or rs i (0, 0) ∷ drop (suc i) rs)
at_index rs i order within =
    let cut : drop i rs ≡ get_or rs i (0, 0) ∷ drop (suc i) rs = drop-cons rs i (0, 0) within in
    (cut, subst (λ (xs : List Range). FollowFrom 0 xs) cut (follow_drop 0 i rs (follow_apart 0 rs order (λ d some. omega arith))))

-- a range that ends before the other one begins is passed
pub pass_range_at : (rs ss : List Range) (i j : ℕ) → IsApart rs → IsApart ss → i < length rs → j < length ss
    → min (get_or rs i (0, 0)).1 (get_or ss j (0, 0)).1 < max (get_or rs i (0, 0)).0 (get_or ss j (0, 0)).0
    → (get_or rs i (0, 0)).1 < (get_or ss j (0, 0)).1
    → first_common (drop i rs) (drop j ss) ≡ first_common (drop (i + 1) rs) (drop j ss)
pass_range_at rs ss i j order others within inside_others gap shorter =
    let one = at_index rs i order within in
    let other = at_index ss j others inside_others in
    let whole : (get_or rs i (0, 0)).0 ≤ (get_or rs i (0, 0)).1 = one.1.1 in
    rw (add-one, one.0, other.0) (pass_range (get_or rs i (0, 0)) (drop (suc i) rs) (get_or ss j (0, 0)) (drop (suc j) ss) other.1 (omega arith))

-- else the other one is passed
pub pass_other_at : (rs ss : List Range) (i j : ℕ) → IsApart rs → IsApart ss → i < length rs → j < length ss
    → min (get_or rs i (0, 0)).1 (get_or ss j (0, 0)).1 < max (get_or rs i (0, 0)).0 (get_or ss j (0, 0)).0
    → (get_or ss j (0, 0)).1 ≤ (get_or rs i (0, 0)).1
    → first_common (drop i rs) (drop j ss) ≡ first_common (drop i rs) (drop (j + 1) ss)
pass_other_at rs ss i j order others within inside_others gap shorter =
    let one = at_index rs i order within in
    let other = at_index ss j others inside_others in
    let whole : (get_or ss j (0, 0)).0 ≤ (get_or ss j (0, 0)).1 = other.1.1 in
    rw (add-one, one.0, other.0) (pass_other (get_or rs i (0, 0)).0 (get_or rs i (0, 0) ∷ drop (suc i) rs) (get_or ss j (0, 0)) (drop (suc j) ss) (omega arith, one.1.1, one.1.2) (omega arith))

-- where the others are at their end, nothing is left
pub ended_others : (rs ss : List Range) (j : ℕ) → length ss ≤ j → first_common rs (drop j ss) ≡ None
ended_others rs ss j end = rw (drop_all j ss end) (nothing_common rs)
