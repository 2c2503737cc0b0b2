-- Ranges in order, as they follow one another: what they cover, and that there is just one list for each set.
use Rattle.std.proofs.Common.{◌≡◌, ℕ, zero, suc, ◌+◌, ◌<◌, ◌≤◌, min, max, Bool, true, false, cond, ◌||◌, ⊎_elim, List, [], ◌∷◌, length, get_or, drop, All, refl, sym, ap, ◌∙◌, arith, ltb}
use Rattle.std.specs.Int.{is_in_range}
use Rattle.std.proofs.lemmas.Bool.{cases_lt, cond_both, ltb-true, ltb-false, true≢false}
use Rattle.std.proofs.lemmas.Bool.Decides.{nat_tests}
use Rattle.class_ranges.specs.Ranges.{Range, covers, IsApart, with_range, ranges_of}

-- ranges in order, the first of which does not begin below a value
abbrev pub FollowFrom : ℕ → List Range → Type 0
FollowFrom low [] = Unit {0}
FollowFrom low (r ∷ rs) = (low ≤ r.0) × (r.0 ≤ r.1) × FollowFrom (r.1 + 2) rs

-- the same from a lower value
pub follow_lower : (low high : ℕ) (rs : List Range) → low ≤ high → FollowFrom high rs → FollowFrom low rs
follow_lower low high [] below h = tt
follow_lower low high (r ∷ rs) below h = (omega arith, h.1, h.2)

-- what is left of them
pub follow_drop : (low i : ℕ) (rs : List Range) → FollowFrom low rs → FollowFrom low (drop i rs)
follow_drop low zero [] h = tt
follow_drop low zero (r ∷ rs) h = h
follow_drop low (suc i) [] h = tt
follow_drop low (suc i) (r ∷ rs) h = follow_drop low i rs (follow_lower low (r.1 + 2) rs (omega arith) h.2)

-- ranges behind the first
apart_tail : (r : Range) (rs : List Range) → IsApart (r ∷ rs) → IsApart rs
apart_tail r rs h = record {
  forward = λ k d within. h.forward (suc k) d (omega arith);
  apart = λ i j d earlier within. h.apart (suc i) (suc j) d (omega arith) (omega arith);
}

-- ranges with gaps between any two follow one another
pub follow_apart : (low : ℕ) (rs : List Range) → IsApart rs → ((d : Range) → 0 < length rs → low ≤ (get_or rs 0 d).0) → FollowFrom low rs
follow_apart low [] h from = tt
follow_apart low (r ∷ rs) h from =
    (from r (omega arith), h.forward 0 r (omega arith), follow_apart (r.1 + 2) rs (apart_tail r rs h) (λ d within. let gap : r.1 + 1 < (get_or rs 0 d).0 = h.apart 0 1 d (omega arith) (omega arith) in omega arith))

-- nothing below the first is covered
pub covers_before : (low : ℕ) (rs : List Range) (w : ℕ) → FollowFrom low rs → w < low → covers rs w ≡ false
covers_before low [] w h below = refl
covers_before low (r ∷ rs) w h below =
    let rest : covers rs w ≡ false = covers_before (r.1 + 2) rs w h.2 (omega (arith, h.0, h.1)) in
    let first : low ≤ r.0 = h.0 in
    rw rest (grind (arith, nat_tests))

-- the head of ranges in order covers its own values
covers_first : (r : Range) (rs : List Range) → r.0 ≤ r.1 → covers (r ∷ rs) r.0 ≡ true
covers_first r rs forward = let here : is_in_range r.0 r.1 r.0 ≡ true = grind (arith, nat_tests) in rw here refl

-- a value is in a range
inside : (low high v : ℕ) → low ≤ v → v ≤ high → is_in_range low high v ≡ true
inside low high v above below = grind (arith, nat_tests)

-- a value is above a range
above_range : (low high v : ℕ) → high < v → is_in_range low high v ≡ false
above_range low high v above = grind (arith, nat_tests)

-- ---- one list for each set

-- a value at which two sets differ
differ : {P : Type 0} (rs ss : List Range) (w : ℕ) → ((v : ℕ) → covers rs v ≡ covers ss v) → covers rs w ≡ true → covers ss w ≡ false → P
differ rs ss w same one other = absurd (true≢false (sym one ∙ same w ∙ other))

-- of two sets that are the same, neither begins before the other
begins : (r s : Range) (rs ss : List Range) → r.0 ≤ r.1 → s.0 ≤ s.1 → FollowFrom (s.1 + 2) ss → ((v : ℕ) → covers (r ∷ rs) v ≡ covers (s ∷ ss) v) → s.0 ≤ r.0
begins r s rs ss whole part h same =
    ⊎_elim
    (λ before. differ (r ∷ rs) (s ∷ ss) r.0 same (covers_first r rs whole) (covers_before s.0 (s ∷ ss) r.0 (omega arith, part, h) before))
    (λ from. from)
    (cases_lt r.0 s.0)

-- the value behind the first range is not covered
past_first : (r : Range) (rs : List Range) → FollowFrom (r.1 + 2) rs → covers (r ∷ rs) (r.1 + 1) ≡ false
past_first r rs h =
    let rest : covers rs (r.1 + 1) ≡ false = covers_before (r.1 + 2) rs (r.1 + 1) h (omega arith) in
    let first : is_in_range r.0 r.1 (r.1 + 1) ≡ false = grind (arith, nat_tests) in
    rw (first, rest) refl

-- of two sets that begin at one value, neither's first range ends before the other's
ends : (r s : Range) (rs ss : List Range) → r.0 ≡ s.0 → s.0 ≤ s.1 → FollowFrom (s.1 + 2) ss → ((v : ℕ) → covers (r ∷ rs) v ≡ covers (s ∷ ss) v) → r.1 ≤ s.1
ends r s rs ss begin part h same =
    ⊎_elim
    (λ longer.
    let here : is_in_range r.0 r.1 (s.1 + 1) ≡ true = inside r.0 r.1 (s.1 + 1) (omega arith) (omega arith) in
    differ (r ∷ rs) (s ∷ ss) (s.1 + 1) same (rw here refl) (past_first s ss h))
    (λ upto. upto)
    (cases_lt s.1 r.1)

-- behind the first ranges, two sets that are the same and begin with one range are the same
rest_same : (r : Range) (rs ss : List Range) → FollowFrom (r.1 + 2) rs → FollowFrom (r.1 + 2) ss → ((v : ℕ) → covers (r ∷ rs) v ≡ covers (r ∷ ss) v) → (v : ℕ) → covers rs v ≡ covers ss v
rest_same r rs ss h k same v =
    ⊎_elim
    (λ before. covers_before (r.1 + 2) rs v h before ∙ sym (covers_before (r.1 + 2) ss v k before))
    (λ behind.
    let out : is_in_range r.0 r.1 v ≡ false = above_range r.0 r.1 v (omega arith) in
    rw out at (same v))
    (cases_lt v (r.1 + 2))

-- a range is its two ends
same_range : (r s : Range) → r.0 ≡ s.0 → r.1 ≡ s.1 → r ≡ s
same_range r s first last = ap {B = Range} (λ (x : ℕ). (x, r.1)) first ∙ ap {B = Range} (λ (x : ℕ). (s.0, x)) last

-- ranges that follow one another are the same where they cover the same values
pub same_ranges : (low : ℕ) (rs ss : List Range) → FollowFrom low rs → FollowFrom low ss → ((v : ℕ) → covers rs v ≡ covers ss v) → rs ≡ ss
same_ranges low [] [] h k same = refl
same_ranges low [] (s ∷ ss) h k same = differ (s ∷ ss) [] s.0 (λ v. sym (same v)) (covers_first s ss k.1) refl
same_ranges low (r ∷ rs) [] h k same = differ (r ∷ rs) [] r.0 same (covers_first r rs h.1) refl
same_ranges low (r ∷ rs) (s ∷ ss) h k same =
    let back : (v : ℕ) → covers (s ∷ ss) v ≡ covers (r ∷ rs) v = λ v. sym (same v) in
    let first : r.0 ≡ s.0 = omega (arith, begins r s rs ss h.1 k.1 k.2 same, begins s r ss rs k.1 h.1 h.2 back) in
    let last : r.1 ≡ s.1 = omega (arith, ends r s rs ss first k.1 k.2 same, ends s r ss rs (sym first) h.1 h.2 back) in
    let one : r ≡ s = same_range r s first last in
    let rest : FollowFrom (r.1 + 2) ss = rw (← last) at k.2 in
    let others : (v : ℕ) → covers rs v ≡ covers ss v = rest_same r rs ss h.2 rest (rw (← one) at same) in
    let tails : rs ≡ ss = same_ranges (r.1 + 2) rs ss h.2 rest others in
    cc

-- ---- a range more

-- two ranges that meet or touch have the values of the one that joins them
joined_range : (r s : Range) (w : ℕ) → r.0 ≤ r.1 → s.0 ≤ s.1 → s.0 ≤ r.1 + 1 → r.0 ≤ s.1 + 1 → is_in_range (min r.0 s.0) (max r.1 s.1) w ≡ (is_in_range r.0 r.1 w || is_in_range s.0 s.1 w)
joined_range r s w whole part near close = grind (arith, nat_tests)

-- tests in another order
swapped : (a b c : Bool) → (a || (b || c)) ≡ (b || (a || c))
swapped true true c = refl
swapped true false c = refl
swapped false true c = refl
swapped false false c = refl

grouped : (a b c : Bool) → ((a || b) || c) ≡ (a || (b || c))
grouped true b c = refl
grouped false b c = refl

-- a range more keeps ranges in order
pub follow_with : (low : ℕ) (r : Range) (ss : List Range) → low ≤ r.0 → r.0 ≤ r.1 → FollowFrom low ss → FollowFrom low (with_range r ss)
follow_with low r [] from whole h = (from, whole, tt)
follow_with low r (s ∷ ss) from whole h =
    cond_both (ltb (r.1 + 1) s.0) (r ∷ s ∷ ss) (cond (ltb (s.1 + 1) r.0) (s ∷ with_range r ss) (with_range (min r.0 s.0, max r.1 s.1) ss)) (λ out. FollowFrom low out)
    (λ before. (from, whole, (omega (arith, ltb-true (r.1 + 1) s.0 before), h.1, h.2)))
    (λ not_before.
    cond_both (ltb (s.1 + 1) r.0) (s ∷ with_range r ss) (with_range (min r.0 s.0, max r.1 s.1) ss) (λ out. FollowFrom low out)
    (λ behind. (h.0, h.1, follow_with (s.1 + 2) r ss (omega (arith, ltb-true (s.1 + 1) r.0 behind)) whole h.2))
    (λ not_behind. follow_with low (min r.0 s.0, max r.1 s.1) ss (omega (arith, h.0)) (omega (arith, h.1)) (follow_lower low (s.1 + 2) ss (omega (arith, h.0, h.1)) h.2)))

-- and adds its values
pub covers-with_range : (low : ℕ) (r : Range) (ss : List Range) (w : ℕ) → r.0 ≤ r.1 → FollowFrom low ss → covers (with_range r ss) w ≡ (is_in_range r.0 r.1 w || covers ss w)
covers-with_range low r [] w whole h = refl
covers-with_range low r (s ∷ ss) w whole h =
    cond_both (ltb (r.1 + 1) s.0) (r ∷ s ∷ ss) (cond (ltb (s.1 + 1) r.0) (s ∷ with_range r ss) (with_range (min r.0 s.0, max r.1 s.1) ss))
    (λ out. covers out w ≡ (is_in_range r.0 r.1 w || (is_in_range s.0 s.1 w || covers ss w)))
    (λ before. refl)
    (λ not_before.
    cond_both (ltb (s.1 + 1) r.0) (s ∷ with_range r ss) (with_range (min r.0 s.0, max r.1 s.1) ss)
    (λ out. covers out w ≡ (is_in_range r.0 r.1 w || (is_in_range s.0 s.1 w || covers ss w)))
    (λ behind.
    rw (covers-with_range (s.1 + 2) r ss w whole h.2) (swapped (is_in_range s.0 s.1 w) (is_in_range r.0 r.1 w) (covers ss w)))
    (λ not_behind.
    let close : r.0 ≤ s.1 + 1 = ltb-false (s.1 + 1) r.0 not_behind in
    let near : s.0 ≤ r.1 + 1 = ltb-false (r.1 + 1) s.0 not_before in
    let both = joined_range r s w whole h.1 near close in
    covers-with_range (s.1 + 2) (min r.0 s.0, max r.1 s.1) ss w (omega (arith, h.1)) h.2
    ∙ ap (λ (b : Bool). b || covers ss w) both
    ∙ grouped (is_in_range r.0 r.1 w) (is_in_range s.0 s.1 w) (covers ss w)))

-- the ranges of any ranges follow one another
pub follow-ranges_of : (rs : List Range) → All (λ (r : Range). r.0 ≤ r.1) rs → FollowFrom 0 (ranges_of rs)
follow-ranges_of [] forward = tt
follow-ranges_of (r ∷ rs) forward =
    follow_with 0 r (ranges_of rs) (omega arith) (forward 0 r (omega arith)) (follow-ranges_of rs (λ k d within. forward (suc k) d (omega arith)))

-- and have the same values
pub covers-ranges_of : (rs : List Range) (w : ℕ) → All (λ (r : Range). r.0 ≤ r.1) rs → covers (ranges_of rs) w ≡ covers rs w
covers-ranges_of [] w forward = refl
covers-ranges_of (r ∷ rs) w forward =
    let rest : All (λ (s : Range). s.0 ≤ s.1) rs = λ k d within. forward (suc k) d (omega arith) in
    covers-with_range 0 r (ranges_of rs) w (forward 0 r (omega arith)) (follow-ranges_of rs rest)
    ∙ ap (λ (b : Bool). is_in_range r.0 r.1 w || b) (covers-ranges_of rs w rest)

-- ranges with gaps between them are those of any ranges with the same values
pub same-ranges_of : (rs ss : List Range) → IsApart rs → All (λ (s : Range). s.0 ≤ s.1) ss → ((w : ℕ) → covers rs w ≡ covers ss w) → rs ≡ ranges_of ss
same-ranges_of rs ss order forward same =
    same_ranges 0 rs (ranges_of ss) (follow_apart 0 rs order (λ d within. omega arith)) (follow-ranges_of ss forward) (λ w. same w ∙ sym (covers-ranges_of ss w forward))
