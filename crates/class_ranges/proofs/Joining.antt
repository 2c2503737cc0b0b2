-- Ranges of values in order: what they cover, and what stands next in them.
use Rattle.std.proofs.Common.{◌≡◌, ℕ, ◌+◌, ◌<◌, ◌≤◌, max, Bool, true, false, ◌||◌, ◌⊎◌, inl, inr, ⊎_elim, List, [], ◌∷◌, ◌++◌, length, get_or, take, All, refl, sym, ap, ◌∙◌, arith, ltb, ltb-true, ltb-false, length-append}
use Rattle.std.specs.Int.{is_in_range}
use Rattle.std.proofs.Math.ListN.{get_or-append}
use Rattle.std.proofs.Math.Seq.{get_or-append_seam}
use Rattle.std.proofs.lemmas.Bool.{cases_order}
use Rattle.std.proofs.lemmas.Bool.Decides.{nat_tests}
use Rattle.std.proofs.lemmas.List.{get_or_default}
use Rattle.std.proofs.lemmas.List.Elements.{All-push, at_read}
use Rattle.std.proofs.lemmas.List.Folds.{list_any_at, list_any_none, list_any-append, list_any_more}
use Rattle.std.proofs.lemmas.List.Quantifiers.{all_pairs_push}
use Rattle.std.specs.List.Sorted.{IsNonDecreasingBy, IsPartitionPoint}
use Rattle.class_ranges.specs.Ranges.{covers, IsApart}
use Rattle.class_ranges.specs.Runs.{IsRunFrom, HoldsNowhereFrom}

-- a value is in a range
inside : (low high v : ℕ) → low ≤ v → v ≤ high → is_in_range low high v ≡ true
inside low high v above below = grind (arith, nat_tests)

-- a value is below a range, or above it
outside : (low high v : ℕ) → (v < low) ⊎ (high < v) → is_in_range low high v ≡ false
outside low high v apart = grind (arith, nat_tests)

-- a value in the range at some index is covered
pub covers_at : (ranges : List (ℕ × ℕ)) (i v : ℕ) (d : ℕ × ℕ) → i < length ranges → (get_or ranges i d).0 ≤ v → v ≤ (get_or ranges i d).1 → covers ranges v ≡ true
covers_at ranges i v d within above below = list_any_at (λ (range : ℕ × ℕ). is_in_range range.0 range.1 v) ranges i d within (inside (get_or ranges i d).0 (get_or ranges i d).1 v above below)

-- a value outside each range is not covered
pub covers_none : (ranges : List (ℕ × ℕ)) (v : ℕ) → All (λ (range : ℕ × ℕ). (v < range.0) ⊎ (range.1 < v)) ranges → covers ranges v ≡ false
covers_none ranges v apart = list_any_none (λ (range : ℕ × ℕ). is_in_range range.0 range.1 v) ranges (λ k d within. outside (get_or ranges k d).0 (get_or ranges k d).1 v (apart k d within))

-- a place is before another, is that one, or is after it
by_place : (P : Type 0) (k i : ℕ) → (k < i → P) → (k ≡ i → P) → (i < k → P) → P
by_place P k i before same after = ⊎_elim same (λ apart. ⊎_elim before after apart) (cases_order k i)

-- in order, a value is outside each range where it is past the earlier ones, outside this one and below the later ones
apart_at : (ranges : List (ℕ × ℕ)) (i v : ℕ) (range : ℕ × ℕ) → ((d : ℕ × ℕ) → get_or ranges i d ≡ range)
    → ((k : ℕ) (d : ℕ × ℕ) → k < i → (get_or ranges k d).1 < v)
    → (v < range.0) ⊎ (range.1 < v)
    → ((k : ℕ) (d : ℕ × ℕ) → i < k → k < length ranges → v < (get_or ranges k d).0)
    → covers ranges v ≡ false
apart_at ranges i v range here before at after = covers_none ranges v (λ k d within.
    by_place ((v < (get_or ranges k d).0) ⊎ ((get_or ranges k d).1 < v)) k i
    (λ earlier. inr (before k d earlier))
    (λ same. rw (same, here d) at)
    (λ later. inl (after k d later within)))

-- in order, the last values of the ranges rise
pub ends_rise : (ranges : List (ℕ × ℕ)) → IsApart ranges → IsNonDecreasingBy (λ (range : ℕ × ℕ). range.1) ranges
ends_rise ranges order i j d upto within =
    by_place ((get_or ranges i d).1 ≤ (get_or ranges j d).1) i j
    (λ earlier. omega (arith, order.apart i j d earlier within, order.forward j d within))
    (λ same. rw same (omega arith))
    (λ later. absurd (omega arith))

-- in order, each range before the last one ends before it, with a gap
gap_last : (ranges : List (ℕ × ℕ)) (last : ℕ × ℕ) → IsApart (ranges ++ last ∷ []) → (k : ℕ) (d : ℕ × ℕ) → k < length ranges → (get_or ranges k d).1 + 1 < last.0
gap_last ranges last order k d within =
    let front : get_or (ranges ++ last ∷ []) k d ≡ get_or ranges k d = get_or-append ranges (last ∷ []) d k within in
    let back : get_or (ranges ++ last ∷ []) (length ranges) d ≡ last = get_or-append_seam ranges last [] d in
    rw (front, back) at (order.apart k (length ranges) d within (omega (arith, length-append ranges (last ∷ []))))

-- the ranges before the last one are in order too
order_front : (ranges : List (ℕ × ℕ)) (last : ℕ × ℕ) → IsApart (ranges ++ last ∷ []) → IsApart ranges
order_front ranges last order = record {
  forward = λ k d within. rw (get_or-append ranges (last ∷ []) d k within) at (order.forward k d (omega (arith, length-append ranges (last ∷ []))));
  apart = λ i j d earlier within.
      let low : get_or (ranges ++ last ∷ []) i d ≡ get_or ranges i d = get_or-append ranges (last ∷ []) d i (omega arith) in
      let high : get_or (ranges ++ last ∷ []) j d ≡ get_or ranges j d = get_or-append ranges (last ∷ []) d j within in
      rw (low, high) at (order.apart i j d earlier (omega (arith, length-append ranges (last ∷ []))));
}

-- one more range, past a gap
order_push : (ranges : List (ℕ × ℕ)) (next : ℕ × ℕ) → IsApart ranges → next.0 ≤ next.1
    → ((k : ℕ) (d : ℕ × ℕ) → k < length ranges → (get_or ranges k d).1 + 1 < next.0) → IsApart (ranges ++ next ∷ [])
order_push ranges next order forward gap = record {
  forward = All-push (λ (range : ℕ × ℕ). range.0 ≤ range.1) ranges next order.forward forward;
  apart = all_pairs_push (λ (range after : ℕ × ℕ). range.1 + 1 < after.0) ranges next order.apart gap;
}

-- in order, a value past a gap after the last range is past a gap after each
gap_past : (ranges : List (ℕ × ℕ)) (last : ℕ × ℕ) (value : ℕ) → IsApart (ranges ++ last ∷ []) → last.1 + 1 < value
    → (k : ℕ) (d : ℕ × ℕ) → k < length (ranges ++ last ∷ []) → (get_or (ranges ++ last ∷ []) k d).1 + 1 < value
gap_past ranges last value order gap k d within =
    let long : length (ranges ++ last ∷ []) ≡ length ranges + 1 = length-append ranges (last ∷ []) in
    let back : get_or (ranges ++ last ∷ []) (length ranges) d ≡ last = get_or-append_seam ranges last [] d in
    let upto : (get_or (ranges ++ last ∷ []) k d).1 ≤ last.1 = rw back at (ends_rise (ranges ++ last ∷ []) order k (length ranges) d (omega arith) (omega arith)) in
    omega arith

-- a range that is lengthened by one which it meets has the values of both
run_longer : (first last start end w : ℕ) → first ≤ last → first ≤ start → start ≤ last + 1 → start ≤ end → is_in_range first (max last end) w ≡ (is_in_range first last w || is_in_range start end w)
run_longer first last start end w forward behind near part = grind (arith, nat_tests)

-- a test more on one side of an equation of tests, and on the other
or_step : (a b c s : Bool) → a ≡ (b || c) → (a || (s || false)) ≡ (b || (c || s))
or_step a true c s h = rw h refl
or_step a false true s h = rw h refl
or_step a false false true h = rw h refl
or_step a false false false h = rw h refl

-- the same, where the test widens one that is there
or_more : (a r s b c : Bool) → (a || (r || false)) ≡ (b || c) → (a || ((r || s) || false)) ≡ (b || (c || s))
or_more true r s b c h = or_step true b c s h
or_more false true s b c h = or_step true b c s h
or_more false false s b c h = or_step false b c s h

-- what the loop that joins ranges keeps: those that are closed and the open one cover the start and the ranges so far, and the open one begins before the others
pub record IsJoined (start : ℕ × ℕ) (ranges : List (ℕ × ℕ)) (first last : ℕ) (parts : List (ℕ × ℕ)) (index : ℕ) : Type 0 where
  pub forward : first ≤ last
  pub order : IsApart (ranges ++ (first, last) ∷ [])
  pub covered : (w : ℕ) → covers (ranges ++ (first, last) ∷ []) w ≡ (is_in_range start.0 start.1 w || covers (take index parts) w)
  pub behind : (k : ℕ) (d : ℕ × ℕ) → index ≤ k → k < length parts → first ≤ (get_or parts k d).0

-- at first that is the start alone
pub joined_none : (start : ℕ × ℕ) (parts : List (ℕ × ℕ)) → start.0 ≤ start.1 → ((k : ℕ) (d : ℕ × ℕ) → k < length parts → start.0 ≤ (get_or parts k d).0) → IsJoined start [] start.0 start.1 parts 0
joined_none start parts forward behind = record {
  forward = forward;
  order = order_push [] start (record { forward = λ k d within. absurd (omega arith); apart = λ i j d earlier within. absurd (omega arith) }) forward (λ k d within. absurd (omega arith));
  covered = λ w. refl;
  behind = λ k d from within. behind k d within;
}

-- the values of one more range
covers_more : (parts : List (ℕ × ℕ)) (index : ℕ) (part : ℕ × ℕ) (d : ℕ × ℕ) (w : ℕ) → index < length parts → part ≡ get_or parts index d → covers (take (index + 1) parts) w ≡ (covers (take index parts) w || is_in_range part.0 part.1 w)
covers_more parts index part d w within is =
    list_any_more (λ (range : ℕ × ℕ). is_in_range range.0 range.1 w) parts index d within ∙ ap (λ (range : ℕ × ℕ). covers (take index parts) w || is_in_range range.0 range.1 w) (sym is)

-- ranges in order of their first values: those behind one begin no earlier
starts_behind : (parts : List (ℕ × ℕ)) (index : ℕ) (part : ℕ × ℕ) (e : ℕ × ℕ) → IsNonDecreasingBy (λ (range : ℕ × ℕ). range.0) parts → index < length parts → part ≡ get_or parts index e → (k : ℕ) (d : ℕ × ℕ) → index + 1 ≤ k → k < length parts → part.0 ≤ (get_or parts k d).0
starts_behind parts index part e sorted within is k d from in_parts =
    let here : get_or parts index d ≡ part = get_or_default parts index d e within ∙ sym is in
    omega (arith, sorted index k d (omega arith) in_parts, ap (λ (range : ℕ × ℕ). range.0) here)

-- a range past a gap closes the open one and is the next
pub joined_apart : (start : ℕ × ℕ) (ranges : List (ℕ × ℕ)) (first last : ℕ) (parts : List (ℕ × ℕ)) (index : ℕ) (part e : ℕ × ℕ) → IsNonDecreasingBy (λ (range : ℕ × ℕ). range.0) parts
    → index < length parts → part ≡ get_or parts index e → part.0 ≤ part.1 → last + 1 < part.0
    → IsJoined start ranges first last parts index → IsJoined start (ranges ++ (first, last) ∷ []) part.0 part.1 parts (index + 1)
joined_apart start ranges first last parts index part e sorted within is whole gap before = record {
  forward = whole;
  order = order_push (ranges ++ (first, last) ∷ []) part before.order whole (gap_past ranges (first, last) part.0 before.order gap);
  covered = λ w.
      let pushed = list_any-append (λ (range : ℕ × ℕ). is_in_range range.0 range.1 w) (ranges ++ (first, last) ∷ []) (part ∷ []) in
      rw (pushed, covers_more parts index part e w within is) (or_step (covers (ranges ++ (first, last) ∷ []) w) (is_in_range start.0 start.1 w) (covers (take index parts) w) (is_in_range part.0 part.1 w) (before.covered w));
  behind = starts_behind parts index part e sorted within is;
}

-- a range that meets the open one lengthens it
pub joined_near : (start : ℕ × ℕ) (ranges : List (ℕ × ℕ)) (first last : ℕ) (parts : List (ℕ × ℕ)) (index : ℕ) (part e : ℕ × ℕ) → IsNonDecreasingBy (λ (range : ℕ × ℕ). range.0) parts
    → index < length parts → part ≡ get_or parts index e → part.0 ≤ part.1 → part.0 ≤ last + 1
    → IsJoined start ranges first last parts index → IsJoined start ranges first (max last part.1) parts (index + 1)
joined_near start ranges first last parts index part e sorted within is whole near before =
    let begun : first ≤ part.0 = rw (← is) at (before.behind index e (omega arith) within) in
    record {
      forward = omega (arith, before.forward);
      order = order_push ranges (first, max last part.1) (order_front ranges (first, last) before.order) (omega (arith, before.forward)) (gap_last ranges (first, last) before.order);
      covered = λ w.
          let pushed = list_any-append (λ (range : ℕ × ℕ). is_in_range range.0 range.1 w) ranges ((first, max last part.1) ∷ []) in
          let old : (covers ranges w || (is_in_range first last w || false)) ≡ (is_in_range start.0 start.1 w || covers (take index parts) w) =
          sym (list_any-append (λ (range : ℕ × ℕ). is_in_range range.0 range.1 w) ranges ((first, last) ∷ [])) ∙ before.covered w in
          rw (pushed, covers_more parts index part e w within is, run_longer first last part.0 part.1 w before.forward begun near whole)
          (or_more (covers ranges w) (is_in_range first last w) (is_in_range part.0 part.1 w) (is_in_range start.0 start.1 w) (covers (take index parts) w) old);
      behind = λ k d from in_parts. omega (arith, starts_behind parts index part e sorted within is k d from in_parts);
    }

-- where each range ends before a value, nothing from it on is covered
covers_nothing : (ranges : List (ℕ × ℕ)) (w : ℕ) → All (λ (range : ℕ × ℕ). range.1 < w) ranges → HoldsNowhereFrom (covers ranges) w
covers_nothing ranges w before = λ v above. covers_none ranges v (λ k d within. let end : (get_or ranges k d).1 < w = before k d within in inr (omega arith))

-- the first range that does not end before a value has the next run
run_at : (ranges : List (ℕ × ℕ)) (w i : ℕ) (range : ℕ × ℕ) → IsApart ranges → i < length ranges → range ≡ get_or ranges i range
    → ((k : ℕ) (d : ℕ × ℕ) → k < i → (get_or ranges k d).1 < w) → w ≤ range.1 → IsRunFrom (covers ranges) w (max range.0 w) range.1
run_at ranges w i range order within is before end =
    let here : (d : ℕ × ℕ) → get_or ranges i d ≡ range = at_read ranges (λ (r : ℕ × ℕ). r ≡ range) i range within is refl in
    let forward : range.0 ≤ range.1 = rw (here range) at (order.forward i range within) in
    let past : (k : ℕ) (d : ℕ × ℕ) → i < k → k < length ranges → range.1 + 1 < (get_or ranges k d).0 =
    λ k d after in_ranges. rw (here d) at (order.apart i k d after in_ranges) in
    let gap : (k : ℕ) (d : ℕ × ℕ) → k < i → (get_or ranges k d).1 + 1 < range.0 =
    λ k d earlier. rw (here d) at (order.apart k i d earlier within) in
    record {
      within = (omega arith, omega arith);
      least = λ v above below. apart_at ranges i v range here
          (λ k d earlier. omega (arith, before k d earlier))
          (inl (omega arith))
          (λ k d later in_ranges. omega (arith, past k d later in_ranges));
      unbroken = λ v above below. covers_at ranges i v range within (rw (here range) (omega arith)) (rw (here range) below);
      whole = apart_at ranges i (range.1 + 1) range here
          (λ k d earlier. omega (arith, gap k d earlier))
          (inr (omega arith))
          (λ k d later in_ranges. past k d later in_ranges);
    }

-- a search for the first range that does not end before a value finds none, so nothing is left
pub none_next : (ranges : List (ℕ × ℕ)) (w i : ℕ)
    → IsPartitionPoint (λ (range : ℕ × ℕ). ltb range.1 w ≡ true) (λ (range : ℕ × ℕ). ltb range.1 w ≡ false) ranges i
    → i ≡ length ranges → HoldsNowhereFrom (covers ranges) w
none_next ranges w i point end = covers_nothing ranges w (λ k d within. ltb-true (get_or ranges k d).1 w (point.0 k d (omega arith) (omega arith)))

-- it finds one, and that range, from the value on, is the next run
pub some_next : (ranges : List (ℕ × ℕ)) (w i : ℕ) (range : ℕ × ℕ) → IsApart ranges
    → IsPartitionPoint (λ (range : ℕ × ℕ). ltb range.1 w ≡ true) (λ (range : ℕ × ℕ). ltb range.1 w ≡ false) ranges i
    → i < length ranges → range ≡ get_or ranges i range → IsRunFrom (covers ranges) w (max range.0 w) range.1
some_next ranges w i range order point within is =
    let end : ltb range.1 w ≡ false = rw (← is) at (point.1 i range (omega arith) within) in
    run_at ranges w i range order within is (λ k d earlier. ltb-true (get_or ranges k d).1 w (point.0 k d (omega arith) earlier)) (ltb-false range.1 w end)
