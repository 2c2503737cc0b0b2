-- The first place of a list that passes a test, as a loop finds it.
use Rattle.std.proofs.Common.{◌≡◌, ℕ, ◌+◌, ◌-◌, ◌<◌, ◌≤◌, Bool, true, false, List, ◌∷◌, length, take, drop, get_or, Option, Some, None, position, refl, ap, ◌∙◌, arith}
use Rattle.std.specs.Prelude.{option_map}
use Rattle.std.specs.List.{position_or_len}
use Rattle.std.proofs.lemmas.Bool.Decides.{nat_tests}
use Rattle.std.proofs.lemmas.List.{get_or-drop, get_or-take, length-drop, length-take-le, drop_more}
use Rattle.std.proofs.lemmas.List.Sums.{position_or_len_is}

-- the first place that passes
pub position_found : {X : Type 0} (p : X → Bool) (xs : List X) (i : ℕ) (d : X) → i < length xs → ((k : ℕ) → k < i → p (get_or xs k d) ≡ false) → p (get_or xs i d) ≡ true → position p xs ≡ Some i
position_found p xs i d lt before here =
    let e : position_or_len p xs ≡ i = position_or_len_is p xs i d (omega arith) before (λ _. here) in
    rw e (grind (arith, nat_tests))

-- no place passes
pub position_none : {X : Type 0} (p : X → Bool) (xs : List X) (d : X) → ((k : ℕ) → k < length xs → p (get_or xs k d) ≡ false) → position p xs ≡ None
position_none p xs d none =
    let e : position_or_len p xs ≡ length xs = position_or_len_is p xs (length xs) d (omega arith) none (λ (h : length xs < length xs). absurd (omega arith)) in
    rw e (grind (arith, nat_tests))

-- the same of what follows the first places
pub position_found_from : {X : Type 0} (p : X → Bool) (xs : List X) (start i : ℕ) (d : X) → start ≤ i → i < length xs → ((k : ℕ) → start ≤ k → k < i → p (get_or xs k d) ≡ false) → p (get_or xs i d) ≡ true
    → option_map (λ k. start + k) (position p (drop start xs)) ≡ Some i
position_found_from p xs start i d le lt before here =
    let at : start + (i - start) ≡ i = omega arith in
    let within : i - start < length (drop start xs) = omega (arith, length-drop start xs) in
    let found : position p (drop start xs) ≡ Some (i - start) =
    position_found p (drop start xs) (i - start) d within
    (λ k h. ap p (get_or-drop start xs k d) ∙ before (start + k) (omega arith) (omega arith))
    (ap p (get_or-drop start xs (i - start) d ∙ ap (λ (k : ℕ). get_or xs k d) at) ∙ here) in
    rw found (ap {B = Option ℕ} (λ (k : ℕ). Some k) at)

-- and where no place passes
pub position_none_from : {X : Type 0} (p : X → Bool) (xs : List X) (start : ℕ) (d : X) → ((k : ℕ) → start ≤ k → k < length xs → p (get_or xs k d) ≡ false) → option_map (λ k. start + k) (position p (drop start xs)) ≡ None
position_none_from p xs start d none =
    let nothing : position p (drop start xs) ≡ None =
    position_none p (drop start xs) d (λ k h. ap p (get_or-drop start xs k d) ∙ none (start + k) (omega arith) (omega (arith, length-drop start xs))) in
    rw nothing refl

-- a place in the front of a list, and what follows it there
pub front_more : {X : Type 0} (xs : List X) (n i : ℕ) (d : X) → i < n → n ≤ length xs → drop i (take n xs) ≡ get_or xs i d ∷ drop (i + 1) (take n xs)
front_more {X} xs n i d lt le =
    let within : i < length (take n xs) = omega (arith, length-take-le n xs le) in
    drop_more (take n xs) i d within ∙ ap (λ (x : X). x ∷ drop (i + 1) (take n xs)) (get_or-take n xs i d lt)

-- the same in a part of a list, from one place on up to another
pub part_more : {X : Type 0} (xs : List X) (start n i : ℕ) (d : X) → start ≤ i → i < n → n ≤ length xs
    → drop (i - start) (take (n - start) (drop start xs)) ≡ get_or xs i d ∷ drop (i + 1 - start) (take (n - start) (drop start xs))
part_more {X} xs start n i d ge lt le =
    let at : start + (i - start) ≡ i = omega arith in
    let next : i - start + 1 ≡ i + 1 - start = omega arith in
    let more = front_more (drop start xs) (n - start) (i - start) d (omega arith) (omega (arith, length-drop start xs)) in
    let here = get_or-drop start xs (i - start) d ∙ ap (λ (k : ℕ). get_or xs k d) at in
    more ∙ ap (λ (x : X). x ∷ drop (i - start + 1) (take (n - start) (drop start xs))) here ∙ ap (λ (k : ℕ). get_or xs i d ∷ drop k (take (n - start) (drop start xs))) next
