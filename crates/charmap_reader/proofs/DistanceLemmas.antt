-- How far one number of decimal digits is above another.
use Rattle.std.proofs.Common.{◌≡◌, ℕ, ◌+◌, ◌-◌, ◌*◌, ◌<◌, ◌≤◌, min, cond, ltb, List, length, get_or, take, Option, Some, None, refl, sym, ap, ◌∙◌, arith, ⊎_elim}
use Rattle.std.specs.Str.Parse.{AllDigits, digits_value}
use Rattle.std.proofs.lemmas.Bool.{cases_lt}
use Rattle.std.proofs.lemmas.Bool.Decides.{nat_tests}
use Rattle.std.proofs.lemmas.Int.Digits.{digits_value_more}
use Rattle.std.proofs.lemmas.Str.{digit_value_digit}
use Rattle.std.proofs.lemmas.Str.Parse.{digit_at}
use Rattle.charmap_reader.specs.Distances.{digit_at as place_value, distance_after}

-- the value of the digits in front of a place, counted from the last digit
abbrev pub front_value : List ℕ → ℕ → ℕ
front_value ds place = digits_value 10 (take (length ds - place) ds)

-- what the digit at a place is, as a byte
place_value_is : (ds : List ℕ) (place : ℕ) → 0 < place → place ≤ length ds → place_value ds place ≡ get_or ds (length ds - place) 0 - 48
place_value_is ds place some within = grind (arith, nat_tests)

-- a place in front of the first digit counts 0
place_value_past : (ds : List ℕ) (place : ℕ) → length ds < place → place_value ds place ≡ 0
place_value_past ds place past = grind (arith, nat_tests)

-- a digit's value is below 10
pub place_value-small : (ds : List ℕ) (place : ℕ) → AllDigits 10 ds → 0 < place → place_value ds place < 10
place_value-small ds place all some = ⊎_elim
    (λ past. omega (arith, place_value_past ds place past))
    (λ within.
    let range = digit_at ds (length ds - place) all (omega arith) in
    omega (arith, place_value_is ds place some within, range.0, range.1))
    (cases_lt (length ds) place)

-- one digit more in front of the next place
pub front_value_more : (ds : List ℕ) (place : ℕ) → AllDigits 10 ds → 0 < place → front_value ds (place - 1) ≡ front_value ds place * 10 + place_value ds place
front_value_more ds place all some = ⊎_elim
    (λ past.
    let here : length ds - place ≡ 0 = omega arith in
    let next : length ds - (place - 1) ≡ 0 = omega arith in
    let none : front_value ds place ≡ 0 = ap (λ k. digits_value 10 (take k ds)) here in
    let still : front_value ds (place - 1) ≡ 0 = ap (λ k. digits_value 10 (take k ds)) next in
    omega (arith, place_value_past ds place past))
    (λ within.
    let k = length ds - place in
    let next : length ds - (place - 1) ≡ k + 1 = omega arith in
    let range = digit_at ds k all (omega arith) in
    rw next (omega (arith, digits_value_more 10 ds k (omega arith), place_value_is ds place some within, digit_value_digit (get_or ds k 0) range)))
    (cases_lt (length ds) place)

-- how far one number is above another, up to 2 ^ 32, or none where it is below
abbrev pub far : ℕ → ℕ → Option ℕ
far first last = cond (ltb last first) None (Some (min (last - first) 4294967296))

-- a number that is below another has no distance to it
far_below : (a b : ℕ) → b < a → far a b ≡ None
far_below a b below = grind (arith, nat_tests)

-- the distance of a number that is not below
far_above : (a b : ℕ) → a ≤ b → far a b ≡ Some (min (b - a) 4294967296)
far_above a b above = grind (arith, nat_tests)

-- the distance after one more digit that makes the second number less
after_below : (d x y : ℕ) → d * 10 + y < x → distance_after (Some d) x y ≡ None
after_below d x y below = grind (arith, nat_tests)

-- the distance after one more digit that does not
after_above : (d x y : ℕ) → x ≤ d * 10 + y → distance_after (Some d) x y ≡ Some (min (d * 10 + y - x) 4294967296)
after_above d x y above = grind (arith, nat_tests)

-- one digit more of both numbers
pub far_more : (a b x y : ℕ) → x < 10 → y < 10 → distance_after (far a b) x y ≡ far (a * 10 + x) (b * 10 + y)
far_more a b x y small_x small_y = ⊎_elim
    (λ below. rw (far_below a b below, far_below (a * 10 + x) (b * 10 + y) (omega arith)) refl)
    (λ above. rw (far_above a b above) (⊎_elim
    (λ below. after_below _ x y (omega arith) ∙ sym (far_below (a * 10 + x) (b * 10 + y) below))
    (λ over. after_above _ x y (omega arith) ∙ ap (λ d. Some d) (omega arith) ∙ sym (far_above (a * 10 + x) (b * 10 + y) over))
    (cases_lt (b * 10 + y) (a * 10 + x))))
    (cases_lt b a)

-- the distance so far, after the digits at one more place
pub distance_more : (first last : List ℕ) (longest i : ℕ) (so_far next : Option ℕ) (x y : ℕ) → AllDigits 10 first → AllDigits 10 last → i < longest → so_far ≡ far (front_value first (longest - i)) (front_value last (longest - i)) → x ≡ place_value first (longest - i) → y ≡ place_value last (longest - i) → next ≡ distance_after so_far x y → next ≡ far (front_value first (longest - (i + 1))) (front_value last (longest - (i + 1)))
distance_more first last longest i so_far next x y all_first all_last more so_far_is x_is y_is next_is =
    let place = longest - i in
    let less : longest - (i + 1) ≡ place - 1 = omega arith in
    let step = far_more (front_value first place) (front_value last place) (place_value first place) (place_value last place) (place_value-small first place all_first (omega arith)) (place_value-small last place all_last (omega arith)) in
    let first_more = front_value_more first place all_first (omega arith) in
    let last_more = front_value_more last place all_last (omega arith) in
    rw (next_is, so_far_is, x_is, y_is, less, first_more, last_more) step
