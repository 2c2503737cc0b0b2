-- Numbers written in digits with zeros in front, and the number after such a one.
use Rattle.std.proofs.Common.{◌≡◌, ℕ, zero, suc, ◌+◌, ◌-◌, ◌*◌, ◌/◌, ◌%◌, ◌<◌, ◌≤◌, ◌≢◌, true, ◌⊎◌, List, [], ◌∷◌, ◌++◌, length, get_or, take, reverse, map, replicate, refl, sym, ap, ◌∙◌, arith, ⊎_elim}
use Rattle.std.specs.Char.{digit_value, is_ascii_digit}
use Rattle.std.specs.Int.{IsInRange}
use Rattle.std.specs.Int.Digits.{digits_of}
use Rattle.std.specs.List.{take_while}
use Rattle.std.specs.Str.Parse.{AllDigits, digits_value}
use Rattle.std.proofs.lemmas.Bool.{cases_lt}
use Rattle.std.proofs.lemmas.Bool.Decides.{nat_tests}
use Rattle.std.proofs.lemmas.List.{append-nil, append_assoc, get_or-take, length-take-le, length_push, map_push, nil_from_length, take-append-drop, take_more, take_all, replicate_more, same_from_push}
use Rattle.std.proofs.lemmas.Int.Digits.{digits_of_step, digits_value_more, digits_push}
use Rattle.std.proofs.lemmas.Str.{digit_value_digit}
use Rattle.std.proofs.lemmas.Str.Parse.{digit_at}
use Rattle.charset.specs.Numbering.{padded}
use Rattle.charset.proofs.DigitLemmas.{nine, nines_are, before_nines, front_digits}

-- digits with zeros in front where they are fewer than so many
abbrev pad : ℕ → List ℕ → List ℕ
pad width ds = replicate (width - length ds) 48 ++ ds

-- zeros in front, and one more digit at the end
pad_push : (width : ℕ) (ds : List ℕ) (c : ℕ) → pad width (ds ++ c ∷ []) ≡ pad (width - 1) ds ++ c ∷ []
pad_push width ds c =
    let zeros : width - length (ds ++ c ∷ []) ≡ width - 1 - length ds = omega (arith, length_push ds c) in
    rw zeros (sym (append_assoc (replicate (width - 1 - length ds) 48) ds (c ∷ [])))

-- no digits but zeros
pad_none : (width : ℕ) → pad width [] ≡ replicate width 48
pad_none width = let whole : width - 0 ≡ width = omega arith in ap (λ k. replicate k 48 ++ []) whole ∙ append-nil (replicate width 48)

-- the digits of a number as bytes, with zeros in front
padded_is : (width n : ℕ) → padded width n ≡ pad width (map (λ d. 48 + d) (digits_of 10 n))
unfolding padded
padded_is width n = refl

-- the digits of 0 are zeros
padded_zeros : (width : ℕ) → padded width 0 ≡ replicate width 48
padded_zeros width = padded_is width 0 ∙ pad_none width

-- the digits of a number are those of its tenth, and one more
pub padded_step : (width n : ℕ) → 0 < width + n → padded width n ≡ padded (width - 1) (n / 10) ++ (48 + n % 10) ∷ []
padded_step width zero some =
    let one_more : width - 1 + 1 ≡ width = omega arith in
    padded_zeros width ∙ ap (λ k. replicate k 48) (sym one_more) ∙ sym (replicate_more (width - 1) 48) ∙ ap (λ ds. ds ++ 48 ∷ []) (sym (padded_zeros (width - 1)))
padded_step width (suc m) some =
    padded_is width (suc m) ∙
    ap (λ ds. pad width (map (λ d. 48 + d) ds)) (digits_of_step 10 (suc m) (omega arith) (omega arith)) ∙
    ap (pad width) (map_push (λ d. 48 + d) (digits_of 10 (suc m / 10)) (suc m % 10)) ∙
    pad_push width (map (λ d. 48 + d) (digits_of 10 (suc m / 10))) (48 + suc m % 10) ∙
    ap (λ ds. ds ++ (48 + suc m % 10) ∷ []) (sym (padded_is (width - 1) (suc m / 10)))

-- 48 and a digit is a decimal digit
pub digit_byte : (d : ℕ) → d < 10 → (is_ascii_digit (48 + d) ≡ true) × (digit_value (48 + d) < 10)
digit_byte d small = (grind (arith, nat_tests), grind (arith, nat_tests))

-- a number of some digits ends in a digit
pub padded_ends : (width n : ℕ) → 0 < width → (front : List ℕ) × (c : ℕ) × (padded width n ≡ front ++ c ∷ []) × (is_ascii_digit c ≡ true)
padded_ends width n some = (padded (width - 1) (n / 10), 48 + n % 10, padded_step width n (omega arith), (digit_byte (n % 10) (omega arith)).0)

-- the digits of a number are decimal digits, by how large it is
pub digits_by : (turns width n : ℕ) → width + n ≤ turns → AllDigits 10 (padded width n)
digits_by zero width n within =
    let none : width ≡ 0 = omega arith in
    let nothing : n ≡ 0 = omega arith in
    rw (none, nothing, padded_zeros 0) tt
digits_by (suc turns) width n within = ⊎_elim
    (λ some. rw (padded_step width n some) (digits_push 10 (padded (width - 1) (n / 10)) (48 + n % 10) (digits_by turns (width - 1) (n / 10) (omega arith)) (digit_byte (n % 10) (omega arith)).1))
    (λ none. digits_by turns width n (omega arith))
    (cases_lt 0 (width + n))

-- the first of some decimal digits are those of their value
own_front : (ds : List ℕ) → AllDigits 10 ds → (i : ℕ) → i ≤ length ds → padded i (digits_value 10 (take i ds)) ≡ take i ds
own_front ds all zero within = padded_zeros 0
own_front ds all (suc i) within =
    let range = digit_at ds i all (omega arith) in
    let c = get_or ds i 0 in
    let v = digits_value 10 (take i ds) in
    let digit = digit_value_digit c range in
    let next : suc i ≡ i + 1 = omega arith in
    let value : digits_value 10 (take (i + 1) ds) ≡ v * 10 + digit_value c = digits_value_more 10 ds i (omega arith) in
    let front : (v * 10 + digit_value c) / 10 ≡ v = omega (arith, range.1) in
    let byte : 48 + (v * 10 + digit_value c) % 10 ≡ c = omega (arith, range.1) in
    let own : padded i v ≡ take i ds = own_front ds all i (omega arith) in
    let one_less : i + 1 - 1 ≡ i = omega arith in
    rw (next, value) (padded_step (i + 1) (v * 10 + digit_value c) (omega arith) ∙ rw (one_less, front, byte, own) (sym (take_more ds i 0 (omega arith))))

-- decimal digits are those of their value, at their own width
pub padded_own : (ds : List ℕ) → AllDigits 10 ds → padded (length ds) (digits_value 10 ds) ≡ ds
padded_own ds all = rw (take_all (length ds) ds (omega arith)) at (own_front ds all (length ds) (omega arith))

-- a number with a digit, as its digits in front and the last
pub last_digit : (width n : ℕ) (front : List ℕ) (c : ℕ) → padded width n ≡ front ++ c ∷ [] → (0 < width + n) × (padded (width - 1) (n / 10) ≡ front) × (48 + n % 10 ≡ c)
last_digit width n front c e = ⊎_elim
    (λ some. let parts = same_from_push (padded (width - 1) (n / 10)) front (48 + n % 10) c (sym (padded_step width n some) ∙ e) in (some, parts.0, parts.1))
    (λ none.
    let no_width : width ≡ 0 = omega arith in
    let nothing : n ≡ 0 = omega arith in
    let empty : padded width n ≡ [] = rw (no_width, nothing) (padded_zeros 0) in
    absurd (omega (arith, ap length (sym empty ∙ e), length_push front c)))
    (cases_lt 0 (width + n))

-- where the last digit is below 9, the next number has the next digit there
pub padded_next : (width n : ℕ) (front : List ℕ) (c : ℕ) → c ≢ 57 → padded width n ≡ front ++ c ∷ [] → padded width (n + 1) ≡ front ++ (c + 1) ∷ []
padded_next width n front c not_nine e =
    let parts = last_digit width n front c e in
    let tenth : (n + 1) / 10 ≡ n / 10 = omega (arith, parts.2) in
    let digit : 48 + (n + 1) % 10 ≡ c + 1 = omega (arith, parts.2) in
    padded_step width (n + 1) (omega arith) ∙ rw (tenth, digit, parts.1) refl

-- where there is no digit, the next number is 1
pub padded_first : (width n : ℕ) → padded width n ≡ [] → padded width (n + 1) ≡ 49 ∷ []
padded_first width n e = ⊎_elim
    (λ some. absurd (omega (arith, ap length (sym (padded_step width n some) ∙ e), length_push (padded (width - 1) (n / 10)) (48 + n % 10))))
    (λ none.
    let no_width : width ≡ 0 = omega arith in
    let nothing : n ≡ 0 = omega arith in
    let some : 0 < 0 + 1 = omega arith in
    let one : padded 0 1 ≡ 49 ∷ [] = padded_step 0 1 some ∙ ap (λ ds. ds ++ 49 ∷ []) (padded_zeros 0) in
    rw (no_width, nothing) one)
    (cases_lt 0 (width + n))

-- one more of what a list ends in
ends_more : (front : List ℕ) (c k : ℕ) → front ++ replicate (suc k) c ≡ (front ++ replicate k c) ++ c ∷ []
ends_more front c k =
    let more : suc k ≡ k + 1 = omega arith in
    ap (λ m. front ++ replicate m c) more ∙ ap (λ ds. front ++ ds) (sym (replicate_more k c)) ∙ sym (append_assoc front (replicate k c) (c ∷ []))

-- the nines that a number ends in become zeros
pub padded_carried : (k width n : ℕ) (front after : List ℕ) → ((w m : ℕ) → padded w m ≡ front → padded w (m + 1) ≡ after) → padded width n ≡ front ++ replicate k 57 → padded width (n + 1) ≡ after ++ replicate k 48
padded_carried zero width n front after next e = next width n (e ∙ append-nil front) ∙ sym (append-nil after)
padded_carried (suc k) width n front after next e =
    let nines : front ++ replicate (suc k) 57 ≡ (front ++ replicate k 57) ++ 57 ∷ [] = ends_more front 57 k in
    let parts = last_digit width n (front ++ replicate k 57) 57 (e ∙ nines) in
    let tenth : (n + 1) / 10 ≡ n / 10 + 1 = omega (arith, parts.2) in
    let digit : 48 + (n + 1) % 10 ≡ 48 = omega (arith, parts.2) in
    let carried = padded_carried k (width - 1) (n / 10) front after next parts.1 in
    padded_step width (n + 1) (omega arith) ∙
    rw (tenth, digit, carried) (sym (ends_more after 48 k))

-- the number after one whose last digits are nines, and the one before them is not
padded_after : (k width n : ℕ) (front : List ℕ) (c : ℕ) → c ≢ 57 → padded width n ≡ (front ++ c ∷ []) ++ replicate k 57 → padded width (n + 1) ≡ (front ++ (c + 1) ∷ []) ++ replicate k 48
padded_after k width n front c not_nine e = padded_carried k width n (front ++ c ∷ []) (front ++ (c + 1) ∷ []) (λ w m own. padded_next w m front c not_nine own) e

-- the number after one of nines alone
padded_after_nines : (k width n : ℕ) → padded width n ≡ replicate k 57 → padded width (n + 1) ≡ (49 ∷ []) ++ replicate k 48
padded_after_nines k width n e = padded_carried k width n [] (49 ∷ []) padded_first e

-- decimal digits and zeros after them
zeros_after : (ds : List ℕ) (k : ℕ) → AllDigits 10 ds → AllDigits 10 (ds ++ replicate k 48)
zeros_after ds zero all = rw (append-nil ds) all
zeros_after ds (suc k) all = rw (ends_more ds 48 k) (digits_push 10 (ds ++ replicate k 48) 48 (zeros_after ds k all) (digit_byte 0 (omega arith)).1)

-- the front of a number before its nines, with its last digit raised, or 1 where there is none
abbrev pub IsRaised : List ℕ → List ℕ → Type 0
IsRaised front raised = ((length front ≡ 0) × (raised ≡ 49 ∷ [])) ⊎ ((0 < length front) × (raised ≡ take (length front - 1) front ++ (get_or front (length front - 1) 0 + 1) ∷ []))

-- digits as those before their nines, and these
front_and_nines : (ds : List ℕ) (k : ℕ) → k ≡ length (take_while nine (reverse ds)) → ds ≡ take (length ds - k) ds ++ replicate k 57
front_and_nines ds k count = sym (take-append-drop (length ds - k) ds) ∙ ap (λ nines. take (length ds - k) ds ++ nines) (nines_are ds k count)

-- a list with an element, as those in front and the last
front_and_last : (ds : List ℕ) → 0 < length ds → ds ≡ take (length ds - 1) ds ++ get_or ds (length ds - 1) 0 ∷ []
front_and_last ds some =
    let whole : length ds ≤ length ds - 1 + 1 = omega arith in
    sym (take_all (length ds - 1 + 1) ds whole) ∙ take_more ds (length ds - 1) 0 (omega arith)

-- the last digit before the nines is a digit below 9
pub last_before : (ds : List ℕ) (k : ℕ) (front : List ℕ) → AllDigits 10 ds → k ≡ length (take_while nine (reverse ds)) → front ≡ take (length ds - k) ds → 0 < length front → IsInRange 48 56 (get_or front (length front - 1) 0)
last_before ds k front all count front_is some =
    let n = length ds - k in
    let short : length front ≡ n = ap length front_is ∙ length-take-le n ds (omega arith) in
    let within : n - 1 < n = omega arith in
    let c = get_or ds (n - 1) 0 in
    let range = digit_at ds (n - 1) all (omega arith) in
    let other : c ≢ 57 = before_nines ds k count (omega arith) in
    let below : IsInRange 48 56 c = (range.0, omega (arith, range.1)) in
    rw (short, front_is, get_or-take n ds (n - 1) 0 within) below

-- the digits of the next number, from those of a number
pub raised_next : (ds : List ℕ) (k : ℕ) (front raised : List ℕ) → AllDigits 10 ds → k ≡ length (take_while nine (reverse ds)) → front ≡ take (length ds - k) ds → IsRaised front raised → (width n : ℕ) → ds ≡ padded width n → raised ++ replicate k 48 ≡ padded width (n + 1)
raised_next ds k front raised all count front_is how width n own =
    let parts = sym own ∙ front_and_nines ds k count ∙ ap (λ f. f ++ replicate k 57) (sym front_is) in
    ⊎_elim
    (λ (none : (length front ≡ 0) × (raised ≡ 49 ∷ [])).
    let empty : front ≡ [] = nil_from_length front none.0 in
    ap (λ r. r ++ replicate k 48) none.1 ∙ sym (padded_after_nines k width n (parts ∙ ap (λ f. f ++ replicate k 57) empty)))
    (λ (some : (0 < length front) × (raised ≡ take (length front - 1) front ++ (get_or front (length front - 1) 0 + 1) ∷ [])).
    let c = get_or front (length front - 1) 0 in
    let range = last_before ds k front all count front_is some.0 in
    let other : c ≢ 57 = omega (arith, range.1) in
    ap (λ r. r ++ replicate k 48) some.1 ∙ sym (padded_after k width n (take (length front - 1) front) c other (parts ∙ ap (λ f. f ++ replicate k 57) (front_and_last front some.0))))
    how

-- these are all decimal digits
pub raised_digits : (ds : List ℕ) (k : ℕ) (front raised : List ℕ) → AllDigits 10 ds → k ≡ length (take_while nine (reverse ds)) → front ≡ take (length ds - k) ds → IsRaised front raised → AllDigits 10 (raised ++ replicate k 48)
raised_digits ds k front raised all count front_is how =
    let front_all : AllDigits 10 front = rw front_is (front_digits ds (length ds - k) all) in
    zeros_after raised k (⊎_elim
    (λ (none : (length front ≡ 0) × (raised ≡ 49 ∷ [])). rw (none.1) ((digit_byte 1 (omega arith)).1, tt))
    (λ (some : (0 < length front) × (raised ≡ take (length front - 1) front ++ (get_or front (length front - 1) 0 + 1) ∷ [])).
    let c = get_or front (length front - 1) 0 in
    let range = last_before ds k front all count front_is some.0 in
    let byte : 48 + (c - 47) ≡ c + 1 = omega (arith, range.0) in
    let digit : digit_value (c + 1) < 10 = rw (← byte) (digit_byte (c - 47) (omega (arith, range.1))).1 in
    rw (some.1) (digits_push 10 (take (length front - 1) front) (c + 1) (front_digits front (length front - 1) front_all) digit))
    how)
