-- Names as fronts and tails.
use Rattle.std.proofs.Common.{◌≡◌, ℕ, zero, suc, ◌+◌, ◌-◌, ◌*◌, ◌/◌, ◌%◌, ◌^◌, ◌<◌, ◌≤◌, min, true, List, [], ◌∷◌, ◌++◌, length, get_or, take, drop, reverse, refl, sym, ap, ◌∙◌, arith, length-append}
use Rattle.std.specs.Char.{digit_value, is_ascii_digit}
use Rattle.std.specs.List.{prefix_len}
use Rattle.std.specs.Str.Parse.{AllDigits, digits_value}
use Rattle.std.proofs.Math.Nat.{pow-suc, pow-le-pow_right}
use Rattle.std.proofs.Math.Seq.{take-append_seam, drop-append_seam}
use Rattle.std.proofs.lemmas.List.{append_assoc, append-nil, get_or-drop, length-drop, length-reverse, length_push, reverse-append, take-append-drop, take_all, length-take}
use Rattle.std.proofs.lemmas.List.Folds.{length-prefix_len}
use Rattle.std.proofs.lemmas.List.Sums.{prefix_len-le-length}
use Rattle.std.proofs.lemmas.Int.Digits.{digits_value-lt, digits_value_push, digits_value_more}
use Rattle.std.proofs.lemmas.Str.{digit_value_digit}
use Rattle.std.proofs.lemmas.Str.Parse.{digit_at}
use Rattle.charset.specs.Portable.{Name}
use Rattle.charset.specs.Numbering.{digit_count, digits, number, padded}
use Rattle.charset.specs.Tails.{tail_width, front, tail, tail_number, IsFront}
use Rattle.charset.proofs.DigitLemmas.{all_digits_by_index, digits-all_digits, front_digits}
use Rattle.charset.proofs.Padding.{padded_step, padded_own, digit_byte}

-- ---- digits of a width

-- a power of ten and the tenths of a number below it
pub tenth_below : (width n : ℕ) → n < 10 ^ suc width → n / 10 < 10 ^ width
tenth_below width n below = let power : 10 ^ suc width ≡ 10 ^ width * 10 = pow-suc 10 width in omega arith

-- a number of some width is that of its tenths, and one more digit
pub padded_last : (width n : ℕ) → padded (suc width) n ≡ padded width (n / 10) ++ (48 + n % 10) ∷ []
padded_last width n =
    let some : 0 < suc width + n = omega arith in
    let less : suc width - 1 ≡ width = omega arith in
    padded_step (suc width) n some ∙ ap (λ w. padded w (n / 10) ++ (48 + n % 10) ∷ []) less

-- the digits of 0 without a width
padded_nothing : padded 0 0 ≡ []
unfolding padded
padded_nothing = refl

-- no width has no digits
pub padded_empty : (n : ℕ) → n < 10 ^ 0 → padded 0 n ≡ []
padded_empty n below = let none : n ≡ 0 = omega arith in ap (λ k. padded 0 k) none ∙ padded_nothing

-- a number below a power of ten has so many digits
pub length-padded : (width n : ℕ) → n < 10 ^ width → length (padded width n) ≡ width
length-padded zero n below = ap (λ (ds : List ℕ). length ds) (padded_empty n below)
length-padded (suc width) n below =
    ap (λ (ds : List ℕ). length ds) (padded_last width n) ∙ length_push (padded width (n / 10)) (48 + n % 10) ∙ omega (arith, length-padded width (n / 10) (tenth_below width n below))

-- its digits give it back
pub value-padded : (width n : ℕ) → n < 10 ^ width → digits_value 10 (padded width n) ≡ n
value-padded zero n below = ap (digits_value 10) (padded_empty n below) ∙ omega arith
value-padded (suc width) n below =
    let digit : digit_value (48 + n % 10) + 48 ≡ 48 + n % 10 = digit_value_digit (48 + n % 10) (omega arith, omega arith) in
    ap (digits_value 10) (padded_last width n) ∙ digits_value_push 10 (padded width (n / 10)) (48 + n % 10) ∙ omega (arith, value-padded width (n / 10) (tenth_below width n below))

-- a digit behind a name is one more that it ends in
digit_count-push : (name : Name) (c : ℕ) → is_ascii_digit c ≡ true → digit_count (name ++ c ∷ []) ≡ digit_count name + 1
digit_count-push name c h =
    let after : prefix_len is_ascii_digit (c ∷ reverse name) ≡ 1 + prefix_len is_ascii_digit (reverse name) = rw h refl in
    length-prefix_len is_ascii_digit (reverse (name ++ c ∷ [])) ∙ ap (prefix_len is_ascii_digit) (reverse-append name (c ∷ [])) ∙ after ∙ omega (arith, length-prefix_len is_ascii_digit (reverse name))

-- digits of a width behind a name are so many more
pub digit_count-padded : (name : Name) (width n : ℕ) → n < 10 ^ width → digit_count (name ++ padded width n) ≡ digit_count name + width
digit_count-padded name zero n below = ap digit_count (ap (λ (ds : List ℕ). name ++ ds) (padded_empty n below) ∙ append-nil name) ∙ omega arith
digit_count-padded name (suc width) n below =
    let last : name ++ padded (suc width) n ≡ (name ++ padded width (n / 10)) ++ (48 + n % 10) ∷ [] =
    ap (λ (ds : List ℕ). name ++ ds) (padded_last width n) ∙ sym (append_assoc name (padded width (n / 10)) ((48 + n % 10) ∷ [])) in
    ap digit_count last ∙ digit_count-push (name ++ padded width (n / 10)) (48 + n % 10) (digit_byte (n % 10) (omega arith)).0 ∙ omega (arith, digit_count-padded name width (n / 10) (tenth_below width n below))

-- so are any digits
pub digit_count-digits : (name : Name) (ds : List ℕ) → AllDigits 10 ds → digit_count (name ++ ds) ≡ digit_count name + length ds
digit_count-digits name ds all =
    ap (λ (bs : List ℕ). digit_count (name ++ bs)) (sym (padded_own ds all)) ∙ digit_count-padded name (length ds) (digits_value 10 ds) (digits_value-lt 10 ds all)

-- ---- a name as its front and its tail

-- a name ends in no more digits than it has bytes
pub digit_count-le : (name : Name) → digit_count name ≤ length name
digit_count-le name =
    omega (arith, length-prefix_len is_ascii_digit (reverse name), prefix_len-le-length is_ascii_digit (reverse name), length-reverse name)

-- the tail is as long as its width
pub length-tail : (name : Name) → length (tail name) ≡ tail_width name
length-tail name = omega (arith, length-drop (length name - tail_width name) name, digit_count-le name)

-- the tail is made of digits
pub tail-all_digits : (name : Name) → AllDigits 10 (tail name)
tail-all_digits name =
    let all = digits-all_digits name in
    let less = digit_count-le name in
    all_digits_by_index (tail name) (λ i within.
    let skip = digit_count name - tail_width name in
    let place : length name - tail_width name + i ≡ length name - digit_count name + (skip + i) = omega (arith, length-tail name) in
    let digit = digit_at (digits name) (skip + i) all (omega (arith, length-tail name, length-drop (length name - digit_count name) name)) in
    rw (get_or-drop (length name - tail_width name) name i 0, place, ← get_or-drop (length name - digit_count name) name (skip + i) 0) digit)

-- the tail is the digits of its number
pub tail_is : (name : Name) → tail name ≡ padded (tail_width name) (tail_number name)
tail_is name = sym (padded_own (tail name) (tail-all_digits name)) ∙ ap (λ w. padded w (tail_number name)) (length-tail name)

-- the number of the tail has no more digits than its width
pub tail_number-lt : (name : Name) → tail_number name < 10 ^ tail_width name
tail_number-lt name = rw (length-tail name) at (digits_value-lt 10 (tail name) (tail-all_digits name))

-- a name is its front and its tail
pub name_parts : (name : Name) → name ≡ front name ++ padded (tail_width name) (tail_number name)
name_parts name = sym (take-append-drop (length name - tail_width name) name) ∙ ap (λ (ds : List ℕ). front name ++ ds) (tail_is name)

-- a tail behind a front is the tail of what they make
pub tail_parts : (start : Name) (width n : ℕ) (name : Name) → IsFront start width → n < 10 ^ width → start ++ padded width n ≡ name → (front name ≡ start) × (tail_width name ≡ width) × (tail_number name ≡ n)
tail_parts start width n name own below is =
    let count : digit_count name ≡ digit_count start + width = ap digit_count (sym is) ∙ digit_count-padded start width n below in
    let wide : tail_width name ≡ width = ap (λ k. min k 9) count ∙ own in
    let long : length name ≡ length start + width = ap (λ (bs : List ℕ). length bs) (sym is) ∙ length-append start (padded width n) ∙ omega (arith, length-padded width n below) in
    let at : length name - tail_width name ≡ length start = omega arith in
    let before : front name ≡ start = ap (λ k. take k name) at ∙ ap (λ (bs : List ℕ). take (length start) bs) (sym is) ∙ take-append_seam start (padded width n) in
    let behind : tail name ≡ padded width n = ap (λ k. drop k name) at ∙ ap (λ (bs : List ℕ). drop (length start) bs) (sym is) ∙ drop-append_seam start (padded width n) in
    (before, wide, ap (digits_value 10) behind ∙ value-padded width n below)

-- ---- reading digits, one after another

-- nine digits fit 32 bits, one more among them too
pub digit_more-fits : (ds : List ℕ) (i number : ℕ) → AllDigits 10 ds → length ds ≤ 9 → i < length ds → number ≡ digits_value 10 (take i ds) → (number * 10 + 9 < 2 ^ 32) × (48 ≤ get_or ds i 0) × (get_or ds i 0 ≤ 57)
digit_more-fits ds i number all few within is =
    let range = digit_at ds i all within in
    let below : digits_value 10 (take i ds) < 10 ^ length (take i ds) = digits_value-lt 10 (take i ds) (front_digits ds i all) in
    let short : length (take i ds) ≤ 8 = omega (arith, length-take i ds) in
    let bound : 10 ^ length (take i ds) ≤ 10 ^ 8 = pow-le-pow_right {n = 10} (omega arith) {i = length (take i ds)} {j = 8} short in
    (omega arith, range.0, range.1)

-- one more digit of a number
pub digit_more : (ds : List ℕ) (i number next : ℕ) → AllDigits 10 ds → i < length ds → number ≡ digits_value 10 (take i ds) → next ≡ number * 10 + (get_or ds i 0 - 48) → next ≡ digits_value 10 (take (i + 1) ds)
digit_more ds i number next all within is step =
    let range = digit_at ds i all within in
    omega (arith, digits_value_more 10 ds i within, digit_value_digit (get_or ds i 0) range)

-- all digits of a number
pub digits_all : (ds : List ℕ) (i number : ℕ) → length ds ≤ i → number ≡ digits_value 10 (take i ds) → number ≡ digits_value 10 ds
digits_all ds i number all is = is ∙ ap (digits_value 10) (take_all i ds all)
