-- The digits that a name ends in, and how far one number is above another.
use Rattle.std.proofs.Common.{◌≡◌, ℕ, ◌+◌, ◌-◌, ◌<◌, ◌≤◌, ◌≢◌, Bool, true, false, eqb, List, length, get_or, take, drop, reverse, replicate, sym, ap, ◌∙◌, arith}
use Rattle.std.specs.Char.{is_ascii_digit}
use Rattle.std.specs.Int.{IsInRange}
use Rattle.std.specs.List.{take_while, suffix_len}
use Rattle.std.specs.Str.Parse.{AllDigits}
use Rattle.std.proofs.lemmas.Bool.Decides.{nat_tests}
use Rattle.std.proofs.lemmas.List.{length-drop, length-replicate, length-reverse, length-take, get_or-drop, get_or-replicate, get_or-reverse, get_or-take, ext_get_or}
use Rattle.std.proofs.lemmas.List.Folds.{length-prefix_len}
use Rattle.std.proofs.lemmas.List.Sums.{prefix_len_passes, prefix_len_stops, prefix_len-le-length}
use Rattle.std.proofs.lemmas.Str.Parse.{digit_at, numerals_by_value, tells_by_index}
use Rattle.charset.specs.Portable.{Name}
use Rattle.charset.specs.Numbering.{digit_count, digits}

-- a byte that passes the test is one from 48 to 57
pub ascii_digit_range : (c : ℕ) → is_ascii_digit c ≡ true → IsInRange 48 57 c
ascii_digit_range c h = grind (arith, nat_tests)

-- a list whose bytes are each a decimal digit
pub all_digits_by_index : (ds : List ℕ) → ((i : ℕ) → i < length ds → IsInRange 48 57 (get_or ds i 0)) → AllDigits 10 ds
all_digits_by_index ds each = (numerals_by_value _ tells_by_index).to ds each

-- each of the elements that a list ends in and that pass a test passes it
pub suffix_passes : (p : ℕ → Bool) (xs : List ℕ) (i : ℕ) → i < suffix_len p xs → p (get_or (drop (length xs - suffix_len p xs) xs) i 0) ≡ true
suffix_passes p xs i l =
    let n = suffix_len p xs in
    let within : n ≤ length xs = omega (arith, prefix_len-le-length p (reverse xs), length-reverse xs) in
    let k = n - 1 - i in
    let passes = prefix_len_passes p (reverse xs) k 0 (omega arith) in
    let place : length xs - n + i ≡ length xs - 1 - k = omega arith in
    rw get_or-drop (rw (place, ← get_or-reverse xs k 0 (omega arith)) passes)

-- the digits that a name ends in are all decimal digits
pub digits-all_digits : (name : Name) → AllDigits 10 (digits name)
digits-all_digits name =
    let n = suffix_len is_ascii_digit name in
    let within : n ≤ length name = omega (arith, prefix_len-le-length is_ascii_digit (reverse name), length-reverse name) in
    let count : digit_count name ≡ n = length-prefix_len is_ascii_digit (reverse name) in
    rw count (all_digits_by_index _ (λ i l. ascii_digit_range _ (suffix_passes is_ascii_digit name i (omega (arith, length-drop (length name - n) name)))))

-- each of the first of some decimal digits is one
pub front_digits : (ds : List ℕ) (n : ℕ) → AllDigits 10 ds → AllDigits 10 (take n ds)
front_digits ds n all =
    all_digits_by_index (take n ds) (λ i l.
    let short : i < n = omega (arith, length-take n ds) in
    let within : i < length ds = omega (arith, length-take n ds) in
    rw (get_or-take n ds i 0 short) (digit_at ds i all within))

-- whether a byte is the digit 9
abbrev pub nine : ℕ → Bool
nine byte = eqb byte 57

-- a byte that passes the test is 57
is_nine : (c : ℕ) → nine c ≡ true → c ≡ 57
is_nine c h = grind (arith, nat_tests)

-- a byte that fails it is not
not_nine : (c : ℕ) → nine c ≡ false → c ≢ 57
not_nine c h = grind (arith, nat_tests)

-- as many nines as a list ends in are what it ends in
pub nines_are : (ds : List ℕ) (k : ℕ) → k ≡ length (take_while nine (reverse ds)) → drop (length ds - k) ds ≡ replicate k 57
nines_are ds k count =
    let same : k ≡ suffix_len nine ds = count ∙ length-prefix_len nine (reverse ds) in
    let within : k ≤ length ds = omega (arith, prefix_len-le-length nine (reverse ds), length-reverse ds) in
    let shown : length (drop (length ds - k) ds) ≡ k = omega (arith, length-drop (length ds - k) ds) in
    ext_get_or 0 (drop (length ds - k) ds) (replicate k 57) (shown ∙ sym (length-replicate k 57)) (λ i l.
    let below : i < k = omega arith in
    let passes : nine (get_or (drop (length ds - k) ds) i 0) ≡ true = rw same (suffix_passes nine ds i (omega arith)) in
    is_nine (get_or (drop (length ds - k) ds) i 0) passes ∙ sym (get_or-replicate k i 57 0 below))

-- the byte before these nines is none
pub before_nines : (ds : List ℕ) (k : ℕ) → k ≡ length (take_while nine (reverse ds)) → k < length ds → get_or ds (length ds - k - 1) 0 ≢ 57
before_nines ds k count within =
    let same : k ≡ suffix_len nine ds = count ∙ length-prefix_len nine (reverse ds) in
    let some : suffix_len nine ds < length (reverse ds) = omega (arith, length-reverse ds) in
    let stops : nine (get_or (reverse ds) k 0) ≡ false = rw same (prefix_len_stops nine (reverse ds) 0 some) in
    let place : length ds - 1 - k ≡ length ds - k - 1 = omega arith in
    not_nine (get_or ds (length ds - k - 1) 0) (ap nine (ap (λ i. get_or ds i 0) (sym place) ∙ sym (get_or-reverse ds k 0 within)) ∙ stops)
