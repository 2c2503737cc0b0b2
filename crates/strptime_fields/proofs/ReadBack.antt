-- Texts of times by plain formats are read back.
use Rattle.std.proofs.Common.{◌≡◌, ℕ, zero, suc, ◌+◌, ◌/◌, ◌%◌, ◌^◌, ◌<◌, ◌≤◌, Bool, true, false, ◌&&◌, cond, eqb, leb, ltb, List, [], ◌∷◌, ◌++◌, length, take, drop, decimal, Some, refl, ap, ◌∙◌, arith}
use Rattle.std.specs.Char.{is_ascii_digit, digit_value}
use Rattle.std.specs.Int.{IsInRange}
use Rattle.std.specs.List.{take_while}
use Rattle.std.specs.Str.Parse.{AllDigits, digits_value}
use Rattle.std.proofs.lemmas.Bool.{le-leb, lt-leb, ne_eqb, and_from, and_right, or_from, lt-ltb, le-ltb, cases_lt}
use Rattle.std.proofs.lemmas.Fmt.{decimal_is_IsNumeral, length-decimal-le}
use Rattle.std.proofs.lemmas.List.{drop_at}
use Rattle.std.proofs.lemmas.List.Sums.{take_while-cons}
use Rattle.std.proofs.lemmas.Str.{digit_value_digit}
use Rattle.std.proofs.lemmas.Str.Parse.{digit_from_value}
use Rattle.time_cat.specs.Shown.{last_digit, two, three, spaced}
use Rattle.strptime_fields.specs.declared.item.Digits.{Digits}
use Rattle.strptime_fields.specs.Items.{is_white, most_digits}
use Rattle.strptime_fields.specs.Reading.{behind_white, leading_digits, within, number}

-- ---- digits

not_white : (d : ℕ) → IsInRange 48 57 d → is_white d ≡ false
not_white d is =
    or_from (eqb d 32) (leb 9 d && leb d 13) (ne_eqb d 32 (λ (e : d ≡ 32). omega (arith, e, is.0))) (and_right (leb 9 d) (leb d 13) (lt-leb d 13 (omega (arith, is.0))))

digit : (d : ℕ) → IsInRange 48 57 d → is_ascii_digit d ≡ true
digit d is = and_from (leb 48 d) (leb d 57) (le-leb 48 d is.0) (le-leb d 57 is.1)

-- digits are not skipped
front : (ds rest : List ℕ) → 0 < length ds → AllDigits 10 ds → behind_white (ds ++ rest) ≡ ds ++ rest
front [] rest some all = absurd (omega (arith, some))
front (d ∷ ds) rest some all =
    let b : is_white d ≡ false = not_white d (digit_from_value d all.0) in
    rw b refl

-- whether a text begins with a digit
abbrev pub starts_digit : List ℕ → Bool
starts_digit [] = false
starts_digit (c ∷ cs) = is_ascii_digit c

none_leading : (most : ℕ) (rest : List ℕ) → starts_digit rest ≡ false → take_while is_ascii_digit (take most rest) ≡ []
none_leading zero rest none = refl
none_leading (suc most) [] none = refl
none_leading (suc most) (c ∷ cs) none = take_while-cons is_ascii_digit c (take most cs) ∙ rw none refl

all_leading : (most : ℕ) (ds rest : List ℕ) → length ds ≤ most → AllDigits 10 ds → starts_digit rest ≡ false → take_while is_ascii_digit (take most (ds ++ rest)) ≡ ds
all_leading most [] rest few all none = none_leading most rest none
all_leading zero (d ∷ ds) rest few all none = absurd (omega (arith, few))
all_leading (suc most) (d ∷ ds) rest few all none =
    let b : is_ascii_digit d ≡ true = digit d (digit_from_value d all.0) in
    let more = all_leading most ds rest (omega (arith, few)) all.1 none in
    take_while-cons is_ascii_digit d (take most (ds ++ rest)) ∙ rw b (ap (λ (xs : List ℕ). d ∷ xs) more)

-- ---- numbers

-- a text is a number in digits, perhaps behind white space
pub record IsWritten (text : List ℕ) (n most : ℕ) : Type 0 where
  pub digits : List ℕ
  pub some : 0 < length digits
  pub all : AllDigits 10 digits
  pub few : length digits ≤ most
  pub value : digits_value 10 digits ≡ n
  pub behind : (rest : List ℕ) → behind_white (text ++ rest) ≡ digits ++ rest

of_digits : (ds : List ℕ) (n most : ℕ) → 0 < length ds → AllDigits 10 ds → length ds ≤ most → digits_value 10 ds ≡ n → IsWritten ds n most
of_digits ds n most some all few value = record { digits = ds; some = some; all = all; few = few; value = value; behind = λ rest. front ds rest some all }

value_of : (k : ℕ) → k < 10 → digit_value (48 + k) ≡ k
value_of k small = omega (arith, digit_value_digit (48 + k) (omega arith, omega arith))

last_value : (k : ℕ) → digit_value (last_digit k) ≡ k % 10
last_value k = value_of (k % 10) (omega arith)

last_is : (k : ℕ) → digit_value (last_digit k) < 10
last_is k = omega (arith, last_value k)

pub written_two : (n : ℕ) → n < 100 → IsWritten (two n) n 2
written_two n small =
    of_digits (two n) n 2 (omega arith) (last_is (n / 10), (last_is n, tt)) (omega arith) (omega (arith, last_value (n / 10), last_value n))

pub written_three : (n : ℕ) → n < 1000 → IsWritten (three n) n 3
written_three n small =
    of_digits (three n) n 3 (omega arith) (last_is (n / 100), (last_is (n / 10), (last_is n, tt))) (omega arith) (omega (arith, last_value (n / 100), last_value (n / 10), last_value n))

pub written_bare : (n most : ℕ) → 0 < most → n < 10 ^ most → n < 2 ^ 64 → IsWritten (decimal n) n most
written_bare n most some small fits =
    let is = decimal_is_IsNumeral n fits in
    of_digits (decimal n) n most is.0.0 is.0.1 (length-decimal-le most n some small fits) is.1

written_spaced_by : (n : ℕ) (b : Bool) → ltb n 10 ≡ b → n < 100 → IsWritten (cond b (32 ∷ last_digit n ∷ []) (two n)) n 2
written_spaced_by n false is small = written_two n small
written_spaced_by n true is small =
    let below : n < 10 = Rattle.std.proofs.lemmas.Bool.ltb-true n 10 is in
    record {
      digits = last_digit n ∷ [];
      some = omega arith;
      all = (last_is n, tt);
      few = omega arith;
      value = omega (arith, last_value n);
      behind = λ rest. front (last_digit n ∷ []) rest (omega arith) (last_is n, tt);
    }

pub written_spaced : (n : ℕ) → n < 100 → IsWritten (spaced n) n 2
written_spaced n small = written_spaced_by n (ltb n 10) refl small

within_by : (low high : ℕ) (ds : List ℕ) (n : ℕ) (rest : List ℕ) → 0 < length ds → digits_value 10 ds ≡ n → low ≤ n → n ≤ high → within low high ds rest ≡ Some (n, rest)
within_by low high [] n rest some value from to = absurd (omega (arith, some))
within_by low high (d ∷ ds) n rest some value from to =
    let b : (leb low n && leb n high) ≡ true = and_from (leb low n) (leb n high) (le-leb low n from) (le-leb n high to) in
    rw (value, b) refl

-- a number that is written is read
pub number_reads : (digits : Digits) (low high : ℕ) (text rest left : List ℕ) (n : ℕ) → IsWritten text n (most_digits digits) → low ≤ n → n ≤ high → starts_digit rest ≡ false → behind_white left ≡ behind_white (text ++ rest)
    → number digits low high left ≡ Some (n, rest)
unfolding number
number_reads digits low high text rest left n written from to none ready =
    let ds = written.digits in
    let is : behind_white left ≡ ds ++ rest = ready ∙ written.behind rest in
    let leading : leading_digits (most_digits digits) (ds ++ rest) ≡ ds = all_leading (most_digits digits) ds rest written.few written.all none in
    let behind : drop (length ds) (ds ++ rest) ≡ rest = drop_at ds rest (length ds) refl in
    rw (is, leading, behind) (within_by low high ds n rest written.some written.value from to)
