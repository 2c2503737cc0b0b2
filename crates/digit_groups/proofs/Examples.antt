-- Digits in groups, how wide they are, numbers at the front of a text, and formats.
use Rattle.std.proofs.Common.{◌≡◌, ℕ, ◌-◌, List, [], ◌∷◌, Option, Some, None, Result, Ok, Err, replicate, refl}
use Rattle.std.specs.Prelude.{codes, ℤ, pos, negsuc, ◌==◌, if◌then◌else◌}
use Rattle.digit_groups.specs.Conversions.{of_byte, number_after}
use Rattle.digit_groups.specs.Digits.{digit_count, last_digits}
use Rattle.digit_groups.specs.Formats.{piece, pieces, pieces_text, missing, formatted, at_most}
use Rattle.lc_base.specs.declared.refusal.FormatRefusal.{FormatRefusal}
use Rattle.lc_base.specs.declared.refusal.FormatRefusal.TheVariants.{BadFormat, MissingNumber, TooBig}
use Rattle.digit_groups.specs.Groups.{grouped, grouped_width, separated, separators}
use Rattle.digit_groups.specs.Numbers.{number_behind, leading_number, leading_digits, small_value}

-- seven digits
abbrev seven : List ℤ → List ℕ
seven sizes = grouped (codes "1234567") sizes (codes ",")

-- the last size repeats
threes : seven (pos 3 ∷ []) ≡ codes "1,234,567"
unfolding separated
threes = refl

three_and_twos : seven (pos 3 ∷ pos 2 ∷ []) ≡ codes "12,34,567"
unfolding separated
three_and_twos = refl

ones_twos_threes : seven (pos 1 ∷ pos 2 ∷ pos 3 ∷ []) ≡ codes "1,234,56,7"
unfolding separated
ones_twos_threes = refl

-- at -1 grouping ends
one_group : seven (pos 3 ∷ negsuc 0 ∷ []) ≡ codes "1234,567"
unfolding separated
one_group = refl

no_group : seven (negsuc 0 ∷ pos 3 ∷ []) ≡ codes "1234567"
unfolding separated
no_group = refl

-- a 0 is dropped with all after it
zero_behind : seven (pos 3 ∷ pos 0 ∷ negsuc 0 ∷ []) ≡ codes "1,234,567"
unfolding separated
zero_behind = refl

zero_alone : seven (pos 0 ∷ pos 3 ∷ []) ≡ codes "1234567"
unfolding separated
zero_alone = refl

empty_list : seven [] ≡ codes "1234567"
unfolding separated
empty_list = refl

-- no separator stands before the first digit
whole_groups : grouped (codes "123456") (pos 3 ∷ []) (codes ",") ≡ codes "123,456"
unfolding separated
whole_groups = refl

one_wide_group : seven (pos 126 ∷ []) ≡ codes "1234567"
unfolding separated
one_wide_group = refl

-- separators of several bytes, and of none
wide_separator : grouped (codes "1234567") (pos 3 ∷ []) (codes "::") ≡ codes "1::234::567"
unfolding separated
wide_separator = refl

empty_separator : grouped (codes "1234567") (pos 3 ∷ []) [] ≡ codes "1234567"
unfolding separated
empty_separator = refl

-- widths
nine_digits : grouped_width 9 (pos 3 ∷ pos 2 ∷ []) 1 ≡ 12
unfolding separators
nine_digits = refl

no_digits : grouped_width 0 (pos 3 ∷ []) 1 ≡ 0
unfolding separators
no_digits = refl

-- the last digits of a number, with zeros before them, and in groups
last_three : last_digits 3 1234567 ≡ codes "567"
unfolding last_digits
last_three = refl

zeros_before : last_digits 3 5 ≡ codes "005"
unfolding last_digits
zeros_before = refl

number_in_groups : grouped (last_digits 7 1234567) (pos 3 ∷ []) (codes ",") ≡ codes "1,234,567"
unfolding separated last_digits
number_in_groups = refl

-- ---- numbers at the front of a text

before_a_letter : leading_number (codes "12n3") ≡ Some (12, 2)
unfolding number_behind
before_a_letter = refl

letter_first : leading_number (codes "n3") ≡ Some (0, 0)
unfolding number_behind
letter_first = refl

number_behind_zeros : leading_number (codes "007") ≡ Some (7, 3)
unfolding number_behind
number_behind_zeros = refl

highest : leading_number (codes "255") ≡ Some (255, 3)
unfolding number_behind
highest = refl

above : leading_number (codes "256") ≡ None
unfolding number_behind
above = refl

digits_before_a_letter : leading_digits (codes "12n3") ≡ codes "12"
digits_before_a_letter = refl

value_behind_zeros : small_value (codes "007") ≡ Some (7, 3)
value_behind_zeros = refl

highest_value : small_value (codes "255") ≡ Some (255, 3)
highest_value = refl

above_value : small_value (codes "256") ≡ None
above_value = refl

-- ---- parts of a conversion

number_behind_sign : number_after 46 1 (codes ".5d") ≡ Some (Some 5, 2)
unfolding number_behind
number_behind_sign = refl

other_sign : number_after 35 1 (codes ".5d") ≡ Some (None, 0)
other_sign = refl

-- a sign without digits
nothing_behind_sign : number_after 46 0 (codes ".d") ≡ Some (Some 0, 1)
unfolding number_behind
nothing_behind_sign = refl

digit_wanting : number_after 46 1 (codes ".d") ≡ None
unfolding number_behind
digit_wanting = refl

above_behind_sign : number_after 46 0 (codes ".256d") ≡ None
unfolding number_behind
above_behind_sign = refl

first_row : of_byte {A = ℕ} ((43, 1) ∷ (43, 2) ∷ []) 43 ≡ Some 1
first_row = refl

no_row : of_byte {A = ℕ} ((43, 1) ∷ []) 45 ≡ None
no_row = refl

-- ---- formats

-- a conversion of one letter, perhaps with a width before it, and its text: as many bytes as the width
abbrev letter : List ℕ → Option (ℕ × ℕ)
letter [] = None
letter (c ∷ []) = if c == 110 then Some (1, 1) else None
letter (c ∷ d ∷ cs) = if c == 110 then Some (1, 1) else if d == 110 then Some (c - 48, 2) else None

abbrev shown : List ℕ → List ℕ → Result (List ℕ) FormatRefusal
shown format values = formatted letter (λ width v. replicate width v) (λ at. MissingNumber at) format values

copied : shown (codes "a%nb%2n%%") (codes "xy") ≡ Ok (codes "axbyy%")
unfolding piece pieces pieces_text missing
copied = refl

left_over : shown (codes "%n") (codes "xy") ≡ Ok (codes "x")
unfolding piece pieces pieces_text missing
left_over = refl

-- a bad conversion goes before a missing value
bad_conversion : shown (codes "%n%n%q") (codes "x") ≡ Err (BadFormat 4)
unfolding piece pieces
bad_conversion = refl

missing_value : shown (codes "%n%2n") (codes "x") ≡ Err (MissingNumber 2)
unfolding piece pieces missing
missing_value = refl

percent_at_end : shown (codes "a%") [] ≡ Err (BadFormat 1)
unfolding piece pieces
percent_at_end = refl

-- a text of two bytes within two, and within one
just_fits : at_most 2 (shown (codes "%2n") (codes "x")) ≡ Ok (codes "xx")
unfolding piece pieces pieces_text missing
just_fits = refl

too_big : at_most 1 (shown (codes "%2n") (codes "x")) ≡ Err TooBig
unfolding piece pieces pieces_text missing
too_big = refl

-- digits are counted, and 0 has one
five_digits : digit_count 10000 ≡ 5
five_digits = refl

one_zero : digit_count 0 ≡ 1
one_zero = refl
