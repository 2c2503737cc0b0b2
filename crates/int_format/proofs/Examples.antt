-- Formats, numbers and their texts.
use Rattle.std.proofs.Common.{◌≡◌, ℕ, List, [], ◌∷◌, Ok, Err, Some, None, refl}
use Rattle.std.specs.Prelude.{codes, ℤ, pos, negsuc, Result, true, false}
use Rattle.digit_groups.specs.Groups.{separated}
use Rattle.numeric_cat.specs.NumericValues.{NumericValues}
use Rattle.lc_base.specs.declared.refusal.FormatRefusal.{FormatRefusal}
use Rattle.lc_base.specs.declared.refusal.FormatRefusal.TheVariants.{BadFormat, MissingNumber, TooBig}
use Rattle.int_format.specs.declared.fault.IntFault.TheVariants as faults
use Rattle.digit_groups.specs.Digits.{last_digits}
use Rattle.digit_groups.specs.Numbers.{number_behind}
use Rattle.int_format.specs.Digits.{digit_count}
use Rattle.int_format.specs.Formats.{flags_behind, piece, pieces}
use Rattle.int_format.specs.Ints.{is_number, ints, at_most, pieces_text, missing, shown, refusal_of, Answers, below_zero}

-- a locale with commas between thousands, and one with lakhs
abbrev us : NumericValues
us = record { decimal_point = codes "."; thousands_sep = codes ","; grouping = pos 3 ∷ pos 3 ∷ [] }

abbrev lakhs : NumericValues
lakhs = record { decimal_point = codes "."; thousands_sep = codes ","; grouping = pos 3 ∷ pos 2 ∷ [] }

-- the text of one number
abbrev one : List ℕ → ℤ → Result (List ℕ) FormatRefusal
one format v = ints us format (v ∷ [])

plain : one (codes "%'d") (pos 1234) ≡ Ok (codes "1,234")
unfolding separated last_digits flags_behind number_behind piece pieces pieces_text missing
plain = refl

-- the zeros of the flag stand behind the sign, and are not grouped
zeros : one (codes "%'012d") (negsuc 1233) ≡ Ok (codes "-0000001,234")
unfolding separated last_digits flags_behind number_behind piece pieces pieces_text missing
zeros = refl

-- those of the precision are
precision_grouped : one (codes "%'.7d") (pos 42) ≡ Ok (codes "0,000,042")
unfolding separated last_digits flags_behind number_behind piece pieces pieces_text missing
precision_grouped = refl

precision_in_lakhs : ints lakhs (codes "%'12.7d") (pos 42 ∷ []) ≡ Ok (codes "   00,00,042")
unfolding separated last_digits flags_behind number_behind piece pieces pieces_text missing
precision_in_lakhs = refl

signs : ints us (codes "%+.5d|% d") (pos 42 ∷ pos 42 ∷ []) ≡ Ok (codes "+00042| 42")
unfolding separated last_digits flags_behind number_behind piece pieces pieces_text missing
signs = refl

plus_before_space : one (codes "% +d") (pos 0) ≡ Ok (codes "+0")
unfolding separated last_digits flags_behind number_behind piece pieces pieces_text missing
plus_before_space = refl

nothing : one (codes "%.0d") (pos 0) ≡ Ok []
unfolding separated last_digits flags_behind number_behind piece pieces pieces_text missing
nothing = refl

sign_alone : one (codes "%+5.d|") (pos 0) ≡ Ok (codes "    +|")
unfolding separated last_digits flags_behind number_behind piece pieces pieces_text missing
sign_alone = refl

-- `u` adds 2 ^ 64 to a number below 0
unsigned : shown false (negsuc 0) ≡ 18446744073709551615
unsigned = refl

unsigned_has_no_sign : one (codes "%+ u") (pos 7) ≡ Ok (codes "7")
unfolding separated last_digits flags_behind number_behind piece pieces pieces_text missing
unsigned_has_no_sign = refl

left : one (codes "%-6lld|") (pos 42) ≡ Ok (codes "42    |")
unfolding separated last_digits flags_behind number_behind piece pieces pieces_text missing
left = refl

-- `0` does nothing beside `-`, nor beside a precision
left_of_zeros : one (codes "%0-6ji|") (pos 42) ≡ Ok (codes "42    |")
unfolding separated last_digits flags_behind number_behind piece pieces pieces_text missing
left_of_zeros = refl

precision_of_zeros : one (codes "%06.3d") (pos 42) ≡ Ok (codes "   042")
unfolding separated last_digits flags_behind number_behind piece pieces pieces_text missing
precision_of_zeros = refl

-- a precision cuts no digits, and a width no text
all_digits : one (codes "%2.2d") (pos 1234) ≡ Ok (codes "1234")
unfolding separated last_digits flags_behind number_behind piece pieces pieces_text missing
all_digits = refl

copied : one (codes "%d%% of %%") (pos 5) ≡ Ok (codes "5% of %")
unfolding separated last_digits flags_behind number_behind piece pieces pieces_text missing
copied = refl

-- numbers that are left over
left_over : ints us (codes "%d") (pos 1 ∷ pos 2 ∷ []) ≡ Ok (codes "1")
unfolding separated last_digits flags_behind number_behind piece pieces pieces_text missing
left_over = refl

-- a bad conversion goes before a missing number
missing_number : one (codes "%d %d") (pos 1) ≡ Err (MissingNumber 3)
unfolding flags_behind number_behind piece pieces missing
missing_number = refl

bad_format : one (codes "%d %d %s") (pos 1) ≡ Err (BadFormat 6)
unfolding flags_behind number_behind piece pieces
bad_format = refl

three_letters : one (codes "%llld") (pos 1) ≡ Err (BadFormat 0)
unfolding flags_behind number_behind piece pieces
three_letters = refl

wide : one (codes "%256d") (pos 1) ≡ Err (BadFormat 0)
unfolding flags_behind number_behind piece pieces
wide = refl

-- a text of two bytes within two, and within one
just_fits : at_most 2 (one (codes "%d") (pos 10)) ≡ Ok (codes "10")
unfolding separated last_digits flags_behind number_behind piece pieces pieces_text missing
just_fits = refl

too_big : at_most 1 (one (codes "%d") (pos 10)) ≡ Err TooBig
unfolding separated last_digits flags_behind number_behind piece pieces pieces_text missing
too_big = refl

-- the range
highest : is_number (pos 18446744073709551615) ≡ true
highest = refl

above : is_number (pos 18446744073709551616) ≡ false
above = refl

lowest : is_number (negsuc 9223372036854775807) ≡ true
lowest = refl

below : is_number (negsuc 9223372036854775808) ≡ false
below = refl

lowest_read : below_zero 9223372036854775808 ≡ Some (negsuc 9223372036854775807)
lowest_read = refl

below_read : below_zero 9223372036854775809 ≡ None
below_read = refl

no_minus_zero : below_zero 0 ≡ None
no_minus_zero = refl

-- digits are counted
five_digits : digit_count 10000 ≡ 5
five_digits = refl

no_digits : digit_count 0 ≡ 0
no_digits = refl

-- a fault is the refusal of its name, and out of memory is none
refusals : refusal_of (faults.BadFormat 6) ∷ refusal_of (faults.MissingNumber 3) ∷ refusal_of faults.TooBig ∷ refusal_of faults.Memory ∷ [] ≡ Some (BadFormat 6) ∷ Some (MissingNumber 3) ∷ Some TooBig ∷ None ∷ []
refusals = refl

-- a text answers for itself alone, and out of memory for whatever there is
own_text : Answers (λ (t : List ℕ). t) (Ok (codes "1")) (Ok (codes "1"))
own_text = refl

no_memory : Answers (λ (t : List ℕ). t) (Err faults.Memory) (Ok (codes "1"))
no_memory = tt
