-- Rounded digits and texts, on small examples.
use Rattle.std.proofs.Common.{◌≡◌, ℕ, List, [], ◌∷◌, ◌++◌, false, None, Ok, Err, refl}
use Rattle.std.specs.Prelude.{pos, codes, replicate, true}
use Rattle.numeric_cat.specs.NumericValues.{NumericValues}
use Rattle.digit_groups.specs.Groups.{separated}
use Rattle.digit_groups.specs.Numbers.{number_behind}
use Rattle.lc_base.specs.Cuts.{cut_at}
use Rattle.int_format.specs.Formats.{flags_behind}
use Rattle.tool_decimals.specs.Conversions.{part}
use Rattle.tool_decimals.specs.Decimals.{Number, carried, decimal_of_word, rounded, without_zeros}
use Rattle.tool_decimals.specs.Texts.{decimal_text}
use Rattle.tool_decimals.specs.declared.read.NumberWhy.TheVariants.{NoDigit, NoFraction, OtherByte, OtherGroups, ManyDigits}
use Rattle.tool_decimals.specs.Scans.{digits_at, fault, reading}
use Rattle.tool_decimals.specs.Formats.{BadFormat, MissingNumber, NoNumber, first_wrong, numbers_text, text_behind}

abbrev german : NumericValues
german = record { decimal_point = codes ","; thousands_sep = codes "."; grouping = pos 3 ∷ [] }

abbrev number : List ℕ → List ℕ → Number
number whole fraction = record { has_minus = false; whole = whole; fraction = fraction }

-- 1.25 is rounded to the even 1.2, 1.35 to the even 1.4, and 1.251 to 1.3
half_to_even_down : rounded 1 (number (codes "1") (codes "25")) ≡ codes "12"
unfolding carried
half_to_even_down = refl

half_to_even_up : rounded 1 (number (codes "1") (codes "35")) ≡ codes "14"
unfolding carried
half_to_even_up = refl

over_half : rounded 1 (number (codes "1") (codes "251")) ≡ codes "13"
unfolding carried
over_half = refl

-- 0.5 becomes 0, 1.5 becomes 2, and 999.95 becomes 1000.0
whole_even : rounded 0 (number (codes "0") (codes "5")) ≡ codes "0"
unfolding carried
whole_even = refl

whole_odd : rounded 0 (number (codes "1") (codes "5")) ≡ codes "2"
unfolding carried
whole_odd = refl

all_nines : rounded 1 (number (codes "999") (codes "95")) ≡ codes "10000"
unfolding carried
all_nines = refl

-- zeros behind the digits that there are
more_places : rounded 3 (number (codes "7") (codes "5")) ≡ codes "7500"
unfolding carried
more_places = refl

some_zeros : without_zeros (codes "0070") ≡ codes "70"
unfolding without_zeros
some_zeros = refl

only_zeros : without_zeros (codes "000") ≡ codes "0"
unfolding without_zeros
only_zeros = refl

-- `-` alone, a point without digits on a side, and a letter are no numbers
no_digit : decimal_of_word (codes "-") ≡ None
unfolding decimal_of_word cut_at
no_digit = refl

no_fraction : decimal_of_word (codes "1.") ≡ None
unfolding decimal_of_word cut_at
no_fraction = refl

no_whole : decimal_of_word (codes ".5") ≡ None
unfolding decimal_of_word cut_at
no_whole = refl

a_letter : decimal_of_word (codes "1e5") ≡ None
unfolding decimal_of_word cut_at
a_letter = refl

-- `%'.2f` of 1234.5 in a locale with groups of three
a_text : numbers_text german (codes "%'.2f!") (codes "1234.5" ∷ []) ≡ Ok (codes "1.234,50!")
unfolding decimal_of_word cut_at carried without_zeros decimal_text first_wrong text_behind part flags_behind number_behind separated
a_text = refl

-- `%+08.1f` of -0.05: the number is below 0, also where it is rounded to 0
a_filled_text : numbers_text german (codes "%+08.1f") (codes "-0.05" ∷ []) ≡ Ok (codes "-00000,0")
unfolding decimal_of_word cut_at carried without_zeros decimal_text first_wrong text_behind part flags_behind number_behind separated
a_filled_text = refl

-- `-0` is not below 0
a_zero : numbers_text german (codes "% .0f|%-4.0f|") (codes "-0" ∷ codes "7" ∷ []) ≡ Ok (codes " 0|7   |")
unfolding decimal_of_word cut_at carried without_zeros decimal_text first_wrong text_behind part flags_behind number_behind separated
a_zero = refl

-- a word that is no number goes before the format, and the first fault of a format before others
wrong_word : numbers_text german (codes "%Q") (codes "x" ∷ []) ≡ Err (NoNumber (codes "x"))
unfolding decimal_of_word cut_at first_wrong
wrong_word = refl

wrong_format : numbers_text german (codes "a%Q") [] ≡ Err (BadFormat 1)
unfolding first_wrong text_behind part flags_behind number_behind
wrong_format = refl

no_number : numbers_text german (codes "%f") [] ≡ Err (MissingNumber 0)
unfolding first_wrong text_behind part flags_behind number_behind
no_number = refl

-- a number is read with its groups and without, and below 0
in_groups_read : reading german (codes "1.234,50") ≡ Ok (number (codes "1234") (codes "50"))
unfolding reading digits_at separated
in_groups_read = refl

without_groups_read : reading german (codes "1234,5") ≡ Ok (number (codes "1234") (codes "5"))
unfolding reading digits_at separated
without_groups_read = refl

below_zero_read : reading german (codes "-07") ≡ Ok (record { has_minus = true; whole = codes "07"; fraction = [] })
unfolding reading digits_at separated
below_zero_read = refl

-- a digit is missing: in front, behind the sign, in front of the point, and behind it
nothing_refused : reading german [] ≡ fault NoDigit 0
unfolding reading digits_at separated
nothing_refused = refl

sign_refused : reading german (codes "-") ≡ fault NoDigit 1
unfolding reading digits_at separated
sign_refused = refl

no_whole_refused : reading german (codes ",5") ≡ fault NoDigit 0
unfolding reading digits_at separated
no_whole_refused = refl

no_fraction_refused : reading german (codes "-12,") ≡ fault NoFraction 4
unfolding reading digits_at separated
no_fraction_refused = refl

-- a byte does not belong there: behind the whole digits, and behind the fraction
letter_refused : reading german (codes "1.234x") ≡ fault OtherByte 5
unfolding reading digits_at separated
letter_refused = refl

behind_fraction_refused : reading german (codes "1,2x3") ≡ fault OtherByte 3
unfolding reading digits_at separated
behind_fraction_refused = refl

-- the groups are others than 1.234
groups_refused : reading german (codes "12.34") ≡ fault OtherGroups 1
unfolding reading digits_at separated
groups_refused = refl

-- the hundred and first digit is one too many, before the point and behind it
whole_refused : reading german (replicate 101 49) ≡ fault ManyDigits 100
unfolding reading digits_at separated
whole_refused = refl

fraction_refused : reading german (codes "12," ++ replicate 99 49) ≡ fault ManyDigits 101
unfolding reading digits_at separated
fraction_refused = refl
