-- Numbers as a locale writes them, read back (XBD 7.3.4; that groups may be left out is our own).
use Rattle.std.specs.Prelude.{◌≡◌, ◌<◌, ◌≤◌, ◌+◌, ℕ, Bool, true, false, List, [], ◌∷◌, ◌++◌, length, codes, nat_eq, Option, Some, None, if◌then◌else◌}
use Rattle.std.specs.Char.{is_ascii_digit}
use Rattle.std.specs.List.{list_all, starts_with}
use Rattle.digit_groups.specs.Groups.{grouped}
use Rattle.numeric_cat.specs.NumericValues.{NumericValues}
use Rattle.tool_decimals.specs.Decimals.{Number, without_zeros}
use Rattle.tool_decimals.specs.Limits.{DIGITS_OF_A_NUMBER}

-- the sign
abbrev pub minus : Bool → List ℕ
minus has_minus = if has_minus then codes "-" else []

-- a point with the digits behind it, if there are some
abbrev pub behind_text : List ℕ → List ℕ → List ℕ
behind_text point [] = []
behind_text point (c ∷ cs) = point ++ (c ∷ cs)

-- the text of a number in a locale, its whole digits in groups or not
abbrev pub spelled : NumericValues → Bool → Number → List ℕ
spelled n is_grouped d = minus d.has_minus ++ (grouped d.whole (if is_grouped then n.grouping else []) n.thousands_sep ++ behind_text n.decimal_point d.fraction)

-- a number with a point and without groups
abbrev pub plain_text : Number → List ℕ
plain_text d = minus d.has_minus ++ (without_zeros d.whole ++ behind_text (codes ".") d.fraction)

-- the grammar of a number: perhaps `-`, one digit at least, in the groups of the locale or all without, and perhaps the decimal point with one digit at least behind it; at most 100 digits
pub record IsSpelled (n : NumericValues) (text : List ℕ) (d : Number) (is_grouped : Bool) : Type 0 where
  pub some_digit : 0 < length d.whole
  pub whole_digits : list_all is_ascii_digit d.whole ≡ true
  pub fraction_digits : list_all is_ascii_digit d.fraction ≡ true
  pub few_digits : length d.whole + length d.fraction ≤ DIGITS_OF_A_NUMBER
  pub is_text : text ≡ spelled n is_grouped d

-- a text is read as a number with a point
pub record IsReadAs (n : NumericValues) (text plain : List ℕ) : Type 0 where
  pub number : Number
  pub is_grouped : Bool
  pub is_spelled : IsSpelled n text number is_grouped
  pub is_plain : plain ≡ plain_text number

-- a line is that of the number that a text is read as
pub record IsLineOf (n : NumericValues) (text line : List ℕ) : Type 0 where
  pub plain : List ℕ
  pub is_read : IsReadAs n text plain
  pub is_line : line ≡ plain ++ 10 ∷ []

-- the digit that bytes begin with
abbrev pub first_digit : List ℕ → Option ℕ
first_digit [] = None
first_digit (c ∷ cs) = if is_ascii_digit c then Some c else None

-- a locale whose signs are told apart: neither begins with a digit, and neither of them begins with the other; it may have no separator
pub record AreToldApart (n : NumericValues) : Type 0 where
  pub some_point : 0 < length n.decimal_point
  pub point : first_digit n.decimal_point ≡ None
  pub separator : first_digit n.thousands_sep ≡ None
  pub no_front : 0 < length n.thousands_sep → starts_with nat_eq n.decimal_point n.thousands_sep ≡ false
  pub no_longer : starts_with nat_eq n.thousands_sep n.decimal_point ≡ false
