-- Times, amounts of money and whole numbers, as they are written (our own).
use Rattle.std.specs.Prelude.{ℕ, ◌^◌, ℤ, pos, negsuc, neg_ℤ, ◌==◌, nat_lt, nat_le, Bool, true, false, ◌&&◌, List, [], ◌∷◌, ◌++◌, length, Option, Some, None, option_map, option_and_then, if◌then◌else◌}
use Rattle.std.specs.Char.{is_ascii_digit}
use Rattle.std.specs.List.{list_all}
use Rattle.std.specs.Str.Parse.{digits_value}
use Rattle.script_words.specs.Limits.{TIME_DIGITS, WHOLE_DIGITS, FRACTION_DIGITS, NUMBER_DIGITS}
use Rattle.lc_base.specs.Amounts.{MoneyAmount}
use Rattle.lc_base.specs.Cuts.{cut_at}
use Rattle.lc_base.specs.Numbers.{few_digits}

-- ---- times

-- a number of 1 to 9 digits
unfoldable pub short_number : List ℕ → Option ℤ
short_number w = option_map (λ n. pos n) (few_digits TIME_DIGITS w)

-- a number of minutes, perhaps behind a `-`
unfoldable pub offset_of_word : List ℕ → Option ℤ
offset_of_word [] = None
offset_of_word (c ∷ cs) = if c == 45 then option_map neg_ℤ (short_number cs) else short_number (c ∷ cs)

-- three numbers with this byte between them, as `Y-M-D` and `h:m:s`
unfoldable pub three_numbers : ℕ → List ℕ → Option (ℤ × ℤ × ℤ)
three_numbers between w =
    option_and_then (λ (x : List ℕ × List ℕ).
    option_and_then (λ (y : List ℕ × List ℕ).
    option_and_then (λ first.
    option_and_then (λ second.
    option_map (λ third. (first, second, third))
    (short_number y.1)) (short_number y.0)) (short_number x.0)) (cut_at between x.1)) (cut_at between w)

-- ---- amounts of money

-- at most so many bytes, all of them digits
abbrev pub are_digits : ℕ → List ℕ → Bool
are_digits most ds = nat_le (length ds) most && list_all is_ascii_digit ds

-- a number of at most so much
abbrev pub within : ℕ → ℕ → Option ℕ
within most n = if nat_le n most then Some n else None

-- units with their sign, where 64 bits hold them
abbrev pub signed_units : Bool → ℕ → Option ℤ
signed_units true n = if nat_le n (2 ^ 63) then Some (neg_ℤ (pos n)) else None
signed_units false n = if nat_lt n (2 ^ 63) then Some (pos n) else None

-- the amount of whole digits, of which there is one at least, and fraction digits
abbrev pub amount_of : Bool → List ℕ → List ℕ → Option MoneyAmount
amount_of negative whole fraction =
    if nat_lt 0 (length whole) && are_digits WHOLE_DIGITS whole && are_digits FRACTION_DIGITS fraction
    then option_map (λ units. record { units = units; scale = length fraction }) (signed_units negative (digits_value 10 (whole ++ fraction)))
    else None

-- an amount without its sign: behind a point stands one digit at least
abbrev pub unsigned_amount : Bool → List ℕ → Option MoneyAmount
unsigned_amount negative w = elim (cut_at 46 w) [
  | None ↦ amount_of negative w []
  | Some x ↦ if length x.1 == 0 then None else amount_of negative x.0 x.1
]

-- an amount, perhaps behind a `-`
unfoldable pub amount_of_word : List ℕ → Option MoneyAmount
amount_of_word [] = None
amount_of_word (c ∷ cs) = if c == 45 then unsigned_amount true cs else unsigned_amount false (c ∷ cs)

-- ---- whole numbers

-- whether a number is from -2 ^ 63 to 2 ^ 64 - 1
abbrev pub is_number : ℤ → Bool
is_number (pos n) = nat_lt n (2 ^ 64)
is_number (negsuc n) = nat_lt n (2 ^ 63)

-- a number that is in this range
abbrev pub in_range : ℤ → Option ℤ
in_range v = if is_number v then Some v else None

-- the number of digits, of which there is one at least, behind its sign
abbrev pub number_of : Bool → List ℕ → Option ℤ
number_of negative ds =
    if nat_lt 0 (length ds) && are_digits NUMBER_DIGITS ds
    then in_range (if negative then neg_ℤ (pos (digits_value 10 ds)) else pos (digits_value 10 ds))
    else None

-- a whole number, perhaps behind a `-`
unfoldable pub number_of_word : List ℕ → Option ℤ
number_of_word [] = None
number_of_word (c ∷ cs) = if c == 45 then number_of true cs else number_of false (c ∷ cs)
