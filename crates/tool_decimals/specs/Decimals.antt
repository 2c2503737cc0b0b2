-- Decimals as they are written, and rounded half to even (our own).
use Rattle.std.specs.Prelude.{ℕ, ◌+◌, ◌-◌, ◌*◌, ◌%◌, ◌==◌, nat_eq, nat_lt, nat_le, Bool, true, false, not, ◌&&◌, ◌||◌, List, [], ◌∷◌, ◌++◌, length, take, drop, reverse, replicate, Option, Some, None, if◌then◌else◌}
use Rattle.std.specs.Char.{is_ascii_digit}
use Rattle.std.specs.List.{list_all}
use Rattle.lc_base.specs.Cuts.{cut_at}
use Rattle.tool_decimals.specs.declared.decimal.Decimal.{Decimal}

-- a number: whether a `-` stands in front, and its digits before and behind the point
pub record Number : Type 0 where
  pub has_minus : Bool
  pub whole : List ℕ
  pub fraction : List ℕ

-- the number of lent digits
abbrev pub number_of : Decimal → Number
number_of d = record { has_minus = d.has_minus; whole = d.whole.now; fraction = d.fraction.now }

-- ---- as it is written

-- the number of whole digits, of which there is one at least, and fraction digits, 100 in all at most
abbrev pub decimal_of : Bool → List ℕ → List ℕ → Option Number
decimal_of has_minus whole fraction =
    if nat_lt 0 (length whole) && list_all is_ascii_digit whole && list_all is_ascii_digit fraction && nat_le (length whole + length fraction) 100
    then Some (record { has_minus = has_minus; whole = whole; fraction = fraction })
    else None

-- a number without its sign: behind a point stands one digit at least
abbrev pub unsigned_decimal : Bool → List ℕ → Option Number
unsigned_decimal has_minus w = elim (cut_at 46 w) [
  | None ↦ decimal_of has_minus w []
  | Some x ↦ if length x.1 == 0 then None else decimal_of has_minus x.0 x.1
]

-- a number, perhaps behind a `-`
unfoldable pub decimal_of_word : List ℕ → Option Number
decimal_of_word [] = None
decimal_of_word (c ∷ cs) = if c == 45 then unsigned_decimal true cs else unsigned_decimal false (c ∷ cs)

-- whether a number is below 0, which `-0` is not
abbrev pub is_below_zero : Number → Bool
is_below_zero d = d.has_minus && not (list_all (λ c. nat_eq c 48) d.whole && list_all (λ c. nat_eq c 48) d.fraction)

-- ---- rounded

-- a digit, one more where 1 is carried; behind a 9 comes 0
abbrev pub stepped : Bool → ℕ → ℕ
stepped carry c = if carry then (if nat_lt c 57 then c + 1 else 48) else c

-- whether it is carried on
abbrev pub carries : Bool → ℕ → Bool
carries carry c = carry && nat_le 57 c

-- the digits of a number from its end on, one more where 1 is carried
unfoldable pub carried : Bool → List ℕ → List ℕ
carried carry [] = if carry then 49 ∷ [] else []
carried carry (c ∷ cs) = stepped carry c ∷ carried (carries carry c) cs

-- whether cut digits are more than half of the last digit that stays, or just half of it where that is odd
abbrev pub is_rounded_up : Bool → List ℕ → Bool
is_rounded_up odd [] = false
is_rounded_up odd (c ∷ cs) = nat_lt 53 c || (c == 53 && (odd || not (list_all (λ d. nat_eq d 48) cs)))

-- whether the number of digits is odd, from their end on
abbrev pub is_odd : List ℕ → Bool
is_odd [] = false
is_odd (c ∷ cs) = c % 2 == 1

-- the digits that stay with so many fraction digits, from their end on
abbrev pub kept : ℕ → Number → List ℕ
kept p d = reverse (d.whole ++ take p d.fraction)

-- the digits of a number with so many fraction digits, rounded half to even or with zeros behind
abbrev pub rounded : ℕ → Number → List ℕ
rounded p d = reverse (carried (is_rounded_up (is_odd (kept p d)) (drop p d.fraction)) (kept p d)) ++ replicate (p - length d.fraction) 48

-- the digits without zeros in front, at least one
unfoldable pub without_zeros : List ℕ → List ℕ
without_zeros [] = []
without_zeros (c ∷ []) = c ∷ []
without_zeros (c ∷ d ∷ ds) = if c == 48 then without_zeros (d ∷ ds) else c ∷ d ∷ ds

-- ---- the law of what is carried

-- the value of digits from their end on
unfoldable pub value_back : List ℕ → ℕ
value_back [] = 0
value_back (c ∷ cs) = (c - 48) + 10 * value_back cs

-- 1 where it is carried
abbrev pub one : Bool → ℕ
one carry = if carry then 1 else 0
