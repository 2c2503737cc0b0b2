-- The text of a format with its numbers (XSH fprintf: `d`, `i` and `u`, with the flag `'`).
use Rattle.std.specs.Prelude.{◌≡◌, ℕ, ℤ, pos, negsuc, zero, suc, ◌+◌, ◌-◌, ◌^◌, nat_lt, ◌&&◌, Bool, true, false, List, [], ◌∷◌, ◌++◌, length, replicate, codes, Option, Some, None, is_none, unwrap_or, IfSome, Result, Ok, Err, if◌then◌else◌}
use Rattle.digit_groups.specs.Groups.{grouped, separates}
use Rattle.digit_groups.specs.Formats.{formatted}
pub use Rattle.digit_groups.specs.Formats.{at_most}
unfoldable pub use Rattle.digit_groups.specs.Formats.{pieces_text, missing}
use Rattle.numeric_cat.specs.NumericValues.{NumericValues}
use Rattle.int_format.specs.declared.format.IntConversion.{IntConversion}
use Rattle.int_format.specs.declared.layout.Fill.{Fill}
use Rattle.int_format.specs.declared.layout.Fill.TheVariants.{Before, Between, Behind}
use Rattle.int_format.specs.declared.fault.IntFault.{IntFault}
use Rattle.int_format.specs.declared.fault.IntFault.TheVariants as faults
use Rattle.int_format.specs.Digits.{digits_at_least}
use Rattle.int_format.specs.Formats.{conversion}
use Rattle.lc_base.specs.declared.refusal.FormatRefusal.{FormatRefusal}
use Rattle.lc_base.specs.declared.refusal.FormatRefusal.TheVariants.{BadFormat, MissingNumber, TooBig}

-- whether a number is from -2 ^ 63 to 2 ^ 64 - 1
abbrev pub is_number : ℤ → Bool
is_number (pos n) = nat_lt n (2 ^ 64)
is_number (negsuc n) = nat_lt n (2 ^ 63)

-- ---- a conversion

-- the magnitude that a conversion shows: `u` shows a number below 0 with 2 ^ 64 more
abbrev pub shown : Bool → ℤ → ℕ
shown signed (pos n) = n
shown true (negsuc n) = suc n
shown false (negsuc n) = 2 ^ 64 - suc n

-- the least number of digits, which is the precision or else 1
abbrev pub least_digits : IntConversion → ℕ
least_digits c = unwrap_or c.precision 1

-- the sizes of groups, where `'` asks for them
abbrev pub sizes_of : NumericValues → IntConversion → List ℤ
sizes_of n c = if c.flags.groups then n.grouping else []

-- the digits, in groups
abbrev pub digits_text : NumericValues → IntConversion → ℤ → List ℕ
digits_text n c v = grouped (digits_at_least (least_digits c) (shown c.signed v)) (sizes_of n c) n.thousands_sep

-- the sign; a number that is not below 0 has the one that its flags ask for, and `u` has none
abbrev pub sign_text : IntConversion → ℤ → List ℕ
sign_text c (negsuc n) = if c.signed then codes "-" else []
sign_text c (pos n) = if c.signed then (if c.flags.plus then codes "+" else if c.flags.space then codes " " else []) else []

-- where the bytes stand that fill the field: `0` does nothing beside `-`, nor beside a precision
abbrev pub fill_of : IntConversion → Fill
fill_of c = if c.flags.left then Behind else if c.flags.zeros && is_none c.precision then Between else Before

-- a sign and digits with so many bytes that fill the field
abbrev pub padded : Fill → ℕ → List ℕ → List ℕ → List ℕ
padded Before n sign digits = replicate n 32 ++ (sign ++ digits)
padded Between n sign digits = sign ++ (replicate n 48 ++ digits)
padded Behind n sign digits = sign ++ (digits ++ replicate n 32)

-- the text of a number
abbrev pub conversion_text : NumericValues → IntConversion → ℤ → List ℕ
conversion_text n c v = padded (fill_of c) (c.width - (length (sign_text c v) + length (digits_text n c v))) (sign_text c v) (digits_text n c v)

-- ---- a format

-- the text of a format with its numbers, or the refusal
abbrev pub ints : NumericValues → List ℕ → List ℤ → Result (List ℕ) FormatRefusal
ints n format numbers = formatted conversion (conversion_text n) (λ at. MissingNumber at) format numbers

-- why there is no text, unless it was out of memory
abbrev pub refusal_of : IntFault → Option FormatRefusal
refusal_of (faults.BadFormat at) = Some (BadFormat at)
refusal_of (faults.MissingNumber at) = Some (MissingNumber at)
refusal_of faults.TooBig = Some TooBig
refusal_of faults.Memory = None

-- a fault is the refusal of the definition, or out of memory, which says nothing
abbrev pub Refuses : IntFault → Result (List ℕ) FormatRefusal → Type 0
Refuses e answer = IfSome (refusal_of e) (λ why. answer ≡ Err why)

-- a result, its text seen by view, is the answer, unless it is out of memory
abbrev pub Answers : {X : Type 0} → (X → List ℕ) → Result X IntFault → Result (List ℕ) FormatRefusal → Type 0
Answers view (Ok x) answer = answer ≡ Ok (view x)
Answers view (Err e) answer = Refuses e answer

-- ---- grouped digits, read

-- the grouped digits of a number, at least one
abbrev pub grouped_digits : NumericValues → ℕ → List ℕ
grouped_digits n x = grouped (digits_at_least 1 x) n.grouping n.thousands_sep

-- what stands before the last k digits
abbrev pub between : List ℤ → List ℕ → ℕ → List ℕ
between sizes sep k = if separates sizes k then sep else []

-- the number below 0 of a magnitude, where it is from -2 ^ 63
abbrev pub below_zero : ℕ → Option ℤ
below_zero zero = None
below_zero (suc n) = if nat_lt n (2 ^ 63) then Some (negsuc n) else None

-- a number has this text under `%'d`
pub record IsTextOf (n : NumericValues) (v : ℤ) (text : List ℕ) : Type 0 where
  pub is_in_range : is_number v ≡ true
  pub is_text : ints n (codes "%'d") (v ∷ []) ≡ Ok text
