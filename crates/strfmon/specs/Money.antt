-- The text of a format with its amounts (XSH strfmon).
use Rattle.std.specs.Prelude.{◌≡◌, ℕ, ℤ, pos, ◌-◌, nat_le, ◌==◌, int_lt, not, Bool, List, [], ◌++◌, length, replicate, codes, Option, Some, None, unwrap_or, IfSome, Result, Ok, Err, if◌then◌else◌}
use Rattle.digit_groups.specs.Groups.{grouped, grouped_width}
use Rattle.digit_groups.specs.Formats.{formatted, at_most}
unfoldable pub use Rattle.digit_groups.specs.Formats.{pieces_text, missing}
use Rattle.monetary_cat.specs.Monetary.{MonetaryValues, text_of, number_of}
use Rattle.monetary_cat.specs.declared.keys.MonText.TheVariants.{MonDecimalPoint, MonThousandsSep}
use Rattle.monetary_cat.specs.declared.keys.MonNumber.TheVariants.{IntFracDigits, FracDigits}
use Rattle.strfmon.specs.declared.format.MoneyConversion.{MoneyConversion}
use Rattle.strfmon.specs.declared.fault.MoneyFault.{MoneyFault}
use Rattle.strfmon.specs.declared.fault.MoneyFault.TheVariants as faults
use Rattle.lc_base.specs.Amounts.{MoneyAmount}
use Rattle.strfmon.specs.Decimals.{whole_digits, fraction_digits}
use Rattle.strfmon.specs.Formats.{conversion}
use Rattle.lc_base.specs.declared.refusal.FormatRefusal.{FormatRefusal}
use Rattle.lc_base.specs.declared.refusal.FormatRefusal.TheVariants.{BadFormat, MissingAmount, TooBig}
use Rattle.strfmon.specs.Looks.{Look, look_of, parts_text, given}

-- ---- the number

-- fraction digits: those of the conversion, else those of the locale, else two (our own)
abbrev pub precision_of : MonetaryValues → MoneyConversion → ℕ
precision_of v c = unwrap_or c.precision (given (number_of v (if c.international then IntFracDigits else FracDigits)) 2)

-- the sizes of groups; `^` groups nothing
abbrev pub sizes_of : MonetaryValues → MoneyConversion → List ℤ
sizes_of v c = if c.flags.no_groups then [] else v.mon_grouping

-- the radix, which is `.` where the locale has none (our own)
abbrev pub radix_of : MonetaryValues → List ℕ
radix_of v = if length (text_of v MonDecimalPoint) == 0 then codes "." else text_of v MonDecimalPoint

-- the radix and the fraction, where there is one
abbrev pub fraction_text : MonetaryValues → ℕ → MoneyAmount → List ℕ
fraction_text v p a = if p == 0 then [] else radix_of v ++ fraction_digits p a

-- the digits in groups, the radix and the fraction
abbrev pub number_text : MonetaryValues → MoneyConversion → MoneyAmount → List ℕ
number_text v c a = grouped (whole_digits (precision_of v c) a) (sizes_of v c) (text_of v MonThousandsSep) ++ fraction_text v (precision_of v c) a

-- ---- alignment by `#n`

-- how many whole digits are aligned to, where there are at most so many: more digits pass `#n` over, with its padding (our own)
abbrev pub aligned_digits : MoneyConversion → ℕ → Option ℕ
aligned_digits c digits = elim c.whole_digits [
  | None ↦ None
  | Some n ↦ if nat_le digits n then Some n else None
]

-- the fill: the bytes that so many grouped digits have more than these
abbrev pub fill_count : MonetaryValues → MoneyConversion → ℕ → Option ℕ → ℕ
fill_count v c digits None = 0
fill_count v c digits (Some n) =
    grouped_width n (sizes_of v c) (length (text_of v MonThousandsSep)) - grouped_width digits (sizes_of v c) (length (text_of v MonThousandsSep))

-- how much longer the text of one look is than that of the other, where they are aligned
abbrev pub pad_count : Option ℕ → List ℕ → List ℕ → ℕ
pad_count None own other = 0
pad_count (Some n) own other = length other - length own

-- ---- a conversion

-- spaces
abbrev pub spaces : ℕ → List ℕ
spaces n = replicate n 32

-- a text with so many spaces behind it, or else before it
abbrev pub with_spaces : Bool → ℕ → List ℕ → List ℕ
with_spaces left n text = if left then text ++ spaces n else spaces n ++ text

-- a text in a field of at least so many bytes
abbrev pub in_field : Bool → ℕ → List ℕ → List ℕ
in_field left width text = with_spaces left (width - length text) text

-- whether an amount is below 0, also where it is rounded to 0
abbrev pub is_negative : MoneyAmount → Bool
is_negative a = int_lt a.units (pos 0)

-- what stands before the number, the fill, the number and what stands behind it, with so many spaces and fill bytes
abbrev pub text_parts : MonetaryValues → MoneyConversion → MoneyAmount → Look → ℕ → ℕ → ℕ → List ℕ
text_parts v c a look before fill after =
    spaces before
    ++ parts_text look look.before
    ++ replicate fill (unwrap_or c.flags.fill 32)
    ++ number_text v c a
    ++ parts_text look look.after
    ++ spaces after

-- the same, aligned with the look of the other sign
unfoldable pub text_with : MonetaryValues → MoneyConversion → MoneyAmount → Look → Look → List ℕ
text_with v c a own other =
    let digits = length (whole_digits (precision_of v c) a) in
    let aligned = aligned_digits c digits in
    text_parts v c a own
    (pad_count aligned (parts_text own own.before) (parts_text other other.before))
    (fill_count v c digits aligned)
    (pad_count aligned (parts_text own own.after) (parts_text other other.after))

-- the text of an amount but for its field
abbrev pub aligned_text : MonetaryValues → MoneyConversion → MoneyAmount → List ℕ
aligned_text v c a = text_with v c a (look_of v c (is_negative a)) (look_of v c (not (is_negative a)))

-- the text of an amount
abbrev pub conversion_text : MonetaryValues → MoneyConversion → MoneyAmount → List ℕ
conversion_text v c a = in_field c.flags.left c.width (aligned_text v c a)

-- ---- a format

-- the text of a format with its amounts, or the refusal
abbrev pub money_text : MonetaryValues → List ℕ → List MoneyAmount → Result (List ℕ) FormatRefusal
money_text v format amounts = formatted conversion (conversion_text v) (λ at. MissingAmount at) format amounts

-- the same of at most so many bytes
abbrev pub money : MonetaryValues → List ℕ → List MoneyAmount → ℕ → Result (List ℕ) FormatRefusal
money v format amounts max_len = at_most max_len (money_text v format amounts)

-- why there is no text, unless it was out of memory
abbrev pub refusal_of : MoneyFault → Option FormatRefusal
refusal_of (faults.BadFormat at) = Some (BadFormat at)
refusal_of (faults.MissingAmount at) = Some (MissingAmount at)
refusal_of faults.TooBig = Some TooBig
refusal_of faults.Memory = None

-- a fault is the refusal of the definition, or out of memory, which says nothing
abbrev pub Refuses : MoneyFault → Result (List ℕ) FormatRefusal → Type 0
Refuses e answer = IfSome (refusal_of e) (λ why. answer ≡ Err why)

-- a result, its text seen by view, is the answer, unless it is out of memory
abbrev pub Answers : {X : Type 0} → (X → List ℕ) → Result X MoneyFault → Result (List ℕ) FormatRefusal → Type 0
Answers view (Ok x) answer = answer ≡ Ok (view x)
Answers view (Err e) answer = Refuses e answer
