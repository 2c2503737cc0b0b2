-- The text of a rounded amount, part for part as the definitions have it for the amount.
use Rattle.std.specs.Prelude.{ℕ, ◌-◌, ◌==◌, List, [], ◌++◌, replicate, unwrap_or, if◌then◌else◌}
use Rattle.digit_groups.specs.Groups.{grouped}
use Rattle.monetary_cat.specs.Monetary.{MonetaryValues, text_of}
use Rattle.monetary_cat.specs.declared.keys.MonText.TheVariants.{MonThousandsSep}
use Rattle.strfmon.specs.declared.decimal.Decimal.{Decimal}
use Rattle.strfmon.specs.declared.format.MoneyConversion.{MoneyConversion}
use Rattle.digit_groups.specs.Digits.{digit_count, last_digits}
use Rattle.strfmon.specs.Looks.{Look, parts_text}
use Rattle.strfmon.specs.Money.{sizes_of, radix_of, spaces}

-- the radix and the fraction, where there is one
abbrev pub shown_fraction : MonetaryValues → Decimal → List ℕ
shown_fraction v d = if d.precision == 0 then [] else radix_of v ++ (last_digits d.kept d.magnitude ++ replicate (d.precision - d.kept) 48)

-- the digits in groups, the radix and the fraction
abbrev pub shown_number : MonetaryValues → MoneyConversion → Decimal → List ℕ
shown_number v c d = grouped (last_digits (digit_count d.whole) d.whole) (sizes_of v c) (text_of v MonThousandsSep) ++ shown_fraction v d

-- the number with what stands beside it, and so many spaces and fill bytes
abbrev pub shown_parts : MonetaryValues → MoneyConversion → Decimal → Look → ℕ → ℕ → ℕ → List ℕ
shown_parts v c d look before fill after =
    spaces before
    ++ parts_text look look.before
    ++ replicate fill (unwrap_or c.flags.fill 32)
    ++ shown_number v c d
    ++ parts_text look look.after
    ++ spaces after
