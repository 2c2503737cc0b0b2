-- The fields of localeconv's structure (XSH localeconv, XBD <locale.h>).
use Rattle.std.specs.Prelude.{ℕ, List, [], ◌∷◌, map, codes}
use Rattle.keywords.specs.LconvChars.{encoded, groups}
use Rattle.numeric_cat.specs.NumericValues.{NumericValues}
use Rattle.monetary_cat.specs.declared.keys.MonText.TheVariants.{IntCurrSymbol, CurrencySymbol, MonDecimalPoint, MonThousandsSep, PositiveSign, NegativeSign}
use Rattle.monetary_cat.specs.declared.keys.MonNumber.TheVariants.{IntFracDigits, FracDigits, PCsPrecedes, PSepBySpace, NCsPrecedes, NSepBySpace, PSignPosn, NSignPosn, IntPCsPrecedes, IntNCsPrecedes, IntPSepBySpace, IntNSepBySpace, IntPSignPosn, IntNSignPosn}
use Rattle.monetary_cat.specs.Monetary.{MonetaryValues, text_of, number_of}
use Rattle.langinfo.specs.declared.field.ConvText.{ConvText}
use Rattle.langinfo.specs.declared.field.ConvText.TheVariants.{Bytes, Sizes}
use Rattle.langinfo.specs.declared.conv.Lconv.{Lconv}

-- the bytes of a text as C has it
abbrev pub chars_of : ConvText → List ℕ
chars_of (Bytes bytes) = bytes
chars_of (Sizes chars) = chars

-- the fields that are texts: the name of each in C, and the value of its keyword
abbrev pub text_fields : NumericValues → MonetaryValues → List (List ℕ × ConvText)
text_fields numeric monetary =
    (codes "decimal_point", Bytes numeric.decimal_point) ∷
    (codes "thousands_sep", Bytes numeric.thousands_sep) ∷
    (codes "grouping", Sizes (groups numeric.grouping)) ∷
    (codes "int_curr_symbol", Bytes (text_of monetary IntCurrSymbol)) ∷
    (codes "currency_symbol", Bytes (text_of monetary CurrencySymbol)) ∷
    (codes "mon_decimal_point", Bytes (text_of monetary MonDecimalPoint)) ∷
    (codes "mon_thousands_sep", Bytes (text_of monetary MonThousandsSep)) ∷
    (codes "mon_grouping", Sizes (groups monetary.mon_grouping)) ∷
    (codes "positive_sign", Bytes (text_of monetary PositiveSign)) ∷
    (codes "negative_sign", Bytes (text_of monetary NegativeSign)) ∷ []

-- the fields that are numbers: the name of each in C, and the value of its keyword
abbrev pub number_fields : MonetaryValues → List (List ℕ × ℕ)
number_fields monetary =
    (codes "int_frac_digits", encoded (number_of monetary IntFracDigits)) ∷
    (codes "frac_digits", encoded (number_of monetary FracDigits)) ∷
    (codes "p_cs_precedes", encoded (number_of monetary PCsPrecedes)) ∷
    (codes "p_sep_by_space", encoded (number_of monetary PSepBySpace)) ∷
    (codes "n_cs_precedes", encoded (number_of monetary NCsPrecedes)) ∷
    (codes "n_sep_by_space", encoded (number_of monetary NSepBySpace)) ∷
    (codes "p_sign_posn", encoded (number_of monetary PSignPosn)) ∷
    (codes "n_sign_posn", encoded (number_of monetary NSignPosn)) ∷
    (codes "int_p_cs_precedes", encoded (number_of monetary IntPCsPrecedes)) ∷
    (codes "int_n_cs_precedes", encoded (number_of monetary IntNCsPrecedes)) ∷
    (codes "int_p_sep_by_space", encoded (number_of monetary IntPSepBySpace)) ∷
    (codes "int_n_sep_by_space", encoded (number_of monetary IntNSepBySpace)) ∷
    (codes "int_p_sign_posn", encoded (number_of monetary IntPSignPosn)) ∷
    (codes "int_n_sign_posn", encoded (number_of monetary IntNSignPosn)) ∷ []

-- the texts without their names, as C has them
abbrev pub bare_texts : List (List ℕ × ConvText) → List (List ℕ)
bare_texts fields = map (λ (f : List ℕ × ConvText). chars_of f.1) fields

-- the numbers without their names
abbrev pub bare_numbers : List (List ℕ × ℕ) → List ℕ
bare_numbers fields = map (λ (f : List ℕ × ℕ). f.1) fields

-- what localeconv gives
abbrev pub conv : NumericValues → MonetaryValues → Lconv
conv numeric monetary = record { texts = text_fields numeric monetary; numbers = number_fields monetary }
