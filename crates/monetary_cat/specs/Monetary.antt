-- The keywords of LC_MONETARY (XBD 7.3.3): their values in a locale, and what a keyword list makes them.
use Rattle.std.specs.Prelude.{ℕ, ℤ, List, [], codes, Ok}
use Rattle.lc_base.specs.declared.category.Category.TheVariants as categories
use Rattle.lc_base.specs.Reading.{Reads, ◌>>=◌}
use Rattle.keywords.specs.declared.source.Entry.{Entry}
use Rattle.keywords.specs.Keywords.{text_value, number_value, numbers_value}
use Rattle.keywords.specs.Rules.{checked}
use Rattle.monetary_cat.specs.declared.keys.MoneyTexts.{MoneyTexts}
use Rattle.monetary_cat.specs.declared.keys.SignNumbers.{SignNumbers}
use Rattle.monetary_cat.specs.declared.keys.FormNumbers.{FormNumbers}
use Rattle.monetary_cat.specs.declared.keys.MonText.{MonText}
use Rattle.monetary_cat.specs.declared.keys.MonText.TheVariants.{IntCurrSymbol, CurrencySymbol, MonDecimalPoint, MonThousandsSep, PositiveSign, NegativeSign}
use Rattle.monetary_cat.specs.declared.keys.MonNumber.{MonNumber}
use Rattle.monetary_cat.specs.declared.keys.MonNumber.TheVariants.{IntFracDigits, FracDigits, PCsPrecedes, PSepBySpace, NCsPrecedes, NSepBySpace, PSignPosn, NSignPosn, IntPCsPrecedes, IntNCsPrecedes, IntPSepBySpace, IntNSepBySpace, IntPSignPosn, IntNSignPosn}

-- the texts, the sizes of groups, and the numbers of both forms
pub record MonetaryValues : Type 0 where
  pub texts : MoneyTexts
  pub mon_grouping : List ℤ
  pub local : FormNumbers
  pub international : FormNumbers

-- the text of a keyword
abbrev pub text_of : MonetaryValues → MonText → List ℕ
text_of v IntCurrSymbol = v.texts.int_curr_symbol
text_of v CurrencySymbol = v.texts.currency_symbol
text_of v MonDecimalPoint = v.texts.mon_decimal_point
text_of v MonThousandsSep = v.texts.mon_thousands_sep
text_of v PositiveSign = v.texts.positive_sign
text_of v NegativeSign = v.texts.negative_sign

-- the number of a keyword
abbrev pub number_of : MonetaryValues → MonNumber → ℤ
number_of v IntFracDigits = v.international.frac_digits
number_of v FracDigits = v.local.frac_digits
number_of v PCsPrecedes = v.local.plus.cs_precedes
number_of v PSepBySpace = v.local.plus.sep_by_space
number_of v NCsPrecedes = v.local.minus.cs_precedes
number_of v NSepBySpace = v.local.minus.sep_by_space
number_of v PSignPosn = v.local.plus.sign_posn
number_of v NSignPosn = v.local.minus.sign_posn
number_of v IntPCsPrecedes = v.international.plus.cs_precedes
number_of v IntNCsPrecedes = v.international.minus.cs_precedes
number_of v IntPSepBySpace = v.international.plus.sep_by_space
number_of v IntNSepBySpace = v.international.minus.sep_by_space
number_of v IntPSignPosn = v.international.plus.sign_posn
number_of v IntNSignPosn = v.international.minus.sign_posn

-- a text
unfoldable pub text : List Entry → List ℕ → List ℕ
text list keyword = text_value categories.Monetary list keyword

-- a number
unfoldable pub number : List Entry → List ℕ → ℤ
number list keyword = number_value categories.Monetary list keyword

-- the values, where each keyword that is absent has its POSIX value
abbrev pub texts_of : List Entry → MoneyTexts
texts_of list = record {
  int_curr_symbol = text list (codes "int_curr_symbol");
  currency_symbol = text list (codes "currency_symbol");
  mon_decimal_point = text list (codes "mon_decimal_point");
  mon_thousands_sep = text list (codes "mon_thousands_sep");
  positive_sign = text list (codes "positive_sign");
  negative_sign = text list (codes "negative_sign");
}

-- the numbers of one sign, by their keywords
unfoldable pub sign_numbers : List Entry → List ℕ → List ℕ → List ℕ → SignNumbers
sign_numbers list cs_precedes sep_by_space sign_posn = record {
  cs_precedes = number list cs_precedes;
  sep_by_space = number list sep_by_space;
  sign_posn = number list sign_posn;
}

abbrev pub local_of : List Entry → FormNumbers
local_of list = record {
  frac_digits = number list (codes "frac_digits");
  plus = sign_numbers list (codes "p_cs_precedes") (codes "p_sep_by_space") (codes "p_sign_posn");
  minus = sign_numbers list (codes "n_cs_precedes") (codes "n_sep_by_space") (codes "n_sign_posn");
}

abbrev pub international_of : List Entry → FormNumbers
international_of list = record {
  frac_digits = number list (codes "int_frac_digits");
  plus = sign_numbers list (codes "int_p_cs_precedes") (codes "int_p_sep_by_space") (codes "int_p_sign_posn");
  minus = sign_numbers list (codes "int_n_cs_precedes") (codes "int_n_sep_by_space") (codes "int_n_sign_posn");
}

abbrev pub values_of : List Entry → MonetaryValues
values_of list = record {
  texts = texts_of list;
  mon_grouping = numbers_value categories.Monetary list (codes "mon_grouping");
  local = local_of list;
  international = international_of list;
}

-- the values of the POSIX locale
abbrev pub posix_values : MonetaryValues
posix_values = values_of []

-- the values that a keyword list defines, or its first broken rule
abbrev pub monetary_values : List Entry → Reads MonetaryValues
monetary_values list = checked categories.Monetary list >>= λ _. Ok (values_of list)
