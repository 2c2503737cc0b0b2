-- The items and localeconv's fields of a few locales.
use Rattle.std.proofs.Common.{◌≡◌, ℕ, List, [], ◌∷◌, refl, ap}
use Rattle.std.specs.Prelude.{codes, pos, negsuc}
use Rattle.std.specs.Borrow.{Bor}
use Rattle.lc_base.specs.declared.place.Place.{Place}
use Rattle.lc_base.specs.declared.item.Item.{Item}
use Rattle.lc_base.specs.declared.item.Item.TheVariants as items
use Rattle.keywords.specs.declared.source.Value.{Value}
use Rattle.keywords.specs.declared.source.Value.TheVariants.{Text, Number}
use Rattle.keywords.specs.declared.source.Entry.{Entry}
use Rattle.charset.specs.CodedSet.{CodedSet, utf8, posix, set_name}
use Rattle.ctype_classes.specs.CtypeValues.{CtypeValues}
use Rattle.numeric_cat.specs.Numeric as numeric
use Rattle.monetary_cat.specs.Monetary as monetary
use Rattle.monetary_cat.specs.Monetary.{text, number, sign_numbers}
use Rattle.time_cat.specs.Values.{values_of}
use Rattle.messages_cat.specs.Messages as messages
use Rattle.langinfo.specs.Items.{info}
use Rattle.langinfo.specs.Conv.{conv, chars_of, bare_texts, bare_numbers}
use Rattle.langinfo.specs.Lent.{owned_text}
use Rattle.langinfo.specs.declared.field.ConvText.TheVariants.{Bytes, Sizes}
use Rattle.langinfo.specs.declared.field.LentText.TheVariants as lent_texts

-- a keyword with one operand, and with several
abbrev here : Place
here = record { line = 2; column = 1 }

abbrev with : List ℕ → Value → Entry
with keyword value = record { keyword = keyword; place = here; values = (here, value) ∷ [] }

abbrev with_two : List ℕ → Value → Value → Entry
with_two keyword first second = record { keyword = keyword; place = here; values = (here, first) ∷ (here, second) ∷ [] }

-- what a charset is called; an item asks LC_CTYPE for no more
abbrev named : CodedSet → CtypeValues
named set = record { codeset = set_name set; classes = []; upper = []; lower = [] }

-- an item of a locale with these keywords
abbrev asked : CodedSet → List Entry → Item → List ℕ
asked set list item = info (named set) (numeric.values_of list) (monetary.values_of list) (values_of list) (messages.values_of list) item

-- the POSIX locale
abbrev of_posix : Item → List ℕ
of_posix item = asked posix [] item

code_set : of_posix items.Codeset ≡ codes "US-ASCII"
unfolding text number sign_numbers values_of
code_set = refl

other_code_set : asked utf8 [] items.Codeset ≡ codes "UTF-8"
unfolding text number sign_numbers values_of
other_code_set = refl

radix : of_posix items.Radixchar ≡ codes "."
unfolding text number sign_numbers values_of
radix = refl

separator : of_posix items.Thousep ≡ []
unfolding text number sign_numbers values_of
separator = refl

yes : of_posix items.Yesexpr ≡ codes "^[yY]"
unfolding text number sign_numbers values_of
yes = refl

no : of_posix items.Noexpr ≡ codes "^[nN]"
unfolding text number sign_numbers values_of
no = refl

no_currency : of_posix items.Crncystr ≡ []
unfolding text number sign_numbers values_of
no_currency = refl

date_and_time : of_posix items.DTFmt ≡ codes "%a %b %e %H:%M:%S %Y"
unfolding text number sign_numbers values_of
date_and_time = refl

date : of_posix items.DFmt ≡ codes "%m/%d/%y"
unfolding text number sign_numbers values_of
date = refl

clock : of_posix items.TFmt ≡ codes "%H:%M:%S"
unfolding text number sign_numbers values_of
clock = refl

half_day_clock : of_posix items.TFmtAmpm ≡ codes "%I:%M:%S %p"
unfolding text number sign_numbers values_of
half_day_clock = refl

before_noon : of_posix items.AmStr ≡ codes "AM"
unfolding text number sign_numbers values_of
before_noon = refl

after_noon : of_posix items.PmStr ≡ codes "PM"
unfolding text number sign_numbers values_of
after_noon = refl

-- the week begins on Sunday, and the year in January
first_day : of_posix items.Day1 ≡ codes "Sunday"
unfolding text number sign_numbers values_of
first_day = refl

second_day : of_posix items.Day2 ≡ codes "Monday"
unfolding text number sign_numbers values_of
second_day = refl

last_day : of_posix items.Day7 ≡ codes "Saturday"
unfolding text number sign_numbers values_of
last_day = refl

last_short_day : of_posix items.Abday7 ≡ codes "Sat"
unfolding text number sign_numbers values_of
last_short_day = refl

first_month : of_posix items.Mon1 ≡ codes "January"
unfolding text number sign_numbers values_of
first_month = refl

last_month : of_posix items.Mon12 ≡ codes "December"
unfolding text number sign_numbers values_of
last_month = refl

second_short_month : of_posix items.Abmon2 ≡ codes "Feb"
unfolding text number sign_numbers values_of
second_short_month = refl

no_era : of_posix items.Era ≡ []
unfolding text number sign_numbers values_of
no_era = refl

no_digits : of_posix items.AltDigits ≡ []
unfolding text number sign_numbers values_of
no_digits = refl

-- segments and digits with ; between
two_segments : asked utf8 (with_two (codes "era") (Text (codes "a")) (Text (codes "b")) ∷ []) items.Era ≡ codes "a;b"
unfolding text number sign_numbers values_of
two_segments = refl

one_digit : asked utf8 (with (codes "alt_digits") (Text (codes "x")) ∷ []) items.AltDigits ≡ codes "x"
unfolding text number sign_numbers values_of
one_digit = refl

two_digits : asked utf8 (with_two (codes "alt_digits") (Text []) (Text (codes "x")) ∷ []) items.AltDigits ≡ codes ";x"
unfolding text number sign_numbers values_of
two_digits = refl

-- the formats of eras
era_date : asked utf8 (with (codes "era_d_fmt") (Text (codes "%Ey")) ∷ []) items.EraDFmt ≡ codes "%Ey"
unfolding text number sign_numbers values_of
era_date = refl

era_date_and_time : asked utf8 (with (codes "era_d_t_fmt") (Text (codes "%Ex")) ∷ []) items.EraDTFmt ≡ codes "%Ex"
unfolding text number sign_numbers values_of
era_date_and_time = refl

era_clock : asked utf8 (with (codes "era_t_fmt") (Text (codes "%H")) ∷ []) items.EraTFmt ≡ codes "%H"
unfolding text number sign_numbers values_of
era_clock = refl

-- the symbol before the number, behind it, at an unknown place, and none
abbrev symbol : Entry
symbol = with (codes "currency_symbol") (Text (codes "$"))

currency_before : asked utf8 (symbol ∷ with (codes "p_cs_precedes") (Number (pos 1)) ∷ []) items.Crncystr ≡ codes "-$"
unfolding text number sign_numbers values_of
currency_before = refl

currency_behind : asked utf8 (symbol ∷ with (codes "p_cs_precedes") (Number (pos 0)) ∷ []) items.Crncystr ≡ codes "+$"
unfolding text number sign_numbers values_of
currency_behind = refl

currency_anywhere : asked utf8 (symbol ∷ []) items.Crncystr ≡ codes "-$"
unfolding text number sign_numbers values_of
currency_anywhere = refl

currency_nowhere : asked utf8 (with (codes "p_cs_precedes") (Number (pos 0)) ∷ []) items.Crncystr ≡ []
unfolding text number sign_numbers values_of
currency_nowhere = refl

-- the fields of the POSIX locale
conv_posix : conv numeric.posix_values monetary.posix_values ≡ record {
  texts =
      (codes "decimal_point", Bytes (codes ".")) ∷
      (codes "thousands_sep", Bytes []) ∷
      (codes "grouping", Sizes []) ∷
      (codes "int_curr_symbol", Bytes []) ∷
      (codes "currency_symbol", Bytes []) ∷
      (codes "mon_decimal_point", Bytes []) ∷
      (codes "mon_thousands_sep", Bytes []) ∷
      (codes "mon_grouping", Sizes []) ∷
      (codes "positive_sign", Bytes []) ∷
      (codes "negative_sign", Bytes []) ∷ [];
  numbers =
      (codes "int_frac_digits", 127) ∷
      (codes "frac_digits", 127) ∷
      (codes "p_cs_precedes", 127) ∷
      (codes "p_sep_by_space", 127) ∷
      (codes "n_cs_precedes", 127) ∷
      (codes "n_sep_by_space", 127) ∷
      (codes "p_sign_posn", 127) ∷
      (codes "n_sign_posn", 127) ∷
      (codes "int_p_cs_precedes", 127) ∷
      (codes "int_n_cs_precedes", 127) ∷
      (codes "int_p_sep_by_space", 127) ∷
      (codes "int_n_sep_by_space", 127) ∷
      (codes "int_p_sign_posn", 127) ∷
      (codes "int_n_sign_posn", 127) ∷ [];
}
unfolding text number sign_numbers
conv_posix = refl

-- a locale whose fields all differ
abbrev numbers_of : List Entry
numbers_of =
    with_two (codes "grouping") (Number (pos 3)) (Number (negsuc 0)) ∷
    with (codes "thousands_sep") (Text (codes "_")) ∷
    with (codes "decimal_point") (Text (codes ",")) ∷ []

abbrev amounts_of : List Entry
amounts_of =
    with (codes "int_curr_symbol") (Text (codes "ABC ")) ∷
    with (codes "currency_symbol") (Text (codes "c")) ∷
    with (codes "mon_decimal_point") (Text (codes "d")) ∷
    with (codes "mon_thousands_sep") (Text (codes "t")) ∷
    with (codes "mon_grouping") (Number (pos 4)) ∷
    with (codes "positive_sign") (Text (codes "p")) ∷
    with (codes "negative_sign") (Text (codes "n")) ∷
    with (codes "int_frac_digits") (Number (pos 10)) ∷
    with (codes "frac_digits") (Number (pos 11)) ∷
    with (codes "p_cs_precedes") (Number (pos 12)) ∷
    with (codes "p_sep_by_space") (Number (pos 13)) ∷
    with (codes "n_cs_precedes") (Number (pos 14)) ∷
    with (codes "n_sep_by_space") (Number (pos 15)) ∷
    with (codes "p_sign_posn") (Number (pos 16)) ∷
    with (codes "n_sign_posn") (Number (pos 17)) ∷
    with (codes "int_p_cs_precedes") (Number (pos 18)) ∷
    with (codes "int_n_cs_precedes") (Number (pos 19)) ∷
    with (codes "int_p_sep_by_space") (Number (pos 20)) ∷
    with (codes "int_n_sep_by_space") (Number (pos 21)) ∷
    with (codes "int_p_sign_posn") (Number (pos 22)) ∷
    with (codes "int_n_sign_posn") (Number (pos 23)) ∷ []

conv_all : conv (numeric.values_of numbers_of) (monetary.values_of amounts_of) ≡ record {
  texts =
      (codes "decimal_point", Bytes (codes ",")) ∷
      (codes "thousands_sep", Bytes (codes "_")) ∷
      (codes "grouping", Sizes (3 ∷ 127 ∷ [])) ∷
      (codes "int_curr_symbol", Bytes (codes "ABC ")) ∷
      (codes "currency_symbol", Bytes (codes "c")) ∷
      (codes "mon_decimal_point", Bytes (codes "d")) ∷
      (codes "mon_thousands_sep", Bytes (codes "t")) ∷
      (codes "mon_grouping", Sizes (4 ∷ [])) ∷
      (codes "positive_sign", Bytes (codes "p")) ∷
      (codes "negative_sign", Bytes (codes "n")) ∷ [];
  numbers =
      (codes "int_frac_digits", 10) ∷
      (codes "frac_digits", 11) ∷
      (codes "p_cs_precedes", 12) ∷
      (codes "p_sep_by_space", 13) ∷
      (codes "n_cs_precedes", 14) ∷
      (codes "n_sep_by_space", 15) ∷
      (codes "p_sign_posn", 16) ∷
      (codes "n_sign_posn", 17) ∷
      (codes "int_p_cs_precedes", 18) ∷
      (codes "int_n_cs_precedes", 19) ∷
      (codes "int_p_sep_by_space", 20) ∷
      (codes "int_n_sep_by_space", 21) ∷
      (codes "int_p_sign_posn", 22) ∷
      (codes "int_n_sign_posn", 23) ∷ [];
}
unfolding text number sign_numbers
conv_all = refl

chars_of_sizes : chars_of (Sizes (3 ∷ 127 ∷ [])) ≡ 3 ∷ 127 ∷ []
chars_of_sizes = refl

-- ---- what categories lend

-- sizes of groups stay as they are
sizes_lent : (sizes : Bor (List ℕ)) → sizes.now ≡ 3 ∷ 127 ∷ [] → owned_text (lent_texts.Sizes sizes) ≡ Sizes (3 ∷ 127 ∷ [])
sizes_lent sizes is = ap (λ (s : List ℕ). Sizes s) is

-- a text stays as it is
text_lent : (text : Bor (List ℕ)) → text.now ≡ codes "+" → owned_text (lent_texts.Bytes text) ≡ Bytes (codes "+")
text_lent text is = ap (λ (t : List ℕ). Bytes t) is

-- fields without their names
texts_alone : bare_texts ((codes "decimal_point", Bytes (codes ",")) ∷ (codes "grouping", Sizes (3 ∷ 127 ∷ [])) ∷ []) ≡ codes "," ∷ (3 ∷ 127 ∷ []) ∷ []
texts_alone = refl

numbers_alone : bare_numbers ((codes "frac_digits", 2) ∷ (codes "p_cs_precedes", 1) ∷ []) ≡ 2 ∷ 1 ∷ []
numbers_alone = refl
