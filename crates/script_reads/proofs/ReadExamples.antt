-- What reads of an object reply, at worked examples.
use Rattle.std.proofs.Common.{◌≡◌, ℕ, true, false, [], ◌∷◌, Some, None, refl}
use Rattle.std.specs.Prelude.{ℤ, pos, negsuc, codes}
use Rattle.std.specs.Fmt.{digits}
use Rattle.lc_base.specs.declared.item.Item.TheVariants.{Codeset, Crncystr, Yesexpr}
use Rattle.mask_compose.specs.Parts.{Parts}
use Rattle.digit_groups.specs.Digits.{last_digits}
use Rattle.digit_groups.specs.Groups.{separated, separators}
use Rattle.digit_groups.specs.Numbers.{number_behind}
use Rattle.ctype_classes.specs.CtypeValues.{CtypeValues}
use Rattle.monetary_cat.specs.Monetary.{MonetaryValues, posix_values, text}
use Rattle.monetary_cat.specs.declared.keys.FormNumbers.{FormNumbers}
use Rattle.strfmon.specs.Formats.{flags_behind, conversion, piece, pieces}
use Rattle.strfmon.specs.Cells.{cell}
use Rattle.strfmon.specs.Looks.{look_of}
use Rattle.strfmon.specs.Money.{text_with, pieces_text, missing}
use Rattle.time_cat.specs.declared.tm.TmField.TheVariants.{Mon}
use Rattle.time_cat.specs.Conversions.{conversion as time_conversion}
use Rattle.time_cat.specs.Formats.{pieces as time_pieces}
use Rattle.time_cat.specs.Times.{time_of}
use Rattle.time_cat.specs.Values.{values_of}
use Rattle.time_cat.specs.Shown.{expanded}
use Rattle.time_cat.specs.declared.parsed.Parsed.{Parsed}
use Rattle.strptime_fields.specs.Items.{item}
use Rattle.strptime_fields.specs.Reading.{number as read_number, longest}
use Rattle.strptime_fields.specs.Scans.{followed}
use Rattle.category_store.specs.LibraryData.{LibraryData}
use Rattle.category_store.specs.Locale.{posix_locale}
use Rattle.lc_base.specs.Amounts.{MoneyAmount}
use Rattle.script_words.specs.declared.given.UncheckedTime.{UncheckedTime}
use Rattle.script_commands.specs.declared.command.Read.{Read}
use Rattle.script_commands.specs.declared.command.Read.TheVariants.{Info, Conv, Class, Upper, Lower, Money, Time, Parse}
use Rattle.langinfo.specs.declared.field.ConvText.TheVariants.{Bytes, Sizes}
use Rattle.langinfo.specs.Conv.{conv}
use Rattle.script_out.specs.declared.output.Said.{Said}
use Rattle.script_out.specs.declared.output.Said.TheVariants as said
use Rattle.script_out.specs.declared.output.Why.TheVariants as whys
use Rattle.script_reads.specs.Reads.{sizes_text, fields_said, local}

-- ---- a locale with a class of its own, and with dollars in groups of three

abbrev classes : CtypeValues
classes = record { codeset = codes "DEMO"; classes = (codes "vowel", (97, 97) ∷ (101, 101) ∷ []) ∷ []; upper = (97, 65) ∷ []; lower = (65, 97) ∷ [] }

abbrev before : FormNumbers
before = record posix_values.local { frac_digits = pos 2; plus = record { cs_precedes = pos 1; sep_by_space = pos 0; sign_posn = pos 1 }; minus = record { cs_precedes = pos 1; sep_by_space = pos 0; sign_posn = pos 1 } }

abbrev dollars : MonetaryValues
dollars = record posix_values {
  texts = record posix_values.texts { int_curr_symbol = codes "USD "; currency_symbol = codes "$"; mon_decimal_point = codes "."; mon_thousands_sep = codes ","; positive_sign = []; negative_sign = codes "-" };
  mon_grouping = pos 3 ∷ pos 3 ∷ [];
  local = before;
}

abbrev library : LibraryData
library = record {
  locales = record posix_locale { name = codes "a"; ctype = classes; monetary = dollars } ∷ [];
  names = (codes "a", 1) ∷ [];
  first = (codes "a", 1) ∷ [];
  keys = [];
  native = Some 1;
}

-- what a read replies of an object whose categories are all of that locale, and of the POSIX locale
abbrev all_of : ℕ → Parts
all_of n = record { ctype = n; numeric = n; monetary = n; time = n; messages = n }

abbrev of_a : Read → Said
of_a read = local library (all_of 1) read

abbrev of_posix : Read → Said
of_posix read = local library (all_of 0) read

-- ---- classes and cases

member : of_a (Class (codes "vowel") 101) ≡ said.Class true
member = refl

no_member : of_a (Class (codes "vowel") 98) ≡ said.Class false
no_member = refl

no_class : of_a (Class (codes "consonant") 98) ≡ said.Refused whys.NoClass
no_class = refl

upper_of_pair : of_a (Upper 97) ≡ said.Value 65
upper_of_pair = refl

lower_of_pair : of_a (Lower 65) ≡ said.Value 97
lower_of_pair = refl

lower_without_pair : of_a (Lower 97) ≡ said.Value 97
lower_without_pair = refl

-- ---- items and fields. Each category is that of its own locale

code_set : of_a (Info Codeset) ≡ said.Text (codes "DEMO")
code_set = refl

dollar_before : of_a (Info Crncystr) ≡ said.Text (codes "-$")
dollar_before = refl

money_of_another_locale : local library (record { ctype = 0; numeric = 0; monetary = 1; time = 0; messages = 0 }) (Info Crncystr) ≡ said.Text (codes "-$")
money_of_another_locale = refl

no_currency : local library (record { ctype = 1; numeric = 1; monetary = 0; time = 1; messages = 1 }) (Info Crncystr) ≡ said.Text []
unfolding text
no_currency = refl

posix_yes : of_posix (Info Yesexpr) ≡ said.Text (codes "^[yY]")
posix_yes = refl

no_sizes : sizes_text [] ≡ []
no_sizes = refl

three_sizes : sizes_text (3 ∷ 12 ∷ 127 ∷ []) ≡ codes "3;12;127"
unfolding digits
three_sizes = refl

fields : of_a Conv ≡ fields_said (conv posix_locale.numeric dollars)
fields = refl

amounts_of_another_locale : local library (record { ctype = 0; numeric = 0; monetary = 1; time = 0; messages = 0 }) Conv ≡ fields_said (conv posix_locale.numeric dollars)
amounts_of_another_locale = refl

-- texts as they are, sizes of groups as numbers
printed : fields_said (record { texts = (codes "a", Bytes (codes ".")) ∷ (codes "b", Sizes (3 ∷ 127 ∷ [])) ∷ []; numbers = (codes "c", 2) ∷ [] }) ≡ said.Conv (codes "." ∷ codes "3;127" ∷ []) (2 ∷ [])
unfolding digits
printed = refl

-- ---- formats

abbrev some_dollars : MoneyAmount
some_dollars = record { units = pos 123450; scale = 2 }

text_of_money : of_a (Money 9 (codes "%n") (some_dollars ∷ [])) ≡ said.Text (codes "$1,234.50")
unfolding separated separators last_digits flags_behind number_behind conversion piece pieces cell look_of text_with pieces_text missing
text_of_money = refl

money_too_big : of_a (Money 8 (codes "%n") (some_dollars ∷ [])) ≡ said.Refused whys.TooBig
unfolding separated separators last_digits flags_behind number_behind conversion piece pieces cell look_of text_with pieces_text missing
money_too_big = refl

money_missing : of_a (Money 0 (codes "%n %n") (some_dollars ∷ [])) ≡ said.Refused (whys.MissingAmount 3)
unfolding separated separators last_digits flags_behind number_behind conversion piece pieces cell look_of text_with pieces_text missing
money_missing = refl

-- a wrong conversion goes before a missing amount
money_wrong : of_a (Money 0 (codes "%n %Q") []) ≡ said.Refused (whys.BadFormat 3)
unfolding separated separators last_digits flags_behind number_behind conversion piece pieces cell look_of text_with pieces_text missing
money_wrong = refl

abbrev noon : ℤ → UncheckedTime
noon mon = record { year = pos 2021; mon = mon; mday = pos 3; hour = pos 12; min = pos 0; sec = pos 0; wday = pos 0; yday = pos 2; offset = Some (negsuc 89); zone = codes "X" }

text_of_time : of_posix (Time 1024 (codes "%F %z %Z") (noon (pos 1))) ≡ said.Text (codes "2021-01-03 -0130 X")
unfolding values_of expanded time_pieces time_conversion time_of
text_of_time = refl

time_too_big : of_posix (Time 9 (codes "%F") (noon (pos 1))) ≡ said.Refused whys.TooBig
unfolding values_of expanded time_pieces time_conversion time_of
time_too_big = refl

time_wrong : of_posix (Time 0 (codes "%F%Q") (noon (pos 1))) ≡ said.Refused (whys.BadFormat 2)
unfolding values_of expanded time_pieces time_conversion time_of
time_wrong = refl

-- a field out of its range goes before a wrong conversion
out_of_range : of_posix (Time 0 (codes "%Q") (noon (pos 13))) ≡ said.Refused (whys.TmRange Mon)
unfolding values_of expanded time_pieces time_conversion time_of
out_of_range = refl

-- ---- times that are read

-- the day of the month alone, and the index of the byte behind it
abbrev seventh : Parsed
seventh = record { year = None; mon = None; mday = Some 7; hour = None; min = None; sec = None; wday = None; yday = None }

day_read : of_posix (Parse (codes "%d") (codes "7x")) ≡ said.Parsed seventh 1
unfolding values_of followed time_pieces time_conversion item read_number longest
day_read = refl

day_out_of_range : of_posix (Parse (codes "%d") (codes "32")) ≡ said.Refused (whys.Mismatch 0)
unfolding values_of followed time_pieces time_conversion item read_number longest
day_out_of_range = refl

-- the place of a mismatch is one in the text, that of a wrong conversion one in the format, which goes first
mismatch_of_text : of_posix (Parse (codes "%H:%M") (codes "10-20")) ≡ said.Refused (whys.Mismatch 2)
unfolding values_of followed time_pieces time_conversion item read_number longest
mismatch_of_text = refl

parse_wrong : of_posix (Parse (codes "xy%Ey") (codes "z")) ≡ said.Refused (whys.BadFormat 2)
unfolding values_of followed time_pieces time_conversion item read_number longest
parse_wrong = refl
