-- What each call answers (XSH newlocale, strfmon, strftime, nl_langinfo, localeconv, wctype, iswctype, towupper, towlower,
-- fprintf and strptime; the codes are our own).
use Rattle.std.specs.Prelude.{◌≡◌, ◌⊎◌, ℕ, ◌+◌, ◌-◌, ◌^◌, ℤ, pos, negsuc, neg_ℤ, Bool, true, false, nat_lt, nat_eq, min, List, [], ◌∷◌, ◌++◌, length, set, take, drop, map, codes, Option, None, Some, Result, Ok, Err, if◌then◌else◌}
use Rattle.std.specs.List.{list_all, find}
use Rattle.std.specs.Str.{bytes_eq}
use Rattle.lc_base.specs.declared.category.Category.{Category}
use Rattle.lc_base.specs.Categories.{categories}
use Rattle.mask_compose.specs.Names.{mixed_name}
use Rattle.ctype_classes.specs.Classes.{AreClassBits}
use Rattle.lc_base.specs.declared.item.Item.{Item}
use Rattle.lc_base.specs.declared.refusal.FormatRefusal.{FormatRefusal}
use Rattle.lc_base.specs.declared.refusal.FormatRefusal.TheVariants as refusals
use Rattle.lc_base.specs.Mask.{category_bit}
use Rattle.lc_base.specs.Amounts.{MoneyAmount}
use Rattle.text_buffer.specs.declared.unwritten.Unwritten.{Unwritten}
use Rattle.text_buffer.specs.declared.unwritten.Unwritten.TheVariants.{Refused, TooSmall}
use Rattle.strfmon.specs.Money.{money_text}
use Rattle.time_cat.specs.Times.{TmValues, time_of}
use Rattle.time_cat.specs.declared.tm.TmField.{TmField}
use Rattle.time_cat.specs.declared.tm.TmField.TheVariants as fields
use Rattle.time_cat.specs.declared.tm.TmRange.{TmRange}
use Rattle.strftime_fields.specs.Answers.{whole_answer}
use Rattle.strftime_fields.specs.Zones.{in_zone}
use Rattle.int_format.specs.Ints.{ints, IsTextOf}
use Rattle.time_cat.specs.declared.parsed.Parsed.{Parsed}
use Rattle.strptime_fields.specs.Scans.{Scanned, scan}
use Rattle.langinfo.specs.Items.{info}
use Rattle.shared_objects.specs.declared.fault.NewFault.{NewFault}
use Rattle.shared_objects.specs.declared.fault.NewFault.TheVariants.{NoLocale, NoData}
use Rattle.shared_objects.specs.declared.locale.LocaleParts.{LocaleParts}
use Rattle.shared_objects.specs.Shared.{Shared, MarkedLibraryData}
use Rattle.shared_objects.specs.Locales.{new_locale}
use Rattle.shared_objects.specs.Objects.{ctype_in, numeric_in, monetary_in, time_in, messages_in, name_in, names_in}
use Rattle.c_values.specs.declared.answer.LobjAnswer.{LobjAnswer}
use Rattle.c_values.specs.Codes.{OK, NO_LOCALE, BAD_MASK, NO_DATA, TOO_SMALL, BAD_FORMAT, MISSING, BAD_AMOUNT, TM_RANGE, NO_ITEM, NO_CLASS, MISMATCH}
use Rattle.c_values.specs.declared.amounts.LobjAmount.{LobjAmount}
use Rattle.c_values.specs.declared.times.LobjTm.{LobjTm}
use Rattle.c_values.specs.declared.parsed.LobjParsed.{LobjParsed}

-- ---- answers

abbrev pub answered : ℕ → ℕ → LobjAnswer
answered code n = record { code = code; n = n }

-- a fact, unless something holds
abbrev pub Unless : Bool → Type 0 → Type 0
Unless true P = Unit {0}
Unless false P = P

-- a fact of an answer that is no text's, unless the call did what it says
abbrev pub UnlessOk : LobjAnswer → Type 0 → Type 0
UnlessOk a P = Unless (nat_eq a.code OK) P

-- ---- texts in buffers of the caller: an answer, and what the buffer has then

-- a buffer with a text and a NUL at its front
abbrev pub filled : List ℕ → List ℕ → List ℕ
filled buffer text = text ++ 0 ∷ drop (length text + 1) buffer

-- the size that a text of so many bytes needs with its NUL, as far as a `usize` can tell it
abbrev pub size_told : ℕ → ℕ
size_told n = min (n + 1) (2 ^ 64 - 1)

-- a text that is given: with its NUL it fits, or the buffer stays as it is, and the size that both need is told
abbrev pub told : List ℕ → List ℕ → LobjAnswer × List ℕ
told buffer text = if nat_lt (length text) (length buffer) then (answered OK (length text), filled buffer text) else (answered TOO_SMALL (size_told (length text)), buffer)

-- a call that gives no text
abbrev pub refused : List ℕ → ℕ → ℕ → LobjAnswer × List ℕ
refused buffer code n = (answered code n, buffer)

-- the answer where a format has none
abbrev pub refusal_told : FormatRefusal → LobjAnswer
refusal_told (refusals.BadFormat at) = answered BAD_FORMAT at
refusal_told (refusals.MissingAmount at) = answered MISSING at
refusal_told (refusals.MissingNumber at) = answered MISSING at
refusal_told (refusals.Mismatch at) = answered MISMATCH at
refusal_told refusals.TooBig = answered TOO_SMALL 0

-- the text of a format, or why there is none
abbrev pub text_told : List ℕ → Result (List ℕ) FormatRefusal → LobjAnswer × List ℕ
text_told buffer (Ok text) = told buffer text
text_told buffer (Err refusal) = (refusal_told refusal, buffer)

-- a NUL behind a text of so many bytes at the front of a buffer, if the buffer has more
abbrev pub ended : List ℕ → ℕ → LobjAnswer × List ℕ
ended buffer n = if nat_lt n (length buffer) then (answered OK n, set buffer n 0) else (answered TOO_SMALL 1, buffer)

-- what is answered once a text was written into all of a buffer but its last byte, and the buffer then
abbrev pub closed : List ℕ → Result ℕ Unwritten → LobjAnswer × List ℕ
closed buffer (Ok n) = ended buffer n
closed buffer (Err (Refused why)) = (refusal_told why, buffer)
closed buffer (Err (TooSmall needed)) = (answered TOO_SMALL (size_told needed), buffer)

-- what an object answers; what is no locale of the library has none
abbrev pub of_object : List ℕ → Option Shared → (Shared → LobjAnswer × List ℕ) → LobjAnswer × List ℕ
of_object buffer None f = refused buffer NO_LOCALE 0
of_object buffer (Some o) f = f o

-- ---- locales that are made: an answer, and the locale at the place for it, which stays where there is none

abbrev pub locale_told : LocaleParts → Result LocaleParts NewFault → LobjAnswer × LocaleParts
locale_told old (Ok made) = (answered OK 0, made)
locale_told old (Err NoLocale) = (answered NO_LOCALE 0, old)
locale_told old (Err (NoData category)) = (answered NO_DATA (category_bit category), old)

-- what newlocale answers
abbrev pub new_told : LocaleParts → MarkedLibraryData → ℕ → List ℕ → LocaleParts → LobjAnswer × LocaleParts
new_told old marked mask name base = if nat_lt mask 32 then locale_told old (new_locale marked mask name base) else (answered BAD_MASK 0, old)

-- ---- names

-- the common name where all are equal, else the mixed name
abbrev pub joint_name : List (List ℕ) → List ℕ
joint_name [] = mixed_name []
joint_name (name ∷ names) = if list_all (bytes_eq name) names then name else mixed_name (name ∷ names)

-- the category with this bit
abbrev pub category_with : ℕ → Option Category
category_with bit = find (λ c. nat_eq (category_bit c) bit) categories

-- the name for the category of a bit
abbrev pub one_told : List ℕ → Shared → Option Category → LobjAnswer × List ℕ
one_told buffer o None = refused buffer BAD_MASK 0
one_told buffer o (Some category) = told buffer (name_in o category)

-- the name of an object for a category, or for all of them
abbrev pub name_told : List ℕ → Shared → ℕ → LobjAnswer × List ℕ
name_told buffer o mask = if nat_eq mask 31 then told buffer (joint_name (names_in o)) else one_told buffer o (category_with mask)

-- a name of a library by its number
abbrev pub own_name_told : List ℕ → Option (List ℕ) → LobjAnswer × List ℕ
own_name_told buffer None = refused buffer NO_ITEM 0
own_name_told buffer (Some name) = told buffer name

-- ---- characters

abbrev pub flag : Bool → ℕ
flag true = 1
flag false = 0

-- the number of a class
abbrev pub number_told : Option ℕ → LobjAnswer
number_told None = answered NO_CLASS 0
number_told (Some number) = answered OK number

-- whether a value is of a class
abbrev pub class_told : Option Bool → LobjAnswer
class_told None = answered NO_CLASS 0
class_told (Some is) = answered OK (flag is)

-- what an object answers without a buffer
abbrev pub by_object : Option Shared → (Shared → LobjAnswer) → LobjAnswer
by_object None f = answered NO_LOCALE 0
by_object (Some o) f = f o

-- which of the first 64 classes have a value, as bits
abbrev pub AreClassesTold : Option Shared → ℕ → LobjAnswer → Type 0
AreClassesTold None value a = a ≡ answered NO_LOCALE 0
AreClassesTold (Some o) value a = (a.code ≡ OK) × AreClassBits (ctype_in o).classes value a.n

-- ---- items

abbrev pub item_told : List ℕ → Shared → Option Item → LobjAnswer × List ℕ
item_told buffer o None = refused buffer NO_ITEM 0
item_told buffer o (Some item) = told buffer (info (ctype_in o) (numeric_in o) (monetary_in o) (time_in o) (messages_in o) item)

-- the text of localeconv with a number
abbrev pub conv_told : List ℕ → Option (List ℕ) → LobjAnswer × List ℕ
conv_told buffer None = refused buffer NO_ITEM 0
conv_told buffer (Some text) = told buffer text

-- ---- amounts

abbrev pub is_scaled : LobjAmount → Bool
is_scaled a = nat_lt a.scale 19

-- an amount; a scale over 18 counts as 18
abbrev pub amount_of : LobjAmount → MoneyAmount
amount_of a = record { units = a.units; scale = min a.scale 18 }

-- the most amounts, or numbers, that are looked at
abbrev pub most : ℕ
most = 64

-- what strfmon answers; amounts behind the first 64 are left over
abbrev pub amounts_told : List ℕ → Shared → List ℕ → List LobjAmount → LobjAnswer × List ℕ
amounts_told buffer o format amounts =
    if list_all is_scaled amounts then text_told buffer (money_text (monetary_in o) format (map amount_of (take most amounts))) else refused buffer BAD_AMOUNT 0

-- ---- times

abbrev pub offset_of : LobjTm → Option ℤ
offset_of t = if t.has_offset then Some t.offset else None

abbrev pub tm_given : LobjTm → Result TmValues TmRange
tm_given t = time_of t.year t.mon t.mday t.hour t.min t.sec t.wday t.yday (offset_of t) []

abbrev pub field_number : TmField → ℕ
field_number fields.Year = 1
field_number fields.Mon = 2
field_number fields.Mday = 3
field_number fields.Hour = 4
field_number fields.Min = 5
field_number fields.Sec = 6
field_number fields.Wday = 7
field_number fields.Yday = 8
field_number fields.Offset = 9

-- what strftime answers: a field out of its range goes before all else
abbrev pub tm_told : List ℕ → Shared → List ℕ → List ℕ → Result TmValues TmRange → LobjAnswer × List ℕ
tm_told buffer o format zone (Ok tm) = text_told buffer (whole_answer (time_in o) (in_zone tm zone) format)
tm_told buffer o format zone (Err range) = refused buffer TM_RANGE (field_number range.field)

-- ---- whole numbers

-- what int_format answers; numbers behind the first 64 are left over
abbrev pub numbers_told : List ℕ → Shared → List ℕ → List ℤ → LobjAnswer × List ℕ
numbers_told buffer o format numbers = text_told buffer (ints (numeric_in o) format (take most numbers))

-- ---- times that are read

-- a field, or -1 where it is not told
abbrev pub or_none : Option ℕ → ℤ
or_none None = neg_ℤ (pos 1)
or_none (Some n) = pos n

abbrev pub year_or_none : Option ℤ → ℤ
year_or_none None = neg_ℤ (pos 1)
year_or_none (Some year) = year

abbrev pub fields_of : Parsed → LobjParsed
fields_of p = record {
  year = year_or_none p.year;
  mon = or_none p.mon;
  mday = or_none p.mday;
  hour = or_none p.hour;
  min = or_none p.min;
  sec = or_none p.sec;
  wday = or_none p.wday;
  yday = or_none p.yday;
}

-- what strptime answers, and the fields; where a text has none they stay as they are
abbrev pub scan_told : LobjParsed → Scanned → LobjAnswer × LobjParsed
scan_told old (Ok found) = (answered OK found.1, fields_of found.0)
scan_told old (Err refusal) = (refusal_told refusal, old)

abbrev pub scan_by : LobjParsed → Option Shared → List ℕ → List ℕ → LobjAnswer × LobjParsed
scan_by old None format text = (answered NO_LOCALE 0, old)
scan_by old (Some o) format text = scan_told old (scan (time_in o) format text)

-- ---- whole numbers that are read

-- whether a number is one of an int64_t
abbrev pub is_int64 : ℤ → Bool
is_int64 (pos n) = nat_lt n (2 ^ 63)
is_int64 (negsuc n) = nat_lt n (2 ^ 63)

-- the number of a text, at the place for it; where there is none, it stays
abbrev pub IsNumberTold : Option Shared → List ℕ → LobjAnswer → ℤ → ℤ → Type 0
IsNumberTold None text a old new = (a ≡ answered NO_LOCALE 0) × (new ≡ old)
IsNumberTold (Some o) text a old new = (a ≡ answered OK 0) × IsTextOf (numeric_in o) new text ⊎ (a ≡ answered MISMATCH 0) × (new ≡ old)

-- what `%'d` prints of a number is read back
abbrev pub IsReadBack : Option Shared → List ℕ → LobjAnswer → ℤ → Type 0
IsReadBack None text a new = Unit {0}
IsReadBack (Some o) text a new = (v : ℤ) → is_int64 v ≡ true → ints (numeric_in o) (codes "%'d") (v ∷ []) ≡ Ok text → (a ≡ answered OK 0) × (new ≡ v)
