-- What a read of an object replies (XSH nl_langinfo, localeconv, iswctype, towupper, towlower, strfmon, strftime, fprintf and strptime; the words of a refusal are our own).
use Rattle.std.specs.Prelude.{ℕ, ℤ, Bool, List, [], ◌∷◌, ◌++◌, map, Option, Some, None, Result, Ok, Err}
use Rattle.std.specs.Fmt.{decimal}
use Rattle.std.specs.List.{flat_map}
use Rattle.lc_base.specs.declared.item.Item.{Item}
use Rattle.lc_base.specs.declared.refusal.FormatRefusal.{FormatRefusal}
use Rattle.lc_base.specs.declared.refusal.FormatRefusal.TheVariants as refusals
use Rattle.mask_compose.specs.Parts.{Parts}
use Rattle.ctype_classes.specs.CtypeValues.{CtypeValues}
use Rattle.ctype_classes.specs.Classes.{class_answer}
use Rattle.ctype_classes.specs.Case.{image}
use Rattle.numeric_cat.specs.NumericValues.{NumericValues}
use Rattle.monetary_cat.specs.Monetary.{MonetaryValues}
use Rattle.messages_cat.specs.MessagesValues.{MessagesValues}
use Rattle.time_cat.specs.declared.tm.TmRange.{TmRange}
use Rattle.time_cat.specs.TimeValues.{TimeValues}
use Rattle.time_cat.specs.Times.{TmValues, time_of}
use Rattle.lc_base.specs.Amounts.{MoneyAmount}
use Rattle.strfmon.specs.Money.{money}
use Rattle.strftime_fields.specs.Answers.{answer}
use Rattle.int_format.specs.Ints.{at_most, ints}
use Rattle.strptime_fields.specs.Scans.{Scanned, scan}
use Rattle.langinfo.specs.declared.conv.Lconv.{Lconv}
use Rattle.langinfo.specs.declared.field.ConvText.{ConvText}
use Rattle.langinfo.specs.declared.field.ConvText.TheVariants.{Bytes, Sizes}
use Rattle.langinfo.specs.Items.{info}
use Rattle.langinfo.specs.Conv.{conv}
use Rattle.category_store.specs.LibraryData.{LibraryData}
use Rattle.category_store.specs.Library.{locale_at}
use Rattle.script_words.specs.declared.given.UncheckedTime.{UncheckedTime}
use Rattle.script_commands.specs.declared.command.Read.{Read}
use Rattle.script_commands.specs.declared.command.Read.TheVariants as reads
use Rattle.script_out.specs.declared.output.Said.{Said}
use Rattle.script_out.specs.declared.output.Said.TheVariants as said
use Rattle.script_out.specs.declared.output.Why.{Why}
use Rattle.script_out.specs.declared.output.Why.TheVariants as whys

-- ---- the categories of an object, each as its locale has it

abbrev pub ctype_in : LibraryData → Parts → CtypeValues
ctype_in library object = (locale_at library object.ctype).ctype

abbrev pub numeric_in : LibraryData → Parts → NumericValues
numeric_in library object = (locale_at library object.numeric).numeric

abbrev pub monetary_in : LibraryData → Parts → MonetaryValues
monetary_in library object = (locale_at library object.monetary).monetary

abbrev pub time_in : LibraryData → Parts → TimeValues
time_in library object = (locale_at library object.time).time

abbrev pub messages_in : LibraryData → Parts → MessagesValues
messages_in library object = (locale_at library object.messages).messages

-- ---- nl_langinfo and localeconv

-- the text of an item
abbrev pub info_said : LibraryData → Parts → Item → Said
info_said library object item =
    said.Text (info (ctype_in library object) (numeric_in library object) (monetary_in library object) (time_in library object) (messages_in library object) item)

-- sizes of groups, each behind a `;`
abbrev pub more_sizes : List ℕ → List ℕ
more_sizes sizes = flat_map (λ size. 59 ∷ decimal size) sizes

-- the sizes of groups, with `;` between them
abbrev pub sizes_text : List ℕ → List ℕ
sizes_text [] = []
sizes_text (size ∷ sizes) = decimal size ++ more_sizes sizes

-- a text as it is printed: sizes of groups as such
abbrev pub shown : ConvText → List ℕ
shown (Bytes bytes) = bytes
shown (Sizes sizes) = sizes_text sizes

-- the fields that are texts, in the order in which they are printed
abbrev pub conv_texts : List (List ℕ × ConvText) → List (List ℕ)
conv_texts fields = map (λ (f : List ℕ × ConvText). shown f.1) fields

-- the fields that are numbers, in that order
abbrev pub conv_numbers : List (List ℕ × ℕ) → List ℕ
conv_numbers fields = map (λ (f : List ℕ × ℕ). f.1) fields

-- the fields of localeconv
abbrev pub fields_said : Lconv → Said
fields_said l = said.Conv (conv_texts l.texts) (conv_numbers l.numbers)

abbrev pub conv_said : LibraryData → Parts → Said
conv_said library object = fields_said (conv (numeric_in library object) (monetary_in library object))

-- ---- iswctype

-- whether a value is of a class: without such a class it is NoClass
abbrev pub class_said : Option Bool → Said
class_said None = said.Refused whys.NoClass
class_said (Some is) = said.Class is

-- ---- formats

-- why a format has no answer, as it is printed; a call that lacks memory has no reply
abbrev pub why_of : FormatRefusal → Why
why_of (refusals.BadFormat at) = whys.BadFormat at
why_of (refusals.MissingAmount at) = whys.MissingAmount at
why_of (refusals.MissingNumber at) = whys.MissingNumber at
why_of (refusals.Mismatch at) = whys.Mismatch at
why_of refusals.TooBig = whys.TooBig

abbrev pub refused_said : FormatRefusal → Said
refused_said refusal = said.Refused (why_of refusal)

-- the text of a format, or why there is none
abbrev pub text_said : Result (List ℕ) FormatRefusal → Said
text_said (Ok text) = said.Text text
text_said (Err refusal) = refused_said refusal

-- ---- strfmon

abbrev pub money_said : LibraryData → Parts → ℕ → List ℕ → List MoneyAmount → Said
money_said library object max format amounts = text_said (money (monetary_in library object) format amounts max)

-- ---- strftime

-- the time that is written, or its first field out of its range
abbrev pub time_given : UncheckedTime → Result TmValues TmRange
time_given t = time_of t.year t.mon t.mday t.hour t.min t.sec t.wday t.yday t.offset t.zone

-- a field out of its range goes before all else
abbrev pub moment_said : TimeValues → ℕ → List ℕ → Result TmValues TmRange → Said
moment_said values max format (Ok tm) = text_said (answer values tm format max)
moment_said values max format (Err range) = said.Refused (whys.TmRange range.field)

abbrev pub time_said : LibraryData → Parts → ℕ → List ℕ → UncheckedTime → Said
time_said library object max format t = moment_said (time_in library object) max format (time_given t)

-- ---- fprintf of whole numbers

-- the text, unless it is longer than max; a wrong conversion and a missing number go before that
abbrev pub number_said : LibraryData → Parts → ℕ → List ℕ → List ℤ → Said
number_said library object max format numbers = text_said (at_most max (ints (numeric_in library object) format numbers))

-- ---- strptime

-- the fields that a text has, with the index of its first byte that was not read, or why it has none
abbrev pub scanned_said : Scanned → Said
scanned_said (Ok found) = said.Parsed found.0 found.1
scanned_said (Err refusal) = refused_said refusal

abbrev pub parse_said : LibraryData → Parts → List ℕ → List ℕ → Said
parse_said library object format text = scanned_said (scan (time_in library object) format text)

-- ---- reads

-- what a read replies of an object
abbrev pub local : LibraryData → Parts → Read → Said
local library object (reads.Info item) = info_said library object item
local library object reads.Conv = conv_said library object
local library object (reads.Class class value) = class_said (class_answer (ctype_in library object).classes class value)
local library object (reads.Upper value) = said.Value (image (ctype_in library object).upper value)
local library object (reads.Lower value) = said.Value (image (ctype_in library object).lower value)
local library object (reads.Money max format amounts) = money_said library object max format amounts
local library object (reads.Time max format time) = time_said library object max format time
local library object (reads.Number max format numbers) = number_said library object max format numbers
local library object (reads.Parse format text) = parse_said library object format text
