-- What the commands of the tool that read a locale print, over the definitions of the calls (XSH strfmon, strftime, strptime, fprintf, nl_langinfo, localeconv, iswctype, towupper, towlower; the form of the lines is our own).
use Rattle.std.specs.Prelude.{ℕ, ℤ, pos, negsuc, Bool, true, false, List, [], ◌∷◌, ◌++◌, ◌-◌, length, map, replicate, nat_le, Option, Some, None, option_map, Ok, Err, codes, if◌then◌else◌}
use Rattle.std.specs.Fmt.{decimal}
use Rattle.std.specs.List.{flat_map}
use Rattle.charset.specs.CodedSet.{CodedSet, encoded, named, valued}
use Rattle.ctype_classes.specs.CtypeValues.{CtypeValues}
use Rattle.ctype_classes.specs.Classes.{class_answer}
use Rattle.ctype_classes.specs.Case.{image}
use Rattle.numeric_cat.specs.NumericValues.{NumericValues}
use Rattle.monetary_cat.specs.Monetary.{MonetaryValues}
use Rattle.time_cat.specs.TimeValues.{TimeValues}
use Rattle.time_cat.specs.Times.{TmValues}
use Rattle.strfmon.specs.Money.{money}
use Rattle.strftime_fields.specs.Answers.{answer}
use Rattle.int_format.specs.Ints.{at_most, ints}
use Rattle.time_cat.specs.declared.parsed.Parsed.{Parsed}
use Rattle.strptime_fields.specs.Scans.{Scanned, scan}
use Rattle.langinfo.specs.Items.{info}
use Rattle.langinfo.specs.declared.categories.LentCategories.{LentCategories}
use Rattle.langinfo.specs.declared.conv.Lconv.{Lconv}
use Rattle.langinfo.specs.declared.field.ConvText.{ConvText}
use Rattle.langinfo.specs.declared.field.ConvText.TheVariants.{Bytes, Sizes}
use Rattle.lc_base.specs.declared.item.Item.{Item}
use Rattle.script_words.specs.Numbers.{amount_of_word, number_of_word}
use Rattle.lc_base.specs.Tables.{first_named}
use Rattle.script_words.specs.Tables.{items_table}
use Rattle.lc_base.specs.Numbers.{decimal_number}
use Rattle.script_words.specs.Words.{behind_front}
use Rattle.script_out.specs.Output.{quoted}
use Rattle.tool_reads.specs.Answers.{NoAnswer, Defined, and_then, all_of, value_or_wrong, each_of, line_of}

-- the most bytes of a text
abbrev pub most : ℕ
most = 1048576

-- ---- formats

-- the line of a format with amounts
abbrev pub money_line : MonetaryValues → List ℕ → List (List ℕ) → Defined (List ℕ)
money_line values format words = and_then (all_of amount_of_word words) (λ amounts. line_of (money values format amounts most))

-- the line of a format with whole numbers
abbrev pub number_line : NumericValues → List ℕ → List (List ℕ) → Defined (List ℕ)
number_line values format words = and_then (all_of number_of_word words) (λ numbers. line_of (at_most most (ints values format numbers)))

-- the line of a format with a time
abbrev pub time_line : TimeValues → List ℕ → TmValues → Defined (List ℕ)
time_line values format time = line_of (answer values time format most)

-- ---- times that are read

-- a line `NAME=TEXT`
unfoldable pub field : List ℕ → List ℕ → List ℕ
field name text = name ++ 61 ∷ [] ++ text ++ 10 ∷ []

-- a line `NAME=N`, where there is a number
abbrev pub number_field : List ℕ → Option ℕ → List ℕ
number_field name None = []
number_field name (Some n) = field name (decimal n)

-- a year, which is never below 0
abbrev pub year_number : ℤ → ℕ
year_number (pos n) = n
year_number (negsuc n) = 0

-- the fields that a text has, and how many bytes of it were read
abbrev pub fields_text : Parsed → ℕ → List ℕ
fields_text fields read =
    number_field (codes "year") (option_map year_number fields.year)
    ++ number_field (codes "mon") fields.mon
    ++ number_field (codes "mday") fields.mday
    ++ number_field (codes "hour") fields.hour
    ++ number_field (codes "min") fields.min
    ++ number_field (codes "sec") fields.sec
    ++ number_field (codes "wday") fields.wday
    ++ number_field (codes "yday") fields.yday
    ++ field (codes "read") (decimal read)

abbrev pub parsed_text : Scanned → Defined (List ℕ)
parsed_text (Ok found) = Ok (fields_text found.0 found.1)
parsed_text (Err why) = Err NoAnswer

-- the lines of the fields that a text has by a format
abbrev pub parsed_lines : TimeValues → List ℕ → List ℕ → Defined (List ℕ)
parsed_lines values format text = parsed_text (scan values format text)

-- ---- items

-- the text of an item in a locale whose categories are lent
abbrev pub text_in : LentCategories → Item → List ℕ
text_in locale = λ item. info locale.ctype.now locale.numeric.now locale.monetary.now locale.time.now locale.messages.now item

-- the text of an item that has this name, alone in a line
abbrev pub plain_line : (Item → List ℕ) → List ℕ → Defined (List ℕ)
plain_line text name = and_then (value_or_wrong (first_named items_table name)) (λ item. Ok (text item ++ 10 ∷ []))

-- the name of an item, and its text in quotes
abbrev pub named_line : (Item → List ℕ) → List ℕ → Defined (List ℕ)
named_line text name = and_then (value_or_wrong (first_named items_table name)) (λ item. Ok (field name (quoted (text item))))

-- the names of all items
abbrev pub item_names : List (List ℕ)
item_names = map (λ row. row.0) items_table

-- the text of each item that is named; without names all items with their names
abbrev pub info_lines : (Item → List ℕ) → List (List ℕ) → Defined (List ℕ)
info_lines text [] = each_of (named_line text) item_names
info_lines text (name ∷ names) = each_of (plain_line text) (name ∷ names)

-- ---- the fields of localeconv

-- sizes of groups, each behind a `;`
abbrev pub more_sizes : List ℕ → List ℕ
more_sizes sizes = flat_map (λ size. 59 ∷ decimal size) sizes

-- sizes of groups, with `;` between them
abbrev pub sizes_text : List ℕ → List ℕ
sizes_text [] = []
sizes_text (size ∷ sizes) = decimal size ++ more_sizes sizes

-- a text as it is shown: in quotes, or as sizes of groups
abbrev pub shown : ConvText → List ℕ
shown (Bytes bytes) = quoted bytes
shown (Sizes sizes) = sizes_text sizes

-- a line for each text with its name
unfoldable pub text_lines : List (List ℕ × ConvText) → List ℕ
text_lines fields = flat_map (λ f. field f.0 (shown f.1)) fields

-- a line for each number with its name
unfoldable pub number_lines : List (List ℕ × ℕ) → List ℕ
number_lines fields = flat_map (λ f. field f.0 (decimal f.1)) fields

-- a line for each field
unfoldable pub conv_lines : Lconv → List ℕ
conv_lines l = text_lines l.texts ++ number_lines l.numbers

-- ---- characters

-- zeros in front of so many digits, up to four, or to eight where they are more
abbrev pub zeros : ℕ → List ℕ
zeros digits = replicate ((if nat_le digits 4 then 4 else 8) - digits) 48

-- the wide value of `U+HHHH`, or of a number
abbrev pub numbered : CodedSet → List ℕ → Option (List ℕ) → Option ℕ
numbered charset word (Some digits) = named charset (85 ∷ zeros (length digits) ++ digits)
numbered charset word None = decimal_number word

-- a value, or else another one
abbrev pub or_else : Option ℕ → Option ℕ → Option ℕ
or_else (Some w) other = Some w
or_else None other = other

-- the wide value of the character that a word is: as itself, as `U+HHHH` or as a number
abbrev pub character : CodedSet → List ℕ → Option ℕ
character charset word = or_else (valued charset word) (numbered charset word (behind_front (codes "U+") word))

-- whether a character is of a class, behind its word
abbrev pub class_text : List ℕ → Option Bool → Defined (List ℕ)
class_text word None = Err NoAnswer
class_text word (Some true) = Ok (word ++ codes " yes" ++ 10 ∷ [])
class_text word (Some false) = Ok (word ++ codes " no" ++ 10 ∷ [])

abbrev pub class_line : CtypeValues → CodedSet → List ℕ → List ℕ → Defined (List ℕ)
class_line values charset class word = and_then (value_or_wrong (character charset word)) (λ w. class_text word (class_answer values.classes class w))

-- the bytes of a character, or its number where the charset does not have it
abbrev pub bytes_or_number : ℕ → Option (List ℕ) → List ℕ
bytes_or_number w None = decimal w
bytes_or_number w (Some bytes) = bytes

-- the line of a character
abbrev pub character_line : CodedSet → ℕ → List ℕ
character_line charset w = bytes_or_number w (encoded charset w) ++ 10 ∷ []

-- the line of the image of a character by a case map
abbrev pub case_line : CodedSet → List (ℕ × ℕ) → List ℕ → Defined (List ℕ)
case_line charset pairs word = and_then (value_or_wrong (character charset word)) (λ w. Ok (character_line charset (image pairs w)))
