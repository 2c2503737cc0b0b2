-- The JSON text of what commands read of a locale (the names of members are those of C).
use Rattle.std.specs.Prelude.{ℕ, Bool, true, List, [], ◌∷◌, ◌++◌, Option, Some, None, option_map, Ok, Err, codes, if◌then◌else◌}
use Rattle.std.specs.Fmt.{decimal}
use Rattle.std.specs.List.{flat_map, list_any}
use Rattle.json.specs.Token.{Token, begin_object, end_object, begin_array, end_array, key, number}
use Rattle.lc_base.specs.declared.item.Item.{Item}
use Rattle.std.specs.Str.{bytes_eq, is_utf8}
use Rattle.lc_base.specs.Tables.{first_named}
use Rattle.script_words.specs.Tables.{items_table}
use Rattle.langinfo.specs.declared.conv.Lconv.{Lconv}
use Rattle.langinfo.specs.declared.field.ConvText.{ConvText}
use Rattle.langinfo.specs.declared.field.ConvText.TheVariants.{Bytes, Sizes}
use Rattle.time_cat.specs.TimeValues.{TimeValues}
use Rattle.time_cat.specs.declared.parsed.Parsed.{Parsed}
use Rattle.strptime_fields.specs.Scans.{Scanned, scan}
use Rattle.tool_reads.specs.Answers.{Defined, NoAnswer, and_then, all_of, beside, value_or_wrong}
use Rattle.tool_reads.specs.Printed.{item_names, year_number}
use Rattle.tool_json.specs.Json.{json_line, text_tokens, text_member, number_member}

-- ---- the fields of localeconv

-- the name of a member: all names are ASCII
abbrev pub member_name : List ℕ → List ℕ
member_name name = if is_utf8 name then name else []

-- the sizes of groups
abbrev pub size_tokens : List ℕ → List Token
size_tokens sizes = flat_map (λ size. number (decimal size) ∷ []) sizes

-- a text, or an array of the sizes of groups
abbrev pub value_tokens : ConvText → List Token
value_tokens (Bytes bytes) = text_tokens bytes
value_tokens (Sizes sizes) = begin_array ∷ size_tokens sizes ++ end_array ∷ []

-- a member for each text
unfoldable pub text_members : List (List ℕ × ConvText) → List Token
text_members fields = flat_map (λ f. key (member_name f.0) ∷ value_tokens f.1) fields

-- a member for each number
unfoldable pub number_members : List (List ℕ × ℕ) → List Token
number_members fields = flat_map (λ f. number_member (member_name f.0) f.1) fields

-- an object with a member for each field
unfoldable pub conv_json : Lconv → List ℕ
conv_json l = json_line (begin_object ∷ text_members l.texts ++ number_members l.numbers ++ end_object ∷ [])

-- ---- the fields of a time

-- a member, where there is a number
abbrev pub number_if : List ℕ → Option ℕ → List Token
number_if name None = []
number_if name (Some n) = number_member name n

-- the members of a date
unfoldable pub date_members : Parsed → List Token
date_members fields = number_if (codes "year") (option_map year_number fields.year) ++ number_if (codes "mon") fields.mon ++ number_if (codes "mday") fields.mday

-- those of a clock
unfoldable pub clock_members : Parsed → List Token
clock_members fields = number_if (codes "hour") fields.hour ++ number_if (codes "min") fields.min ++ number_if (codes "sec") fields.sec

-- those of the days of the week and of the year
unfoldable pub day_members : Parsed → List Token
day_members fields = number_if (codes "wday") fields.wday ++ number_if (codes "yday") fields.yday

-- an object with the fields that a text has, and how many bytes of it were read
abbrev pub fields_json : Parsed → ℕ → List ℕ
fields_json fields read = json_line (begin_object ∷ date_members fields ++ clock_members fields ++ day_members fields ++ number_member (codes "read") read ++ end_object ∷ [])

abbrev pub scanned_json : Scanned → Defined (List ℕ)
scanned_json (Ok found) = Ok (fields_json found.0 found.1)
scanned_json (Err why) = Err NoAnswer

-- the fields that a text has by a format
abbrev pub parsed_json : TimeValues → List ℕ → List ℕ → Defined (List ℕ)
parsed_json values format text = scanned_json (scan values format text)

-- ---- items

-- whether a name is among words
abbrev pub is_named : List (List ℕ) → List ℕ → Bool
is_named words name = list_any (λ word. bytes_eq word name) words

-- whether an item is asked for: it is named, or no item is
abbrev pub is_asked : List (List ℕ) → List ℕ → Bool
is_asked [] name = true
is_asked (word ∷ words) name = is_named (word ∷ words) name

-- the member of an item, with its text, where it is asked for
abbrev pub item_member : (Item → List ℕ) → List (List ℕ) → List ℕ → Defined (List Token)
item_member text asked name = if is_asked asked name then and_then (value_or_wrong (first_named items_table name)) (λ item. Ok (text_member name (text item))) else Ok []

-- the members of items, one after the other
abbrev pub item_members : (Item → List ℕ) → List (List ℕ) → List (List ℕ) → Defined (List Token)
item_members text asked [] = Ok []
item_members text asked (name ∷ names) = and_then (item_member text asked name) (λ member. beside member (item_members text asked names))

-- an object with these members
abbrev pub members_json : Defined (List Token) → Defined (List ℕ)
members_json members = and_then (beside (begin_object ∷ []) members) (λ tokens. Ok (json_line (tokens ++ end_object ∷ [])))

-- an object with a member for each item that is asked for, in the order of the standard's table, where each word names an item
abbrev pub info_json : (Item → List ℕ) → List (List ℕ) → Defined (List ℕ)
info_json text asked = and_then (all_of (first_named items_table) asked) (λ items. members_json (item_members text asked item_names))
