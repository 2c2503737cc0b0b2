-- What words of a command mean (our own).
use Rattle.std.specs.Prelude.{ℕ, ◌+◌, ◌-◌, ◌*◌, ◌==◌, nat_lt, nat_le, Bool, true, false, not, ◌&&◌, ◌||◌, List, [], ◌∷◌, ◌++◌, length, take, drop, find, bit_or, codes, Option, Some, None, option_map, option_and_then, if◌then◌else◌}
use Rattle.std.specs.List.{list_all, slice_split}
use Rattle.std.specs.Option.{option_to_list}
use Rattle.std.specs.Str.{bytes_eq}
use Rattle.lc_base.specs.Cuts.{cut_at}
use Rattle.lc_base.specs.Numbers.{decimal_number}
use Rattle.lc_base.specs.declared.category.Category.{Category}
use Rattle.lc_base.specs.Categories.{categories, category_name, category_named}
use Rattle.lc_base.specs.Mask.{category_bit}
use Rattle.script_words.specs.declared.categories.CategoryArgument.{CategoryArgument}
use Rattle.script_words.specs.declared.categories.CategoryArgument.TheVariants.{All, One}
use Rattle.script_words.specs.declared.word.Quoting.{Quoting}
use Rattle.script_words.specs.declared.word.Quoting.TheVariants.{Text, Escape, High, Low, Closed}
use Rattle.script_words.specs.Limits.{ZONE_LIMIT, MAX_LIMIT}
use Rattle.lc_base.specs.Cells.{CELLS}
use Rattle.script_words.specs.Names.{is_locale_name, is_thread_name, is_class_name}

-- ---- texts

-- a byte of a plain word: neither a control byte nor a quote; a blank ends the word
abbrev pub is_plain_byte : ℕ → Bool
is_plain_byte c = not (nat_lt c 32 || (c == 127) || (c == 34))

-- the value of a hexadecimal digit
abbrev pub hex_value : ℕ → Option ℕ
hex_value c =
    if nat_le 48 c && nat_le c 57 then Some (c - 48) else
    if nat_le 65 c && nat_le c 70 then Some (c - 55) else
    if nat_le 97 c && nat_le c 102 then Some (c - 87) else
    None

-- what stands behind a byte of a quoted text, and the byte of the text that ends there: `\"` is a quote, `\\` a backslash,
-- `\xHH` the byte, and nothing follows the closing quote
abbrev pub quoted_step : Quoting → ℕ → Option (Quoting × Option ℕ)
quoted_step Text c = if c == 34 then Some (Closed, None) else (if c == 92 then Some (Escape, None) else Some (Text, Some c))
quoted_step Escape c = if (c == 34) || (c == 92) then Some (Text, Some c) else (if c == 120 then Some (High, None) else None)
quoted_step High c = option_map (λ h. (Low h, None)) (hex_value c)
quoted_step (Low h) c = option_map (λ l. (Text, Some (h * 16 + l))) (hex_value c)
quoted_step Closed c = None

-- whether a text that ends here is closed
abbrev pub is_closed : Quoting → Bool
is_closed Text = false
is_closed Escape = false
is_closed High = false
is_closed (Low h) = false
is_closed Closed = true

-- the rest of a quoted text, where its bytes stand behind the opening quote
abbrev pub unquoted : Quoting → List ℕ → Option (List ℕ)
unquoted q [] = if is_closed q then Some [] else None
unquoted q (c ∷ cs) = option_and_then (λ (x : Quoting × Option ℕ). option_map (λ text. option_to_list x.1 ++ text) (unquoted x.0 cs)) (quoted_step q c)

-- the text that a word is, plain or in quotes
unfoldable pub text_of_word : List ℕ → Option (List ℕ)
text_of_word [] = None
text_of_word (c ∷ cs) =
    if c == 34 then unquoted Text cs else (if list_all is_plain_byte (c ∷ cs) then Some (c ∷ cs) else None)

-- the text of a word in quotes
unfoldable pub quoted_of_word : List ℕ → Option (List ℕ)
quoted_of_word [] = None
quoted_of_word (c ∷ cs) = if c == 34 then unquoted Text cs else None

-- a text of at most so many bytes
abbrev pub bounded : ℕ → List ℕ → Option (List ℕ)
bounded most text = if nat_le (length text) most then Some text else None

-- the name of a time zone, plain or in quotes
unfoldable pub zone_of_word : List ℕ → Option (List ℕ)
zone_of_word w = option_and_then (bounded ZONE_LIMIT) (text_of_word w)

-- ---- numbers

-- what stands behind this front, where a word begins with it
unfoldable pub behind_front : List ℕ → List ℕ → Option (List ℕ)
behind_front front w = if bytes_eq (take (length front) w) front then Some (drop (length front) w) else None

-- a number up to 4096
unfoldable pub max_number : List ℕ → Option ℕ
max_number w = option_and_then (λ n. if nat_le n MAX_LIMIT then Some n else None) (decimal_number w)

-- ---- categories

-- a category, or `LC_ALL`
unfoldable pub categories_of_word : List ℕ → Option CategoryArgument
categories_of_word w = if bytes_eq w (codes "LC_ALL") then Some All else option_map (λ c. One c) (category_named w)

-- the bits with that of a category's name
abbrev pub with_name : ℕ → List ℕ → Option ℕ
with_name bits name = option_map (λ c. bit_or bits (category_bit c)) (category_named name)

-- the bits with those of categories' names
abbrev pub bits_with : ℕ → List (List ℕ) → Option ℕ
bits_with bits [] = Some bits
bits_with bits (name ∷ names) = option_and_then (λ more. bits_with more names) (with_name bits name)

abbrev pub is_comma : ℕ → Bool
is_comma c = c == 44

-- a mask: `LC_ALL`, a number, or names of categories with commas between them
unfoldable pub mask_of_word : List ℕ → Option ℕ
mask_of_word w =
    if bytes_eq w (codes "LC_ALL") then Some 31 else
    elim (decimal_number w) [ Some n ↦ Some n | None ↦ bits_with 0 (slice_split is_comma w) ]

-- ---- names and handles

-- a variable
unfoldable pub variable_of_word : List ℕ → Option (List ℕ)
variable_of_word w = if is_thread_name w then Some w else None

-- the name of a character class
unfoldable pub class_of_word : List ℕ → Option (List ℕ)
class_of_word w = if is_class_name w then Some w else None

-- the key of a later version of a locale, or the name of a message catalog
unfoldable pub key_of_word : List ℕ → Option (List ℕ)
key_of_word w = if is_locale_name w then Some w else None

-- the number of a cell
unfoldable pub cell_number : List ℕ → Option ℕ
cell_number w = option_and_then (λ n. if nat_lt n CELLS then Some n else None) (decimal_number w)

-- a handle as it is written, with the name of its thread
pub record WrittenHandle : Type 0 where
  pub thread : List ℕ
  pub row : ℕ
  pub generation : ℕ

-- `THREAD.ROW.GENERATION`
unfoldable pub handle_of_word : List ℕ → Option WrittenHandle
handle_of_word w =
    option_and_then (λ (x : List ℕ × List ℕ). if not (is_thread_name x.0) then None else
    option_and_then (λ (y : List ℕ × List ℕ).
    option_and_then (λ row.
    option_map (λ generation. record { thread = x.0; row = row; generation = generation })
    (decimal_number y.1)) (decimal_number y.0)) (cut_at 46 x.1)) (cut_at 46 w)

-- a cell as it is written, with the name of its thread
pub record WrittenCell : Type 0 where
  pub thread : List ℕ
  pub cell : ℕ

-- `THREAD.K`
unfoldable pub cell_of_word : List ℕ → Option WrittenCell
cell_of_word w =
    option_and_then (λ (x : List ℕ × List ℕ). if not (is_thread_name x.0) then None else
    option_map (λ cell. record { thread = x.0; cell = cell })
    (cell_number x.1)) (cut_at 46 w)
