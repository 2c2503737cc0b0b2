-- Coded character sets: their names, characters, encodings and wide values (XBD 6.2 to 6.4).
use Rattle.std.specs.Prelude.{◌≡◌, ◌≢◌, ℕ, Bool, false, ◌==◌, ◌||◌, nat_lt, List, [], ◌∷◌, slice_index, codes, encode_utf8, Option, Some, None, if◌then◌else◌}
use Rattle.std.specs.Int.{is_in_range}
use Rattle.std.specs.Int.Digits.{number_from_digits}
use Rattle.std.specs.List.{list_any, find}
use Rattle.std.specs.Option.{option_or, option_map}
use Rattle.std.specs.Str.{bytes_eq, chars}
use Rattle.class_ranges.specs.Runs.{IsRunOf}
use Rattle.lc_base.specs.Tables.{first_named}
use Rattle.charset.specs.Portable.{Name, portable_code, is_portable}
use Rattle.charset.specs.Hex.{numbered}

-- a coded character set: one of two built-in ones, or a code set name with the names of a charmap and their bytes
pub data CodedSet : Type 0 where
  utf8 : CodedSet
  posix : CodedSet
  listed : List ℕ → List (Name × List ℕ) → CodedSet

-- the code set name
abbrev pub set_name : CodedSet → List ℕ
set_name utf8 = codes "UTF-8"
set_name posix = codes "US-ASCII"
set_name (listed name entries) = name

-- a number that is a character of Unicode: up to 0x10FFFF, without the surrogates 0xD800 to 0xDFFF
abbrev pub is_scalar : ℕ → Bool
is_scalar w = nat_lt w 0xD800 || is_in_range 0xE000 0x10FFFF w

-- bytes as a number, the first being the highest
abbrev pub big_endian : List ℕ → ℕ
big_endian bytes = number_from_digits 256 bytes

-- whether an entry of a charmap has a wide value
abbrev pub has_value : ℕ → Name × List ℕ → Bool
has_value w entry = big_endian entry.1 == w

-- whether the set has a character with a wide value
abbrev pub has : CodedSet → ℕ → Bool
has utf8 w = is_scalar w
has posix w = nat_lt w 128
has (listed name entries) w = is_portable w || list_any (has_value w) entries

-- a value, where a set has it
abbrev pub only_in : CodedSet → Option ℕ → Option ℕ
only_in set None = None
only_in set (Some w) = if has set w then Some w else None

-- the wide value of the character with a name that is no portable one
abbrev pub named_beside : CodedSet → Name → Option ℕ
named_beside utf8 name = only_in utf8 (option_or (numbered 4 name) (numbered 8 name))
named_beside posix name = only_in posix (numbered 4 name)
named_beside (listed _ entries) name = option_map big_endian (first_named entries name)

-- the wide value of the character with a name
abbrev pub named : CodedSet → Name → Option ℕ
named set name = option_or (portable_code name) (named_beside set name)

-- an answer is the next run of a set's characters, or none where no character is left
abbrev pub IsNextRun : CodedSet → ℕ → Option (ℕ × ℕ) → Type 0
IsNextRun set w answer = IsRunOf (has set) w answer

-- the bytes of the character with a wide value
abbrev pub encoded : CodedSet → ℕ → Option (List ℕ)
encoded utf8 w = if is_scalar w then Some (encode_utf8 w) else None
encoded posix w = if nat_lt w 128 then Some (w ∷ []) else None
encoded (listed _ entries) w =
    if is_portable w then Some (w ∷ []) else option_map (λ (entry : Name × List ℕ). entry.1) (find (has_value w) entries)

-- an answer is the wide value of the character with just these bytes, or none where no character has them
abbrev pub Decodes : CodedSet → List ℕ → Option ℕ → Type 0
Decodes set bytes None = (w : ℕ) → encoded set w ≢ Some bytes
Decodes set bytes (Some w) = encoded set w ≡ Some bytes

-- the wide value that bytes have, where a set encodes a character so
abbrev pub value_read : CodedSet → List ℕ → ℕ
value_read utf8 bytes = slice_index (chars bytes) 0
value_read posix bytes = big_endian bytes
value_read (listed _ entries) bytes = big_endian bytes

-- whether an encoding is there and is made of these bytes
abbrev pub is_code : Option (List ℕ) → List ℕ → Bool
is_code None bytes = false
is_code (Some code) bytes = bytes_eq code bytes

-- the wide value of the character with just these bytes
unfoldable pub valued : CodedSet → List ℕ → Option ℕ
valued set bytes = if is_code (encoded set (value_read set bytes)) bytes then Some (value_read set bytes) else None
