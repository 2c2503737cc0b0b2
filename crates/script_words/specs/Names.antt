-- Names of locales, charmaps and threads (our own rules).
use Rattle.std.specs.Prelude.{ℕ, ◌==◌, nat_lt, nat_le, Bool, not, ◌&&◌, ◌||◌, List, length, slice_index, codes}
use Rattle.std.specs.List.{list_all}
use Rattle.std.specs.Str.{bytes_eq}
use Rattle.lc_base.specs.BuiltIn.{is_built_in_charset, is_posix_locale}
use Rattle.script_words.specs.Limits.{LOCALE_NAME_LIMIT, THREAD_NAME_LIMIT, CLASS_NAME_LIMIT}

-- `A` to `Z` or `a` to `z`
abbrev pub is_letter : ℕ → Bool
is_letter c = (nat_le 65 c && nat_le c 90) || (nat_le 97 c && nat_le c 122)

-- `0` to `9`
abbrev pub is_digit : ℕ → Bool
is_digit c = nat_le 48 c && nat_le c 57

-- a letter or a digit
abbrev pub is_letter_or_digit : ℕ → Bool
is_letter_or_digit c = is_letter c || is_digit c

-- a letter, a digit, `_`, `.`, `-` or `@`
abbrev pub is_name_byte : ℕ → Bool
is_name_byte c = is_letter_or_digit c || (c == 95) || (c == 46) || (c == 45) || (c == 64)

-- 1 to 64 bytes of a name
unfoldable pub is_formed : List ℕ → Bool
is_formed name = nat_lt 0 (length name) && nat_le (length name) LOCALE_NAME_LIMIT && list_all is_name_byte name

-- a formed name that is neither `C` nor `POSIX`
unfoldable pub is_locale_name : List ℕ → Bool
is_locale_name name = is_formed name && not (is_posix_locale name)

-- a formed name that is not `POSIX`, since the categories of the POSIX locale have the name `C`
unfoldable pub is_part_name : List ℕ → Bool
is_part_name name = is_formed name && not (bytes_eq name (codes "POSIX"))

-- a formed name that is neither `UTF-8` nor `POSIX`
unfoldable pub is_charmap_name : List ℕ → Bool
is_charmap_name name = is_formed name && not (is_built_in_charset name)

-- a letter and up to 15 letters and digits, and not `GLOBAL`
unfoldable pub is_thread_name : List ℕ → Bool
is_thread_name name = nat_lt 0 (length name) && nat_le (length name) THREAD_NAME_LIMIT && is_letter (slice_index name 0) && list_all is_letter_or_digit name && not (bytes_eq name (codes "GLOBAL"))

-- the name of a character class: 1 to 14 letters and digits
unfoldable pub is_class_name : List ℕ → Bool
is_class_name name = nat_lt 0 (length name) && nat_le (length name) CLASS_NAME_LIMIT && list_all is_letter_or_digit name
