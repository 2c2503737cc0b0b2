-- Names of what is built in.
use Rattle.std.specs.Prelude.{ℕ, List, Bool, ◌||◌, codes}
use Rattle.std.specs.Str.{bytes_eq}

-- whether a name is one of the POSIX locale (XBD 7.2)
abbrev pub is_posix_locale : List ℕ → Bool
is_posix_locale name = bytes_eq name (codes "C") || bytes_eq name (codes "POSIX")

-- whether a name is that of a charset that no charmap describes (our own)
abbrev pub is_built_in_charset : List ℕ → Bool
is_built_in_charset name = bytes_eq name (codes "UTF-8") || bytes_eq name (codes "POSIX")
