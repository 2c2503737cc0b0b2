-- Names with their encodings, as a charmap gives them.
use Rattle.std.specs.Prelude.{ℕ, List, [], ◌∷◌, ◌++◌, Option, Some, None, is_some, if◌then◌else◌}
use Rattle.lc_base.specs.Tables.{first_named}
use Rattle.charset.specs.Portable.{Name}

-- a name with its encoding
abbrev pub Entry : Type 0
Entry = Name × List ℕ

-- entries with further ones, each of a name that was not given before
abbrev pub added : List Entry → List Entry → Option (List Entry)
added given [] = Some given
added given (e ∷ es) = if is_some (first_named given e.0) then None else added (given ++ e ∷ []) es
