-- Names with what they name, as lists and as maps.
use Rattle.std.specs.Prelude.{ℕ, suc, List, [], ◌∷◌, ◌++◌, map, Option, Some, None, option_map, is_some, if◌then◌else◌}
use Rattle.std.specs.HashMap.{HashMap}
use Rattle.std.specs.Str.{bytes_eq}
use Rattle.std.specs.declared.vec.Vec.{Vec}
use Rattle.lc_base.specs.Tables.{first_named}

-- names with what they name, and one more: a name that is there already keeps what it has
abbrev pub with_named : {A : Type 0} → List (List ℕ × A) → List ℕ → A → List (List ℕ × A)
with_named named name x = if is_some (first_named named name) then named else named ++ (name, x) ∷ []

-- the first place of a name in a list of names
abbrev pub place_of : {A : Type 0} → List (List ℕ × A) → List ℕ → Option ℕ
place_of [] name = None
place_of (entry ∷ entries) name = if bytes_eq entry.0 name then Some 0 else option_map suc (place_of entries name)

-- a name in a map with what it names
abbrev pub pair_of : {A V : Type 0} → Vec ℕ A × V → List ℕ × V
pair_of e = (e.0.items, e.1)

-- the names of a map with what they name, in order
abbrev pub pairs_of : {A V S : Type 0} → HashMap (Vec ℕ A) V S → List (List ℕ × V)
pairs_of named = map pair_of named.entries
