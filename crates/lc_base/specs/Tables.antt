-- Tables of names (our own).
use Rattle.std.specs.Prelude.{ℕ, List, [], ◌∷◌, Option, Some, None, if◌then◌else◌}
use Rattle.std.specs.Str.{bytes_eq}

-- what a table gives for a name: what stands in its first row with it
abbrev pub first_named : {A : Type 0} → List (List ℕ × A) → List ℕ → Option A
first_named [] name = None
first_named (row ∷ rows) name = if bytes_eq row.0 name then Some row.1 else first_named rows name
