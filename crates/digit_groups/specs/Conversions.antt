-- Parts of a conversion (XSH fprintf and strfmon; bounds are our own).
use Rattle.std.specs.Prelude.{ℕ, ◌+◌, ◌==◌, nat_lt, List, [], ◌∷◌, Option, Some, None, option_map, if◌then◌else◌}
use Rattle.std.specs.List.{find}
use Rattle.lc_base.specs.Lines.{◌>>=◌}
use Rattle.digit_groups.specs.Numbers.{leading_number}

-- what a table has for a byte
abbrev pub of_byte : {A : Type 0} → List (ℕ × A) → ℕ → Option A
of_byte table c = option_map (λ row. row.1) (find (λ row. row.0 == c) table)

-- the number behind a sign, if the sign is there; it has so many digits at least
abbrev pub number_after : ℕ → ℕ → List ℕ → Option (Option ℕ × ℕ)
number_after sign least [] = Some (None, 0)
number_after sign least (c ∷ cs) = if c == sign then (leading_number cs >>= λ r. if nat_lt r.1 least then None else Some (Some r.0, r.1 + 1)) else Some (None, 0)
