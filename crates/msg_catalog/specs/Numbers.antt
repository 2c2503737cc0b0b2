-- Numbers of sets and messages: decimal digits, without leading zeros.
use Rattle.std.specs.Prelude.{ℕ, ◌+◌, ◌-◌, ◌*◌, ◌&&◌, ◌==◌, not, nat_le, List, [], ◌∷◌, Option, Some, None, if◌then◌else◌}
use Rattle.std.specs.Char.{is_ascii_digit}
use Rattle.msg_catalog.specs.declared.cursor.Spot.{Spot}

-- the number that the digits here give behind those of n, and what follows them
abbrev pub number_from : ℕ → List Spot → ℕ × List Spot
number_from n [] = (n, [])
number_from n (s ∷ ss) = if is_ascii_digit s.byte then number_from (n * 10 + (s.byte - 48)) ss else (n, s ∷ ss)

-- a number, where it is at most so much
abbrev pub within : ℕ → ℕ × List Spot → Option (ℕ × List Spot)
within most x = if nat_le x.0 most then Some x else None

-- a number from 1 to so much, and what follows it
abbrev pub number : ℕ → List Spot → Option (ℕ × List Spot)
number most [] = None
number most (s ∷ ss) = if is_ascii_digit s.byte && not (s.byte == 48) then within most (number_from 0 (s ∷ ss)) else None
