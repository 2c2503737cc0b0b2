-- Wide values as bytes (XBD 6.4; that a wide value has one encoding is our own rule).
use Rattle.std.specs.Prelude.{ℕ, zero, suc, ◌/◌, ◌%◌, nat_lt, List, [], ◌∷◌, ◌++◌, if◌then◌else◌}

-- a number as bytes without zeros in front, of which there are at most so many before the last one
abbrev pub short_bytes : ℕ → ℕ → List ℕ
short_bytes zero n = n ∷ []
short_bytes (suc more) n = if nat_lt n 256 then n ∷ [] else short_bytes more (n / 256) ++ n % 256 ∷ []

-- the one encoding that may have a wide value
abbrev pub shortest : ℕ → List ℕ
shortest n = short_bytes 3 n
