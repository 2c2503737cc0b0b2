-- The currency symbol as an item of nl_langinfo has it (XBD <langinfo.h>, CRNCYSTR).
use Rattle.std.specs.Prelude.{ℕ, ℤ, pos, negsuc, ◌==◌, List, [], ◌∷◌, if◌then◌else◌}

-- the sign before the currency symbol: + where it follows the number, else - (that -1 has - is our own)
abbrev pub sign : ℤ → ℕ
sign (pos n) = if n == 0 then 43 else 45
sign (negsuc n) = 45

-- the currency symbol behind its sign; nothing where there is no symbol (our own)
abbrev pub currency : ℤ → List ℕ → List ℕ
currency precedes [] = []
currency precedes (b ∷ bs) = sign precedes ∷ b ∷ bs
