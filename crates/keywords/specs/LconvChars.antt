-- Numbers and sizes of groups as localeconv gives them (XSH localeconv, XBD <locale.h>).
use Rattle.std.specs.Prelude.{ℕ, ℤ, pos, negsuc, ◌==◌, min, List, [], ◌∷◌, if◌then◌else◌}

-- what stands for a value that the locale does not tell: CHAR_MAX (XBD <limits.h>; that it is 127 is our own)
abbrev pub unknown : ℕ
unknown = 127

-- a number as a char: -1 is CHAR_MAX, which none is above
abbrev pub encoded : ℤ → ℕ
encoded (pos n) = min n unknown
encoded (negsuc n) = unknown

-- the sizes of groups as chars, up to a 0 and no further than CHAR_MAX, which ends the grouping
abbrev pub sizes_of : List ℤ → List ℕ
sizes_of [] = []
sizes_of (size ∷ sizes) =
    if encoded size == 0 then [] else
    if encoded size == unknown then unknown ∷ [] else
    encoded size ∷ sizes_of sizes

-- the same, where a first CHAR_MAX leaves none
abbrev pub groups : List ℤ → List ℕ
groups [] = []
groups (size ∷ sizes) = if encoded size == unknown then [] else sizes_of (size ∷ sizes)
