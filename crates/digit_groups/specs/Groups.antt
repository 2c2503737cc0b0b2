-- Digits in groups (XBD 7.3.4 grouping, XBD 7.3.3 mon_grouping).
use Rattle.std.specs.Prelude.{ℕ, ℤ, pos, negsuc, zero, suc, ◌+◌, ◌-◌, ◌*◌, ◌%◌, Bool, true, false, ◌==◌, nat_lt, ◌&&◌, ◌||◌, List, [], ◌∷◌, ◌++◌, length, Option, Some, None, if◌then◌else◌}

-- whether a number ends the list of sizes; that a 0 does, with all after it, is our own reading
abbrev pub is_size : ℤ → Bool
is_size (pos n) = nat_lt 0 n
is_size (negsuc n) = true

-- the sizes before the first 0
abbrev pub sizes_used : List ℤ → List ℤ
sizes_used [] = []
sizes_used (s ∷ ss) = if is_size s then s ∷ sizes_used ss else []

-- whether so many digits, counted from the radix, are whole groups: the first size is that of the group next to the radix, the next one that of the group before it; the last one repeats, and at -1 grouping ends
abbrev pub are_groups : List ℤ → ℕ → Bool
are_groups [] k = false
are_groups (negsuc n ∷ ss) k = false
are_groups (pos s ∷ []) k = k % s == 0
are_groups (pos s ∷ t ∷ ss) k = k == s || (nat_lt s k && are_groups (t ∷ ss) (k - s))

-- whether a separator stands before the last k digits: they are groups, and not nothing
abbrev pub separates : List ℤ → ℕ → Bool
separates sizes k = nat_lt 0 k && are_groups sizes k

-- digits with a separator wherever one stands
unfoldable pub separated : List ℕ → List ℤ → List ℕ → List ℕ
separated [] sizes sep = []
separated (d ∷ ds) sizes sep = d ∷ ((if separates sizes (length ds) then sep else []) ++ separated ds sizes sep)

-- how many separators stand in so many digits
unfoldable pub separators : List ℤ → ℕ → ℕ
separators sizes zero = 0
separators sizes (suc n) = (if separates sizes n then 1 else 0) + separators sizes n

-- the grouped digits
abbrev pub grouped : List ℕ → List ℤ → List ℕ → List ℕ
grouped digits sizes sep = separated digits (sizes_used sizes) sep

-- the bytes of so many grouped digits
abbrev pub grouped_width : ℕ → List ℤ → ℕ → ℕ
grouped_width n sizes sep_len = n + separators (sizes_used sizes) n * sep_len

-- ---- one group after another, from the radix on

-- the size of the group next to the radix, where digits stand before it
abbrev pub last_group : List ℤ → ℕ → Option ℕ
last_group [] n = None
last_group (negsuc m ∷ ss) n = None
last_group (pos s ∷ ss) n = if nat_lt s n then Some s else None

-- the sizes of the groups before that one; the last one repeats
abbrev pub before_last : List ℤ → List ℤ
before_last [] = []
before_last (s ∷ []) = s ∷ []
before_last (s ∷ t ∷ ss) = t ∷ ss
