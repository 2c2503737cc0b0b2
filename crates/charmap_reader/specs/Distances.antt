-- How far one number of decimal digits is above another, digit by digit.
use Rattle.std.specs.Prelude.{ℕ, ◌+◌, ◌-◌, ◌*◌, min, nat_lt, nat_le, List, length, slice_index, Option, Some, None, if◌then◌else◌}

-- the value of the digit with this place, counted from 1 at the last digit, or 0
abbrev pub digit_at : List ℕ → ℕ → ℕ
digit_at ds place = if nat_le place (length ds) then slice_index ds (length ds - place) - 48 else 0

-- the distance after one more digit of each number, up to 2 ^ 32; none where the second number is less
abbrev pub distance_after : Option ℕ → ℕ → ℕ → Option ℕ
distance_after None first last = None
distance_after (Some d) first last = if nat_lt (d * 10 + last) first then None else Some (min (d * 10 + last - first) 4294967296)
