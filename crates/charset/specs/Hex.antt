-- Names U0041 and U00000041 of characters by their numbers (our own rule).
use Rattle.std.specs.Prelude.{ℕ, ◌+◌, ◌*◌, ◌==◌, ◌&&◌, List, [], ◌∷◌, length, Option, Some, None, if◌then◌else◌}
use Rattle.std.specs.Char.{is_digit, digit_value}
use Rattle.charset.specs.Portable.{Name}

-- the number that hexadecimal digits of either case continue
abbrev pub hex_after : ℕ → List ℕ → Option ℕ
hex_after n [] = Some n
hex_after n (c ∷ cs) = if is_digit c 16 then hex_after (n * 16 + digit_value c) cs else None

-- the number in a name of the letter U and that many hexadecimal digits
unfoldable pub numbered : ℕ → Name → Option ℕ
numbered count [] = None
numbered count (u ∷ digits) = if u == 85 && length digits == count then hex_after 0 digits else None
