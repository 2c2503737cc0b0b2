-- Words as messages show them (our own).
use Rattle.std.specs.Prelude.{ℕ, Bool, ◌+◌, ◌/◌, ◌%◌, ◌==◌, ◌||◌, nat_lt, List, [], ◌∷◌, if◌then◌else◌}
use Rattle.std.specs.List.{flat_map}

-- a control byte of ASCII
abbrev pub is_control : ℕ → Bool
is_control c = nat_lt c 32 || (c == 127)

-- a hexadecimal digit, with the lower-case letters
abbrev pub hex_digit : ℕ → ℕ
hex_digit n = if nat_lt n 10 then 48 + n else 87 + n

-- a byte of a word: `\xHH` for a control byte, and any other byte as it is
abbrev pub shown_byte : ℕ → List ℕ
shown_byte c = if is_control c then 92 ∷ 120 ∷ hex_digit (c / 16) ∷ hex_digit (c % 16) ∷ [] else c ∷ []

-- a word as a message shows it
abbrev pub shown_word : List ℕ → List ℕ
shown_word word = flat_map shown_byte word
