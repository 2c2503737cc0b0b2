-- Conversions of whole numbers (XSH fprintf; bounds and the refusal are our own).
use Rattle.std.specs.Prelude.{ℕ, ◌+◌, ◌==◌, ◌||◌, Bool, true, false, List, [], ◌∷◌, drop, Option, Some, None, option_map, if◌then◌else◌}
use Rattle.lc_base.specs.Lines.{◌>>=◌}
use Rattle.digit_groups.specs.Numbers.{counted, further, leading_number}
use Rattle.digit_groups.specs.Conversions.{of_byte, number_after}
unfoldable pub use Rattle.digit_groups.specs.Formats.{piece, pieces}
use Rattle.int_format.specs.declared.format.IntFlag.{IntFlag}
use Rattle.int_format.specs.declared.format.IntFlag.TheVariants.{Groups, LeftAligned, PlusSign, SpaceSign, Zeros}
use Rattle.int_format.specs.declared.format.Flags.{Flags}
use Rattle.int_format.specs.declared.format.NumberField.{NumberField}
use Rattle.int_format.specs.declared.format.IntConversion.{IntConversion}

-- ---- flags

-- the flags, each of one byte
abbrev pub marks : List (ℕ × IntFlag)
marks =
    (39, Groups) ∷
    (45, LeftAligned) ∷
    (43, PlusSign) ∷
    (32, SpaceSign) ∷
    (48, Zeros) ∷ []

abbrev pub mark_of : ℕ → Option IntFlag
mark_of c = of_byte marks c

abbrev pub no_flags : Flags
no_flags = record { groups = false; left = false; plus = false; space = false; zeros = false }

-- a flag more, perhaps one that was given before
abbrev pub with_mark : Flags → IntFlag → Flags
with_mark f Groups = record f { groups = true }
with_mark f LeftAligned = record f { left = true }
with_mark f PlusSign = record f { plus = true }
with_mark f SpaceSign = record f { space = true }
with_mark f Zeros = record f { zeros = true }

-- the flags that bytes begin with, beside those before them, and how many bytes they take
unfoldable pub flags_behind : Flags → List ℕ → Flags × ℕ
flags_behind f [] = (f, 0)
flags_behind f (c ∷ cs) = elim (mark_of c) [
  | None ↦ (f, 0)
  | Some mark ↦ counted 1 (flags_behind (with_mark f mark) cs)
]

abbrev pub flags : List ℕ → Flags × ℕ
flags bs = flags_behind no_flags bs

-- ---- the flags, the width and the precision

-- the field whose flags and width stand in front of these bytes, and how many of these it takes
abbrev pub behind_width : Flags → ℕ → List ℕ → Option (NumberField × ℕ)
behind_width f w bs = option_map (λ p. (record { flags = f; width = w; precision = p.0 }, p.1)) (number_after 46 0 bs)

-- the field whose flags stand in front of these bytes
abbrev pub behind_flags : Flags → List ℕ → Option (NumberField × ℕ)
behind_flags f bs = leading_number bs >>= λ w. further w.1 (behind_width f w.0 (drop w.1 bs))

-- the flags, the width and the precision that bytes behind a `%` begin with, and how many bytes they take
abbrev pub field : List ℕ → Option (NumberField × ℕ)
field bs = further (flags bs).1 (behind_flags (flags bs).0 (drop (flags bs).1 bs))

-- ---- conversions

-- whether bytes begin with `l`
abbrev pub begins_with_l : List ℕ → Bool
begins_with_l [] = false
begins_with_l (c ∷ cs) = c == 108

-- how many bytes `l`, `ll` or `j` take where bytes begin with one of them; they change nothing
abbrev pub modifier : List ℕ → ℕ
modifier [] = 0
modifier (c ∷ cs) = if c == 108 then (if begins_with_l cs then 2 else 1) else if c == 106 then 1 else 0

-- whether a conversion is `d` or `i`, or else `u`
abbrev pub is_signed : List ℕ → Option Bool
is_signed [] = None
is_signed (c ∷ cs) = if c == 100 || c == 105 then Some true else if c == 117 then Some false else None

-- whether it is `d` or `i`, and how many bytes it takes with `l`, `ll` or `j` before it
abbrev pub letter : List ℕ → Option (Bool × ℕ)
letter bs = option_map (λ s. (s, modifier bs + 1)) (is_signed (drop (modifier bs) bs))

-- a conversion with this field, which is `d` or `i`, or else `u`
abbrev pub with_letter : NumberField → Bool → IntConversion
with_letter f signed = record { flags = f.flags; width = f.width; precision = f.precision; signed = signed }

-- the conversion that bytes behind a `%` begin with, and how many bytes it takes
abbrev pub conversion : List ℕ → Option (IntConversion × ℕ)
conversion bs = field bs >>= λ f. further f.1 (option_map (λ l. (with_letter f.0 l.0, l.1)) (letter (drop f.1 bs)))
