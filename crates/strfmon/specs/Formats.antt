-- Conversions of amounts (XSH strfmon; bounds and the refusal are our own).
use Rattle.std.specs.Prelude.{ℕ, zero, suc, ◌+◌, ◌==◌, ◌&&◌, Bool, true, false, List, [], ◌∷◌, drop, Option, Some, None, is_some, is_none, option_map, if◌then◌else◌}
use Rattle.std.specs.Int.{is_in_range}
use Rattle.lc_base.specs.Lines.{◌>>=◌}
use Rattle.digit_groups.specs.Numbers.{further, leading_number}
use Rattle.digit_groups.specs.Conversions.{of_byte, number_after}
unfoldable pub use Rattle.digit_groups.specs.Formats.{piece, pieces}
use Rattle.strfmon.specs.declared.format.Signs.TheVariants.{Plus, Parentheses}
use Rattle.strfmon.specs.declared.format.MoneyFlag.{MoneyFlag}
use Rattle.strfmon.specs.declared.format.MoneyFlag.TheVariants.{NoGroups, SignTexts, InParentheses, NoSymbol, LeftAligned}
use Rattle.strfmon.specs.declared.format.Flags.{Flags}
use Rattle.strfmon.specs.declared.format.MoneyConversion.{MoneyConversion}

-- ---- flags

-- the flags of one byte
abbrev pub marks : List (ℕ × MoneyFlag)
marks =
    (94, NoGroups) ∷
    (43, SignTexts) ∷
    (40, InParentheses) ∷
    (33, NoSymbol) ∷
    (45, LeftAligned) ∷ []

abbrev pub mark_of : ℕ → Option MoneyFlag
mark_of c = of_byte marks c

abbrev pub no_flags : Flags
no_flags = record { fill = None; no_groups = false; signs = None; no_symbol = false; left = false }

-- a flag more, which was not given before; `+` and `(` are one choice
abbrev pub with_mark : Flags → MoneyFlag → Option Flags
with_mark f NoGroups = if f.no_groups then None else Some (record f { no_groups = true })
with_mark f SignTexts = if is_some f.signs then None else Some (record f { signs = Some Plus })
with_mark f InParentheses = if is_some f.signs then None else Some (record f { signs = Some Parentheses })
with_mark f NoSymbol = if f.no_symbol then None else Some (record f { no_symbol = true })
with_mark f LeftAligned = if f.left then None else Some (record f { left = true })

-- the fill, which was not given before: one byte from 0x20 to 0x7E
abbrev pub with_fill : Flags → ℕ → Option Flags
with_fill f c = if is_none f.fill && is_in_range 32 126 c then Some (record f { fill = Some c }) else None

-- the flags with the one of a byte
abbrev pub with_byte : Flags → Option MoneyFlag → Option (Flags × ℕ)
with_byte f None = Some (f, 0)
with_byte f (Some mark) = option_map (λ g. (g, 1)) (with_mark f mark)

-- the flags with the one that a byte and those behind it begin with, and how many bytes it takes: none where no flag is there
abbrev pub with_flag : Flags → ℕ → List ℕ → Option (Flags × ℕ)
with_flag f c [] = elim (c == 61) [
  | true ↦ None
  | false ↦ with_byte f (mark_of c)
]
with_flag f c (d ∷ cs) = elim (c == 61) [
  | true ↦ option_map (λ g. (g, 2)) (with_fill f d)
  | false ↦ with_byte f (mark_of c)
]

-- the flags that bytes begin with, beside those before them, behind so many bytes that belong to a flag, and how many bytes they take
unfoldable pub flags_behind : ℕ → Flags → List ℕ → Option (Flags × ℕ)
flags_behind skip f [] = Some (f, 0)
flags_behind (suc skip) f (c ∷ cs) = further 1 (flags_behind skip f cs)
flags_behind zero f (c ∷ cs) = elim (with_flag f c cs) [
  | None ↦ None
  | Some (g, zero) ↦ Some (f, 0)
  | Some (g, suc used) ↦ further 1 (flags_behind used g cs)
]

abbrev pub flags : List ℕ → Option (Flags × ℕ)
flags bs = flags_behind 0 no_flags bs

-- ---- conversions

-- whether a conversion is international: `i`, or else `n`
abbrev pub is_international : List ℕ → Option Bool
is_international [] = None
is_international (c ∷ cs) = if c == 105 then Some true else if c == 110 then Some false else None

-- the conversion that bytes behind a `%` begin with: flags, width, `#n`, `.p` and the letter, and how many bytes it takes
unfoldable pub conversion : List ℕ → Option (MoneyConversion × ℕ)
conversion bs = do
  f ← flags bs
  w ← leading_number (drop f.1 bs)
  n ← number_after 35 1 (drop (f.1 + w.1) bs)
  p ← number_after 46 1 (drop (f.1 + w.1 + n.1) bs)
  international ← is_international (drop (f.1 + w.1 + n.1 + p.1) bs)
  Some (record { flags = f.0; width = w.0; whole_digits = n.0; precision = p.0; international = international }, f.1 + w.1 + n.1 + p.1 + 1)

-- the conversion of a letter with nothing before it
abbrev pub plain : Bool → MoneyConversion
plain international = record { flags = no_flags; width = 0; whole_digits = None; precision = None; international = international }
