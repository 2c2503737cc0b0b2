-- Formats of times: the conversions and other bytes that stand in them (XSH strftime).
use Rattle.std.specs.Prelude.{◌≡◌, ℕ, zero, suc, ◌+◌, ◌-◌, ◌==◌, ◌<◌, ◌≤◌, Bool, true, false, nat_le, ◌||◌, List, [], ◌∷◌, length, drop, Option, Some, None, if◌then◌else◌}
use Rattle.time_cat.specs.declared.conversion.TimeConversion.{TimeConversion}
use Rattle.time_cat.specs.declared.step.Step.{Step}
use Rattle.time_cat.specs.declared.step.Step.TheVariants.{End, Byte, Conv, Bad}
use Rattle.time_cat.specs.Conversions.{conversion}

-- E and O, behind which a conversion has its letter
abbrev pub is_modifier : ℕ → Bool
is_modifier letter = letter == 69 || letter == 79

-- the step of a conversion that ends before a place, where it is one
abbrev pub step_of : ℕ → ℕ → ℕ → Option TimeConversion → Step
step_of modifier letter next None = Bad
step_of modifier letter next (Some c) = Conv modifier letter c.rank next

-- what a modifier and these bytes are, behind a `%` at a place
abbrev pub modified_step : ℕ → ℕ → List ℕ → Step
modified_step at modifier [] = Bad
modified_step at modifier (letter ∷ cs) = step_of modifier letter (at + 3) (conversion modifier letter)

-- what bytes are, behind a `%` at a place
abbrev pub conversion_step : ℕ → List ℕ → Step
conversion_step at [] = Bad
conversion_step at (letter ∷ cs) = if is_modifier letter then modified_step at letter cs else step_of 0 letter (at + 2) (conversion 0 letter)

-- what the first of these bytes is, which stands at a place: the byte 37 is `%`
abbrev pub step : ℕ → List ℕ → Step
step at [] = End
step at (c ∷ cs) = if c == 37 then conversion_step at cs else Byte c

-- how many steps are counted
abbrev pub counted : Step → ℕ
counted End = 0
counted (Byte c) = 0
counted (Conv modifier letter rank next) = 1
counted Bad = 0

-- what a format is made of: bytes that stand for themselves, conversions, and perhaps at its end a `%` at a place that begins none
pub data Piece : Type 0 where
  Literal : ℕ → Piece
  Converted : ℕ → ℕ → ℕ → Piece
  Wrong : ℕ → Piece

-- a step before what follows after so many bytes more; nothing is read behind a `%` that begins no conversion
abbrev pub onward : ℕ → Step → (ℕ → List Piece) → List Piece
onward at End rest = []
onward at (Byte c) rest = Literal c ∷ rest 0
onward at (Conv modifier letter rank next) rest = Converted modifier letter rank ∷ rest (next - at - 1)
onward at Bad rest = Wrong at ∷ []

-- the pieces of bytes that stand at a place, of which the first ones, so many, belong to the piece before
abbrev pub pieces_from : ℕ → ℕ → List ℕ → List Piece
pieces_from at skip [] = []
pieces_from at (suc skip) (c ∷ cs) = pieces_from (at + 1) skip cs
pieces_from at zero (c ∷ cs) = onward at (step at (c ∷ cs)) (λ skip. pieces_from (at + 1) skip cs)

-- the pieces of a format from a place on
unfoldable pub rest_of : List ℕ → ℕ → List Piece
rest_of format at = pieces_from at 0 (drop at format)

-- the pieces of a format
unfoldable pub pieces : List ℕ → List Piece
pieces format = pieces_from 0 0 format

-- whether a piece is a conversion
abbrev pub is_conversion : Piece → Bool
is_conversion (Literal c) = false
is_conversion (Converted modifier letter rank) = true
is_conversion (Wrong at) = false

-- whether a piece is a conversion of this rank or above
abbrev pub has_rank : ℕ → Piece → Bool
has_rank least (Literal c) = false
has_rank least (Converted modifier letter rank) = nat_le least rank
has_rank least (Wrong at) = false

-- where a `%` stands that begins no conversion
abbrev pub bad_place : List Piece → Option ℕ
bad_place [] = None
bad_place (Literal c ∷ ps) = bad_place ps
bad_place (Converted modifier letter rank ∷ ps) = bad_place ps
bad_place (Wrong at ∷ ps) = Some at

-- what stands at a place of a format, and where it goes on behind it
abbrev pub IsStep : List ℕ → ℕ → Step → Type 0
IsStep format at End = rest_of format at ≡ []
IsStep format at (Byte c) = (at < length format) × (rest_of format at ≡ Literal c ∷ rest_of format (at + 1))
IsStep format at (Conv modifier letter rank next) = (at < next) × (next ≤ length format) × (rest_of format at ≡ Converted modifier letter rank ∷ rest_of format next)
IsStep format at Bad = rest_of format at ≡ Wrong at ∷ []
