-- The spelling of a keyword and its operands (XBD 7.3): each byte as a number, each name in its signs.
use Rattle.std.specs.Prelude.{◌≡◌, ◌≢◌, ℕ, ◌+◌, ◌/◌, ◌%◌, ◌<◌, ◌≤◌, Bool, false, ◌||◌, ◌==◌, nat_lt, List, [], ◌∷◌, ◌++◌, length, map, Ok, if◌then◌else◌, codes}
use Rattle.std.specs.List.{list_any, AllByRecursion}
use Rattle.lc_base.specs.declared.place.Place.{Place}
use Rattle.src_lines.specs.declared.line.OperandPiece.{OperandPiece}
use Rattle.src_lines.specs.declared.line.OperandPiece.TheVariants.{Byte, Name}
use Rattle.src_lines.specs.declared.line.Operand.{Operand}
use Rattle.src_lines.specs.declared.line.Operand.TheVariants.{Plain, Quoted, Dots, Pair}
use Rattle.src_lines.specs.Limits.{MAX_OPERANDS}
use Rattle.lc_base.specs.Blanks.{is_blank}
use Rattle.src_lines.specs.Places.{Logical}
use Rattle.src_lines.specs.Tokens.{tokens}

-- the digit of a value below 16
abbrev pub hex_digit : ℕ → ℕ
hex_digit h = if nat_lt h 10 then 48 + h else 87 + h

-- whether a byte has another meaning in a name
abbrev pub has_meaning : ℕ → Bool
has_meaning b = (b == 92) || ((b == 62) || is_blank b)

-- the bytes of a name and its closing sign
abbrev pub spelled_name : List ℕ → List ℕ
spelled_name [] = codes ">"
spelled_name (b ∷ bs) = if has_meaning b then 92 ∷ b ∷ spelled_name bs else b ∷ spelled_name bs

-- a byte as a number of two hexadecimal digits, a name in its signs
abbrev pub spelled_piece : OperandPiece → List ℕ
spelled_piece (Byte b) = codes "\\x" ++ hex_digit (b / 16) ∷ hex_digit (b % 16) ∷ []
spelled_piece (Name name) = codes "<" ++ spelled_name name

abbrev pub spelled_pieces : List OperandPiece → List ℕ
spelled_pieces [] = []
spelled_pieces (p ∷ ps) = spelled_piece p ++ spelled_pieces ps

abbrev pub spelled_operand : Operand → List ℕ
spelled_operand (Plain ps) = spelled_pieces ps
spelled_operand (Quoted ps) = codes "\"" ++ (spelled_pieces ps ++ codes "\"")
spelled_operand Dots = codes "..."
spelled_operand (Pair left right) = codes "(" ++ (spelled_pieces left ++ (codes "," ++ (spelled_pieces right ++ codes ")")))

-- operands with a `;` between them
abbrev pub spelled_operands : List Operand → List ℕ
spelled_operands [] = []
spelled_operands (o ∷ []) = spelled_operand o
spelled_operands (o ∷ p ∷ os) = spelled_operand o ++ (codes ";" ++ spelled_operands (p ∷ os))

-- a keyword, a blank and operands
abbrev pub spelled : List ℕ → List Operand → List ℕ
spelled keyword os = keyword ++ (codes " " ++ spelled_operands os)

-- a line of these bytes alone, with the signs that a text has at first
abbrev pub sole_line : List ℕ → Logical
sole_line bytes = record { signs = record { escape = 92; comment = 35 }; line = 1; bytes = bytes; joins = [] }

-- a keyword is a word: not empty and without blanks
pub record IsWord (keyword : List ℕ) : Type 0 where
  pub some : 0 < length keyword
  pub solid : list_any is_blank keyword ≡ false

-- a piece is a byte, or any name
abbrev pub IsPiece : OperandPiece → Type 0
IsPiece (Byte b) = b < 256
IsPiece (Name name) = Unit {0}

abbrev pub IsOperand : Operand → Type 0
IsOperand (Plain ps) = AllByRecursion IsPiece ps
IsOperand (Quoted ps) = AllByRecursion IsPiece ps
IsOperand Dots = Unit {0}
IsOperand (Pair left right) = AllByRecursion IsPiece left × AllByRecursion IsPiece right

-- at most 65536 operands; a line has no operand rather than an empty one alone
pub record AreOperands (os : List Operand) : Type 0 where
  pub few : length os ≤ MAX_OPERANDS
  pub each : AllByRecursion IsOperand os
  pub some : os ≢ Plain [] ∷ []

-- the spelling of a keyword and operands is read as just them
abbrev pub IsReadBack : List ℕ → List Operand → Type 0
IsReadBack keyword os =
    (found : List (Place × Operand)) × (tokens (sole_line (spelled keyword os)) ≡ Ok (record { place = record { line = 1; column = 1 }; keyword = keyword; operands = found })) × (map (λ x. x.1) found ≡ os)

-- each keyword and each list of operands has a spelling
abbrev pub HaveSpellings : Type 0
HaveSpellings = (keyword : List ℕ) (os : List Operand) → IsWord keyword → AreOperands os → IsReadBack keyword os
