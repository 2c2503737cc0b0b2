-- The definitions on worked examples.
use Rattle.std.proofs.Common.{◌≡◌, ℕ, List, [], ◌∷◌, Some, None, Ok, Err, refl}
use Rattle.std.specs.Prelude.{codes, map}
use Rattle.lc_base.specs.declared.place.Place.{Place}
use Rattle.lc_base.specs.declared.reason.Reason.TheVariants.{WrongOperand, BadEscape, OpenName, OpenString}
use Rattle.lc_base.specs.Reading.{Reads}
use Rattle.src_lines.specs.declared.line.OperandPiece.{OperandPiece}
use Rattle.src_lines.specs.declared.line.OperandPiece.TheVariants.{Byte, Name}
use Rattle.src_lines.specs.declared.line.Operand.TheVariants.{Plain, Quoted, Dots, Pair}
use Rattle.src_lines.specs.declared.line.Line.{Line}
use Rattle.src_lines.specs.declared.atom.Atom.TheVariants.{Bare, Number, Made}
use Rattle.src_lines.specs.declared.field.Field.{Field}
use Rattle.src_lines.specs.Limits.{MAX_OPERANDS}
use Rattle.src_lines.specs.Atoms.{items_from, up_to}
use Rattle.src_lines.specs.Pieces.{only_bytes}
use Rattle.src_lines.specs.Tokens.{tokens, operands, separated, operand, run, text}
use Rattle.src_lines.specs.Fields.{field, fields}
use Rattle.src_lines.specs.Spelling.{sole_line, spelled}

abbrev at : ℕ → ℕ → Place
at line column = record { line = line; column = column }

-- the tokens of a text's one line
abbrev read : List ℕ → Reads Line
read bytes = tokens (sole_line bytes)

abbrev bytes_of : List ℕ → List OperandPiece
bytes_of = map Byte

kinds : read (codes "k \"a;b\";<U0041>b;\\x41\\d065;\\1011;...;(a,b)") ≡ Ok (record {
  place = at 1 1;
  keyword = codes "k";
  operands =
      (at 1 3, Quoted (bytes_of (codes "a;b"))) ∷ (at 1 9, Plain (Name (codes "U0041") ∷ Byte 98 ∷ [])) ∷ (at 1 18, Plain (bytes_of (65 ∷ 65 ∷ [])))
      ∷ (at 1 28, Plain (bytes_of (65 ∷ 49 ∷ []))) ∷ (at 1 34, Dots) ∷ (at 1 38, Pair (bytes_of (codes "a")) (bytes_of (codes "b"))) ∷ [];
})
unfolding tokens operands separated operand run text items_from
kinds = refl

short_hex : read (codes "k \\x4") ≡ Err (at 1 3, BadEscape)
unfolding tokens operands separated operand run text items_from
short_hex = refl

over_byte : read (codes "k a\\400") ≡ Err (at 1 4, BadEscape)
unfolding tokens operands separated operand run text items_from
over_byte = refl

-- an open text is at fault whatever is wrong inside, and a wrong escape before it goes first
open_text : read (codes "k \"\\4 <a b") ≡ Err (at 1 3, OpenString)
unfolding tokens operands separated operand run text items_from
open_text = refl

closed_text : read (codes "k \"a\\4 <a b\"") ≡ Err (at 1 5, BadEscape)
unfolding tokens operands separated operand run text items_from
closed_text = refl

open_name : read (codes "k <a\\>b ;\"") ≡ Err (at 1 3, OpenName)
unfolding tokens operands separated operand run text items_from
open_name = refl

empty_operands : read (codes "k ;(a, ") ≡ Ok (record { place = at 1 1; keyword = codes "k"; operands = (at 1 3, Plain []) ∷ (at 1 4, Plain (bytes_of (codes "(a,"))) ∷ [] })
unfolding tokens operands separated operand run text items_from
empty_operands = refl

no_separator : read (codes " upper a b") ≡ Err (at 1 10, WrongOperand)
unfolding tokens operands separated operand run text items_from
no_separator = refl

-- ---- fields

abbrev read_fields : List ℕ → Reads (Field × Field)
read_fields bytes = fields (sole_line bytes)

-- a number, an escaped byte, names, bare bytes; what follows the second field is not read
two_fields : read_fields (codes " <a>.<c>\\x80\t\\d065\\; <d") ≡ Ok (
  record { place = at 1 2; atoms = Made (Name (codes "a")) ∷ Bare 46 ∷ Made (Name (codes "c")) ∷ Number 128 ∷ [] },
  record { place = at 1 14; atoms = Number 65 ∷ Made (Byte 59) ∷ [] },
)
unfolding fields field run items_from
two_fields = refl

-- a bare `;` and a bare `"` are bytes like others
bare_signs : read_fields (codes "a;\"b \";") ≡ Ok (
  record { place = at 1 1; atoms = Bare 97 ∷ Bare 59 ∷ Bare 34 ∷ Bare 98 ∷ [] },
  record { place = at 1 6; atoms = Bare 34 ∷ Bare 59 ∷ [] },
)
unfolding fields field run items_from
bare_signs = refl

-- a field that is not there stands at the line's end
empty_field : read_fields (codes " a ") ≡ Ok (record { place = at 1 2; atoms = Bare 97 ∷ [] }, record { place = at 1 4; atoms = [] })
unfolding fields field run items_from
empty_field = refl

wrong_field : read_fields (codes "a \\4 <b") ≡ Err (at 1 3, BadEscape)
unfolding fields field run items_from
wrong_field = refl

open_field : read_fields (codes "a;b<c d") ≡ Err (at 1 4, OpenName)
unfolding fields field run items_from
open_field = refl

-- ---- atoms and pieces

few_atoms : up_to 2 (Bare 97 ∷ Number 98 ∷ []) ≡ Some (Bare 97 ∷ Number 98 ∷ [])
few_atoms = refl

many_atoms : up_to 1 (Bare 97 ∷ Number 98 ∷ []) ≡ None
many_atoms = refl

bytes_alone : only_bytes (Byte 97 ∷ Byte 98 ∷ []) ≡ Some (codes "ab")
bytes_alone = refl

name_beside : only_bytes (Byte 97 ∷ Name (codes "b") ∷ []) ≡ None
name_beside = refl

-- ---- spellings and the limit

spelling : spelled (codes "k") (Plain (Byte 65 ∷ Name (codes "a>b") ∷ []) ∷ Dots ∷ Quoted [] ∷ Pair [] (Byte 10 ∷ []) ∷ []) ≡ codes "k \\x41<a\\>b>;...;\"\";(,\\x0a)"
spelling = refl

most_operands : MAX_OPERANDS ≡ 65536
most_operands = refl
