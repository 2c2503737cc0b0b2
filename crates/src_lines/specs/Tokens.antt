-- The keyword and the operands of a logical line (XBD 7.3.1), or the fault at its least place.
use Rattle.std.specs.Prelude.{ℕ, zero, suc, ◌+◌, Bool, false, ◌||◌, ◌&&◌, ◌==◌, List, [], ◌∷◌, length, Option, Some, None, Result, Ok, Err, if◌then◌else◌}
use Rattle.lc_base.specs.declared.place.Place.{Place}
use Rattle.lc_base.specs.declared.reason.Reason.{Reason}
use Rattle.lc_base.specs.declared.reason.Reason.TheVariants.{OpenString, WrongOperand, OverLimit}
use Rattle.lc_base.specs.declared.reason.Limit.TheVariants.{Operands}
use Rattle.lc_base.specs.Reading.{Reads, ◌>>=◌}
use Rattle.src_lines.specs.declared.line.OperandPiece.{OperandPiece}
use Rattle.src_lines.specs.declared.line.Operand.{Operand}
use Rattle.src_lines.specs.declared.line.Operand.TheVariants.{Plain, Quoted}
use Rattle.src_lines.specs.declared.line.Line.{Line}
use Rattle.src_lines.specs.declared.atom.Atom.{Atom}
use Rattle.src_lines.specs.declared.atom.Atom.TheVariants.{Bare, Number, Made}
use Rattle.src_lines.specs.declared.text.RunEnd.{RunEnd}
use Rattle.src_lines.specs.declared.text.RunEnd.TheVariants.{AtBlank, AtSeparator}
use Rattle.src_lines.specs.Limits.{MAX_OPERANDS}
use Rattle.src_lines.specs.Words.{next_word}
use Rattle.lc_base.specs.Blanks.{is_blank}
use Rattle.src_lines.specs.Places.{Logical, place_at}
use Rattle.src_lines.specs.Shapes.{shape}
use Rattle.src_lines.specs.Atoms.{is_bare, piece, Item, items_from}

-- whether what was read is this byte, bare
abbrev pub has_bare : ℕ → Result Atom Reason → Bool
has_bare b (Ok u) = is_bare b u
has_bare b (Err reason) = false

-- whether an atom ends a run: a bare blank, and among operands a bare `;`
abbrev pub ends_run : RunEnd → Atom → Bool
ends_run AtBlank (Bare c) = is_blank c
ends_run AtSeparator (Bare c) = is_blank c || (c == 59)
ends_run end (Number c) = false
ends_run end (Made p) = false

-- one more value before those that are read after it
abbrev pub and_then : {A : Type 0} → A → Reads (List A × List Item) → Reads (List A × List Item)
and_then a later = later >>= λ x. Ok (a ∷ x.0, x.1)

-- a run: its atoms up to an atom that ends it, or the end
unfoldable pub run : RunEnd → List Item → Reads (List Atom × List Item)
run end [] = Ok ([], [])
run end (i ∷ is) = elim i.atom [
  | Ok u ↦ if ends_run end u then Ok ([], i ∷ is) else and_then u (run end is)
  | Err reason ↦ Err (i.place, reason)
]

-- whether a closing quote comes
abbrev pub is_closed : List Item → Bool
is_closed [] = false
is_closed (i ∷ is) = has_bare 34 i.atom || is_closed is

-- a text in quotes whose opening quote has this place: its pieces up to the closing quote. Where that does not come
-- the opening quote is at fault, whatever is wrong inside
unfoldable pub text : Place → List Item → Reads (List OperandPiece × List Item)
text quote [] = Err (quote, OpenString)
text quote (i ∷ is) = elim i.atom [
  | Ok u ↦ if is_bare 34 u then Ok ([], is) else and_then (piece u) (text quote is)
  | Err reason ↦ if is_closed is then Err (i.place, reason) else Err (quote, OpenString)
]

-- whether a text in quotes begins here
abbrev pub opens : List Item → Bool
opens [] = false
opens (i ∷ is) = has_bare 34 i.atom

-- an operand and what follows it
unfoldable pub operand : List Item → Reads (Operand × List Item)
operand [] = Ok (Plain [], [])
operand (i ∷ is) =
    if has_bare 34 i.atom then (text i.place is >>= λ x. Ok (Quoted x.0, x.1))
    else (run AtSeparator (i ∷ is) >>= λ x. Ok (shape x.0, x.1))

-- whether what was read is a bare blank
abbrev pub has_blank : Result Atom Reason → Bool
has_blank (Ok u) = is_bare 32 u || is_bare 9 u
has_blank (Err reason) = false

-- what comes after blanks
abbrev pub skip : List Item → List Item
skip [] = []
skip (i ∷ is) = if has_blank i.atom then skip is else i ∷ is

-- where the next item stands, or the end
abbrev pub next_place : Place → List Item → Place
next_place end [] = end
next_place end (i ∷ is) = i.place

abbrev pub same_place : Place → Place → Bool
same_place a b = (a.line == b.line) && (a.column == b.column)

-- one operand too many: a fault at its very place goes before that
abbrev pub too_many : Place → Reads (Operand × List Item) → Reads (List (Place × Operand))
too_many at (Ok x) = Err (at, OverLimit Operands)
too_many at (Err (place, reason)) = if same_place place at then Err (place, reason) else Err (at, OverLimit Operands)

-- an operand, and what follows the `;` after it, if there is one
abbrev pub separated_by : Operand → List Item → Reads (Operand × Option (List Item))
separated_by o [] = Ok (o, None)
separated_by o (i ∷ is) = if has_bare 59 i.atom then Ok (o, Some is) else Err (i.place, WrongOperand)

unfoldable pub separated : List Item → Reads (Operand × Option (List Item))
separated is = operand is >>= λ x. separated_by x.0 (skip x.1)

-- the operands, at most so many, where one is to come; end is the place of the line's end
unfoldable pub operands : ℕ → Place → List Item → Reads (List (Place × Operand))
operands zero end is = too_many (next_place end (skip is)) (operand (skip is))
operands (suc left) end is = separated (skip is) >>= λ x. (elim x.1 [
  | None ↦ Ok ((next_place end (skip is), x.0) ∷ [])
  | Some later ↦ operands left end later >>= λ os. Ok ((next_place end (skip is), x.0) ∷ os)
])

-- the operands of what follows the keyword: none where nothing but blanks follows
abbrev pub operands_after : Place → List Item → Reads (List (Place × Operand))
operands_after end [] = Ok []
operands_after end (i ∷ is) = operands MAX_OPERANDS end (i ∷ is)

-- the keyword and the operands of a line
unfoldable pub tokens : Logical → Reads Line
tokens l =
    let keyword = next_word l.bytes in
    let after = items_from l (keyword.skipped + length keyword.text) in
    operands_after (place_at l (length l.bytes)) (skip after) >>= λ os.
    Ok (record { place = place_at l keyword.skipped; keyword = keyword.text; operands = os })
