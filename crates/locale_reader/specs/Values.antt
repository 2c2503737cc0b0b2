-- Operands, decoded by a charset (XBD 7.3.1).
use Rattle.std.specs.Prelude.{ℕ, ℤ, pos, neg_ℤ, Bool, true, false, ◌==◌, nat_lt, List, [], ◌∷◌, ◌++◌, length, Option, Some, None, option_map, option_and_then, Ok, Err, if◌then◌else◌}
use Rattle.lc_base.specs.Numbers.{few_digits}
use Rattle.lc_base.specs.declared.place.Place.{Place}
use Rattle.lc_base.specs.declared.reason.Reason.{Reason}
use Rattle.lc_base.specs.declared.reason.Reason.TheVariants.{WrongOperand, UnknownCharacter, OverLimit}
use Rattle.lc_base.specs.declared.reason.Limit.TheVariants.{Text as TextLimit}
use Rattle.lc_base.specs.Reading.{Reads, ◌>>=◌}
use Rattle.src_lines.specs.declared.line.OperandPiece.{OperandPiece}
use Rattle.src_lines.specs.declared.line.OperandPiece.TheVariants.{Byte, Name as Named}
use Rattle.src_lines.specs.declared.line.Operand.{Operand}
use Rattle.src_lines.specs.declared.line.Operand.TheVariants.{Plain, Quoted, Dots, Pair as Paired}
use Rattle.charset.specs.CodedSet.{CodedSet, named, encoded, valued}
use Rattle.src_lines.specs.Pieces.{only_bytes}
use Rattle.keywords.specs.declared.source.Value.{Value}
use Rattle.keywords.specs.declared.source.Value.TheVariants.{Text, Number, Chars, Pair}
use Rattle.keywords.specs.declared.row.Element.{Element}
use Rattle.keywords.specs.declared.row.Element.TheVariants.{CasePair, Word, Quote, Whole}
use Rattle.locale_reader.specs.Limits.{TEXT_LIMIT}

-- an operand with the place of its first byte
abbrev pub Placed : Type 0
Placed = Place × Operand

-- what is there, or else this fault at the operand
abbrev pub or_fault : {A : Type 0} → Place → Reason → Option A → Reads A
or_fault place reason None = Err (place, reason)
or_fault place reason (Some a) = Ok a

-- ---- characters

-- a name that is alone
abbrev pub lone_name : List OperandPiece → Option (List ℕ)
lone_name (Named name ∷ []) = Some name
lone_name _ = None

-- the character that bytes encode; no byte is none, and neither is a name beside other pieces
abbrev pub spelled : CodedSet → Place → Option (List ℕ) → Reads ℕ
spelled set place None = Err (place, WrongOperand)
spelled set place (Some []) = Err (place, WrongOperand)
spelled set place (Some (b ∷ bs)) = or_fault place UnknownCharacter (valued set (b ∷ bs))

-- the wide value of the character that an operand is: one name, or bytes that are just its encoding, however they are written
unfoldable pub character : CodedSet → Place → List OperandPiece → Reads ℕ
character set place pieces = elim (lone_name pieces) [
  | None ↦ spelled set place (only_bytes pieces)
  | Some name ↦ or_fault place UnknownCharacter (named set name)
]

unfoldable pub one_character : CodedSet → Placed → Reads ℕ
one_character set (place, Plain pieces) = character set place pieces
one_character set (place, Quoted pieces) = Err (place, WrongOperand)
one_character set (place, Dots) = Err (place, WrongOperand)
one_character set (place, Paired left right) = Err (place, WrongOperand)

-- a pair of characters
unfoldable pub case_pair : CodedSet → Placed → Reads Value
case_pair set (place, Plain pieces) = Err (place, WrongOperand)
case_pair set (place, Quoted pieces) = Err (place, WrongOperand)
case_pair set (place, Dots) = Err (place, WrongOperand)
case_pair set (place, Paired left right) = do
  a ← character set place left
  b ← character set place right
  Ok (Pair a b)

-- ---- texts

-- bytes before others, where both are there
abbrev pub joined : Option (List ℕ) → Option (List ℕ) → Option (List ℕ)
joined None later = None
joined (Some bs) later = option_map (λ cs. bs ++ cs) later

-- the bytes of a piece: a byte is itself, and a name gives those of its character
abbrev pub piece_bytes : CodedSet → OperandPiece → Option (List ℕ)
piece_bytes set (Byte b) = Some (b ∷ [])
piece_bytes set (Named name) = option_and_then (encoded set) (named set name)

-- the bytes of a text; none where the charset lacks a character that it names
abbrev pub decoded : CodedSet → List OperandPiece → Option (List ℕ)
decoded set [] = Some []
decoded set (p ∷ ps) = joined (piece_bytes set p) (decoded set ps)

-- a text of no more bytes than the limit
abbrev pub within_limit : Place → List ℕ → Reads (List ℕ)
within_limit place bs = if nat_lt TEXT_LIMIT (length bs) then Err (place, OverLimit TextLimit) else Ok bs

-- a text without its quotes
abbrev pub quoted_text : CodedSet → Place → List OperandPiece → Reads (List ℕ)
quoted_text set place pieces = or_fault place UnknownCharacter (decoded set pieces) >>= within_limit place

-- a text in quotes
unfoldable pub quote : CodedSet → Placed → Reads (List ℕ)
quote set (place, Plain pieces) = Err (place, WrongOperand)
quote set (place, Quoted pieces) = quoted_text set place pieces
quote set (place, Dots) = Err (place, WrongOperand)
quote set (place, Paired left right) = Err (place, WrongOperand)

-- a name without quotes, which is not empty and has no limit
abbrev pub plain_word : CodedSet → Place → List OperandPiece → Reads (List ℕ)
plain_word set place [] = Err (place, WrongOperand)
plain_word set place (p ∷ ps) = or_fault place UnknownCharacter (decoded set (p ∷ ps))

-- a name, in quotes or not
unfoldable pub word : CodedSet → Placed → Reads (List ℕ)
word set (place, Plain pieces) = plain_word set place pieces
word set (place, Quoted pieces) = quoted_text set place pieces
word set (place, Dots) = Err (place, WrongOperand)
word set (place, Paired left right) = Err (place, WrongOperand)

-- ---- numbers

-- one to nine decimal digits, perhaps behind a `-`
abbrev pub signed : List ℕ → Option ℤ
signed [] = None
signed (b ∷ bs) = if b == 45 then option_map (λ n. neg_ℤ (pos n)) (few_digits 9 bs) else option_map (λ n. pos n) (few_digits 9 (b ∷ bs))

unfoldable pub number : Placed → Reads ℤ
number (place, Plain pieces) = or_fault place WrongOperand (option_and_then signed (only_bytes pieces))
number (place, Quoted pieces) = Err (place, WrongOperand)
number (place, Dots) = Err (place, WrongOperand)
number (place, Paired left right) = Err (place, WrongOperand)

-- ---- lists

-- an operand as a value of this kind
unfoldable pub element : CodedSet → Element → Placed → Reads Value
element set CasePair o = case_pair set o
element set Word o = word set o >>= λ bs. Ok (Text bs)
element set Quote o = quote set o >>= λ bs. Ok (Text bs)
element set Whole o = number o >>= λ n. Ok (Number n)

-- just one operand, read with its place: none is a fault at the keyword, and a second one is at fault itself
abbrev pub one : {A : Type 0} → (Placed → Reads A) → Place → List Placed → Reads (Place × A)
one read keyword [] = Err (keyword, WrongOperand)
one read keyword (o ∷ []) = read o >>= λ a. Ok (o.0, a)
one read keyword (o ∷ p ∷ os) = read o >>= λ a. Err (p.0, WrongOperand)

-- a value before those that are read after it
abbrev pub followed : Place × Value → Reads (List (Place × Value)) → Reads (List (Place × Value))
followed v later = later >>= λ vs. Ok (v ∷ vs)

-- each operand as a value of this kind
abbrev pub several : CodedSet → Element → List Placed → Reads (List (Place × Value))
several set e [] = Ok []
several set e (o ∷ os) = element set e o >>= λ v. followed (o.0, v) (several set e os)

-- `...`
abbrev pub is_dots : Operand → Bool
is_dots (Plain pieces) = false
is_dots (Quoted pieces) = false
is_dots Dots = true
is_dots (Paired left right) = false

-- the last character of a range, behind dots and a first one
abbrev pub range_end : CodedSet → ℕ → Place → Placed → Reads ℕ
range_end set a dots c =
    if is_dots c.1 then Err (dots, WrongOperand)
    else (one_character set c >>= λ b. if nat_lt b a then Err (dots, WrongOperand) else Ok b)

-- characters and ranges: a character, dots and a character are the range from the one to the other, with the place of the first
abbrev pub members : CodedSet → List Placed → Reads (List (Place × Value))
members set [] = Ok []
members set (o ∷ []) = one_character set o >>= λ a. Ok ((o.0, Chars a a) ∷ [])
members set (o ∷ p ∷ []) = one_character set o >>= λ a.
    if is_dots p.1 then Err (p.0, WrongOperand) else followed (o.0, Chars a a) (members set (p ∷ []))
members set (o ∷ p ∷ q ∷ os) = one_character set o >>= λ a.
    if is_dots p.1 then (range_end set a p.0 q >>= λ b. followed (o.0, Chars a b) (members set os))
    else followed (o.0, Chars a a) (members set (p ∷ q ∷ os))
