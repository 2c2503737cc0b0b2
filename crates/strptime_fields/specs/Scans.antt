-- The fields of a text by a format (XSH strptime).
use Rattle.std.specs.Prelude.{ℕ, zero, suc, ◌+◌, ◌-◌, ◌≤◌, Bool, true, false, List, [], ◌∷◌, length, fold, Option, Some, None, Result, Ok, Err, if◌then◌else◌}
use Rattle.std.specs.List.{flat_map, list_all}
use Rattle.time_cat.specs.Formats.{Piece, Literal, Converted, Wrong, pieces, is_conversion}
use Rattle.time_cat.specs.TimeValues.{TimeValues}
use Rattle.strptime_fields.specs.declared.item.Item.{Item}
use Rattle.time_cat.specs.declared.parsed.Parsed.{Parsed}
use Rattle.lc_base.specs.declared.refusal.FormatRefusal.{FormatRefusal}
use Rattle.lc_base.specs.declared.refusal.FormatRefusal.TheVariants.{BadFormat, Mismatch}
use Rattle.strptime_fields.specs.declared.fault.ScanFault.{ScanFault}
use Rattle.strptime_fields.specs.declared.fault.ScanFault.TheVariants as faults
use Rattle.strptime_fields.specs.Items.{item_of, format_for}
use Rattle.strptime_fields.specs.Keeping.{nothing, parsed}
use Rattle.strptime_fields.specs.Reading.{Read, read}

-- ---- formats within formats

-- the pieces of the format for which an item stands, where those of a format are as follow says
abbrev pub behind_format : (List ℕ → List Piece) → Option (List ℕ) → List Piece
behind_format follow None = []
behind_format follow (Some format) = follow format

abbrev pub within : TimeValues → (List ℕ → List Piece) → Option Item → List Piece
within v follow None = []
within v follow (Some i) = behind_format follow (format_for v i)

-- a piece, and behind one that stands for a format the pieces of that format
abbrev pub followed_piece : TimeValues → (List ℕ → List Piece) → Piece → List Piece
followed_piece v follow p = p ∷ within v follow (item_of p)

-- the pieces of a format, followed to their end, with so many formats within one another: a format of the locale holds only
-- conversions of lower rank, and those of the table's own formats stand for none, so there are at most five
unfoldable pub followed : ℕ → TimeValues → List ℕ → List Piece
followed zero v format = []
followed (suc levels) v format = flat_map (followed_piece v (followed levels v)) (pieces format)

-- whether a piece is a byte or a conversion of the table
abbrev pub has_item : Option Item → Bool
has_item None = false
has_item (Some i) = true

abbrev pub is_known : Piece → Bool
is_known p = has_item (item_of p)

-- how many bytes a piece takes of its format; each conversion of the table takes two
abbrev pub width : Piece → ℕ
width (Literal c) = 1
width (Converted modifier letter rank) = 2
width (Wrong at) = 1

-- where the first `%` stands that begins no conversion of the table, or whose format, followed to its end, holds one
abbrev pub bad_from : TimeValues → ℕ → List Piece → Option ℕ
bad_from v at [] = None
bad_from v at (p ∷ ps) = if list_all is_known (followed_piece v (followed 4 v) p) then bad_from v (at + width p) ps else Some at

-- ---- texts

-- a text that was read up to what is left of it with what was kept, or up to an item that what is left does not meet
abbrev pub Progress : Type 0
Progress = Result Read (List ℕ)

-- no more is left than so many bytes
abbrev pub IsWithin : ℕ → Progress → Type 0
IsWithin n (Ok r) = length r.0 ≤ n
IsWithin n (Err left) = length left ≤ n

abbrev pub or_missed : List ℕ → Option Read → Progress
or_missed left None = Err left
or_missed left (Some r) = Ok r

-- one item more
abbrev pub read_onward : TimeValues → Progress → Item → Progress
read_onward v (Err left) i = Err left
read_onward v (Ok r) i = or_missed r.0 (read v i r.0 r.1)

-- one piece more, which reads nothing where it has no item
abbrev pub by_item : TimeValues → Progress → Option Item → Progress
by_item v progress None = progress
by_item v progress (Some i) = read_onward v progress i

abbrev pub onward : TimeValues → Progress → Piece → Progress
onward v progress p = by_item v progress (item_of p)

-- pieces one after another
abbrev pub run : TimeValues → Progress → List Piece → Progress
run v progress ps = fold (onward v) progress ps

-- pieces one after another, or nothing where one has no item
abbrev pub if_known : Bool → Progress → Option Progress
if_known false progress = None
if_known true progress = Some progress

abbrev pub through : TimeValues → List Piece → Progress → Option Progress
through v ps progress = if_known (list_all is_known ps) (run v progress ps)

-- an item, and behind it the pieces of the format for which it stands
abbrev pub through_item : TimeValues → (List ℕ → List Piece) → Option Item → Progress → Option Progress
through_item v follow None progress = None
through_item v follow (Some i) progress = through v (within v follow (Some i)) (read_onward v progress i)

-- ---- answers

abbrev pub Scanned : Type 0
Scanned = Result (Parsed × ℕ) FormatRefusal

-- the fields and the index of the first byte that is not read, or that of the item that the text does not meet
abbrev pub ended : List ℕ → Progress → Scanned
ended text (Ok r) = Ok (parsed r.1, length text - length r.0)
ended text (Err left) = Err (Mismatch (length text - length left))

abbrev pub unless_bad : Option ℕ → Scanned → Scanned
unless_bad None scanned = scanned
unless_bad (Some at) scanned = Err (BadFormat at)

-- the fields of a text by a format; a wrong format goes before a text that does not meet it
abbrev pub scan : TimeValues → List ℕ → List ℕ → Scanned
scan v format text = unless_bad (bad_from v 0 (pieces format)) (ended text (run v (Ok (text, nothing)) (followed 5 v format)))

-- why a text has no fields
abbrev pub refusal_of : ScanFault → FormatRefusal
refusal_of (faults.BadFormat at) = BadFormat at
refusal_of (faults.Mismatch at) = Mismatch at

-- the answer that a result is
abbrev pub answer_of : Result (Parsed × ℕ) ScanFault → Scanned
answer_of (Ok found) = Ok found
answer_of (Err e) = Err (refusal_of e)

-- ---- steps

abbrev pub one_if : Bool → ℕ
one_if true = 1
one_if false = 0

-- how many conversions stand among pieces up to the first that has no item (our own)
abbrev pub reads : List Piece → ℕ
reads [] = 0
reads (p ∷ ps) = one_if (is_conversion p) + (if is_known p then reads ps else 0)

-- what a format costs: its conversions are read once, with those of the formats for which they stand, whatever the text is
abbrev pub cost : TimeValues → List ℕ → ℕ
cost v format = reads (followed 5 v format)
