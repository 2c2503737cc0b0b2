-- Formats and their texts: bytes that are copied, and conversions of values (XSH fprintf and strfmon; the refusals are our own).
use Rattle.std.specs.Prelude.{◌≡◌, ℕ, zero, suc, ◌+◌, ◌<◌, ◌==◌, List, [], ◌∷◌, ◌++◌, length, Option, Some, None, option_map, IfSome, Result, Ok, Err, if◌then◌else◌}
use Rattle.digit_groups.specs.declared.piece.Piece.{Piece}
use Rattle.digit_groups.specs.declared.piece.Piece.TheVariants.{Literal, Convert}
use Rattle.digit_groups.specs.declared.fault.FormatFault.{FormatFault}
use Rattle.digit_groups.specs.declared.fault.FormatFault.TheVariants.{Stopped, Memory}
use Rattle.digit_groups.specs.declared.fault.FormatStop.{FormatStop}
use Rattle.digit_groups.specs.declared.fault.FormatStop.TheVariants as stops
use Rattle.text_buffer.specs.declared.unwritten.Unwritten.{Unwritten}
use Rattle.text_buffer.specs.declared.unwritten.Unwritten.TheVariants.{Refused, TooSmall}
use Rattle.lc_base.specs.declared.refusal.FormatRefusal.{FormatRefusal}
use Rattle.lc_base.specs.declared.refusal.FormatRefusal.TheVariants.{BadFormat, TooBig}
use Rattle.lc_base.specs.Limits.{within}
use Rattle.text_buffer.specs.Written.{told_length}

-- ---- pieces

-- what a `%` begins, where conversions are read so: `%%`, which is a `%`, or a conversion
abbrev pub behind_percent : {C : Type 0} → (List ℕ → Option (C × ℕ)) → List ℕ → Option (Piece C × ℕ)
behind_percent read [] = None
behind_percent read (c ∷ cs) = if c == 37 then Some (Literal 37, 1) else option_map (λ r. (Convert r.0, r.1)) (read (c ∷ cs))

-- the piece that a byte begins, and how many of the bytes behind it belong to it
unfoldable pub piece : {C : Type 0} → (List ℕ → Option (C × ℕ)) → ℕ → List ℕ → Option (Piece C × ℕ)
piece read c cs = if c == 37 then behind_percent read cs else Some (Literal c, 0)

-- a piece with its place before others
abbrev pub followed : {C : Type 0} → ℕ × Piece C → Result (List (ℕ × Piece C)) ℕ → Result (List (ℕ × Piece C)) ℕ
followed p (Ok ps) = Ok (p ∷ ps)
followed p (Err at) = Err at

-- the pieces of a format, each with its place, from a place on and behind so many bytes that belong to a piece before them; or the place of the first `%` that begins no conversion
unfoldable pub pieces : {C : Type 0} → (List ℕ → Option (C × ℕ)) → ℕ → ℕ → List ℕ → Result (List (ℕ × Piece C)) ℕ
pieces read skip at [] = Ok []
pieces read (suc skip) at (c ∷ cs) = pieces read skip (at + 1) cs
pieces read zero at (c ∷ cs) = elim (piece read c cs) [
  | None ↦ Err at
  | Some p ↦ followed (at, p.0) (pieces read p.1 (at + 1) cs)
]

-- the pieces, where no conversion is bad
abbrev pub good_pieces : {C : Type 0} → Result (List (ℕ × Piece C)) ℕ → List (ℕ × Piece C)
good_pieces (Err at) = []
good_pieces (Ok ps) = ps

-- ---- values

-- the values that a piece leaves
abbrev pub values_behind : {C V : Type 0} → Piece C → List V → List V
values_behind (Literal b) values = values
values_behind (Convert c) [] = []
values_behind (Convert c) (v ∷ values) = values

-- the text of a piece, which is that of the first value where it is a conversion
abbrev pub piece_text : {C V : Type 0} → (C → V → List ℕ) → Piece C → List V → List ℕ
piece_text text (Literal b) values = b ∷ []
piece_text text (Convert c) [] = []
piece_text text (Convert c) (v ∷ values) = text c v

-- the text of pieces with their values; those that are left over are passed over
unfoldable pub pieces_text : {C V : Type 0} → (C → V → List ℕ) → List (ℕ × Piece C) → List V → List ℕ
pieces_text text [] values = []
pieces_text text (p ∷ ps) values = piece_text text p.1 values ++ pieces_text text ps (values_behind p.1 values)

-- the place of the first conversion for which no value is left of so many
unfoldable pub missing : {C : Type 0} → List (ℕ × Piece C) → ℕ → Option ℕ
missing [] n = None
missing ((at, Literal b) ∷ ps) n = missing ps n
missing ((at, Convert c) ∷ ps) zero = Some at
missing ((at, Convert c) ∷ ps) (suc n) = missing ps n

-- ---- refusals

-- the first refusal of a format with so many values: a bad conversion goes before a missing value, whose refusal is told by its place
abbrev pub refusal : {C : Type 0} → (ℕ → FormatRefusal) → Result (List (ℕ × Piece C)) ℕ → ℕ → Option FormatRefusal
refusal lacks (Err at) values = Some (BadFormat at)
refusal lacks (Ok ps) values = option_map lacks (missing ps values)

-- the same behind pieces of which perhaps the one at this place lacked its value
abbrev pub refusal_behind : {C : Type 0} → (ℕ → FormatRefusal) → Option ℕ → Result (List (ℕ × Piece C)) ℕ → ℕ → Option FormatRefusal
refusal_behind lacks lacking (Err at) values = Some (BadFormat at)
refusal_behind lacks None (Ok ps) values = refusal lacks (Ok ps) values
refusal_behind lacks (Some at) (Ok ps) values = Some (lacks at)

-- the text, or what goes before it
abbrev pub unless_refused : Option FormatRefusal → List ℕ → Result (List ℕ) FormatRefusal
unless_refused None text = Ok text
unless_refused (Some why) text = Err why

-- the text of a format with its values, or the refusal
abbrev pub formatted : {C V : Type 0} → (List ℕ → Option (C × ℕ)) → (C → V → List ℕ) → (ℕ → FormatRefusal) → List ℕ → List V → Result (List ℕ) FormatRefusal
formatted read text lacks format values = unless_refused (refusal lacks (pieces read 0 0 format) (length values)) (pieces_text text (good_pieces (pieces read 0 0 format)) values)

-- an answer whose text has at most so many bytes
abbrev pub at_most : ℕ → Result (List ℕ) FormatRefusal → Result (List ℕ) FormatRefusal
at_most max_len (Ok text) = within max_len text
at_most max_len (Err why) = Err why

-- what is told of a stop, where lacking values are refused so
abbrev pub unwritten_of : (ℕ → FormatRefusal) → FormatStop → Unwritten
unwritten_of lacks (stops.BadFormat at) = Refused (BadFormat at)
unwritten_of lacks (stops.MissingValue at) = Refused (lacks at)
unwritten_of lacks (stops.TooSmall needed) = TooSmall needed

-- the same of a length or a stop
abbrev pub result_of : (ℕ → FormatRefusal) → Result ℕ FormatStop → Result ℕ Unwritten
result_of lacks (Ok n) = Ok n
result_of lacks (Err stop) = Err (unwritten_of lacks stop)

-- why there is no text, unless it was out of memory
abbrev pub refusal_of : (ℕ → FormatRefusal) → FormatFault → Option FormatRefusal
refusal_of lacks (Stopped (stops.BadFormat at)) = Some (BadFormat at)
refusal_of lacks (Stopped (stops.MissingValue at)) = Some (lacks at)
refusal_of lacks (Stopped (stops.TooSmall needed)) = Some TooBig
refusal_of lacks Memory = None

-- a fault is the refusal of the definition, or out of memory, which says nothing
abbrev pub Refuses : (ℕ → FormatRefusal) → FormatFault → Result (List ℕ) FormatRefusal → Type 0
Refuses lacks e answer = IfSome (refusal_of lacks e) (λ why. answer ≡ Err why)

-- a text that is longer than so many bytes, and the length that is told of it
abbrev pub IsLonger : ℕ → ℕ → Result (List ℕ) FormatRefusal → Type 0
IsLonger room needed (Ok text) = (room < length text) × (needed ≡ told_length text)
IsLonger room needed (Err why) = ⊥

-- a fault says why a text is not among so many bytes, or it is out of memory, which says nothing
abbrev pub Stops : (ℕ → FormatRefusal) → ℕ → FormatFault → Result (List ℕ) FormatRefusal → Type 0
Stops lacks room (Stopped (stops.BadFormat at)) answer = answer ≡ Err (BadFormat at)
Stops lacks room (Stopped (stops.MissingValue at)) answer = answer ≡ Err (lacks at)
Stops lacks room (Stopped (stops.TooSmall needed)) answer = IsLonger room needed answer
Stops lacks room Memory answer = Unit
