-- What is wrong with the operands of LC_TIME (our own rules on the number of bytes and of conversions, and on ranks).
use Rattle.std.specs.Prelude.{◌≡◌, ℕ, ◌+◌, ◌-◌, ◌^◌, ◌==◌, ◌≤◌, nat_lt, nat_le, min, Bool, false, not, List, [], ◌∷◌, length, count_by, Option, Some, None, Ok, if◌then◌else◌}
use Rattle.std.specs.List.{list_any}
use Rattle.lc_base.specs.declared.place.Place.{Place}
use Rattle.lc_base.specs.declared.reason.Reason.{Reason}
use Rattle.lc_base.specs.declared.reason.Reason.TheVariants.{WrongCount, BadEra, BadFormat, FormatRank, TooManyDigits, OverLimit}
use Rattle.lc_base.specs.declared.reason.Limit.TheVariants.{Texts, Conversions}
use Rattle.lc_base.specs.Reading.{Reads, ◌>>=◌}
use Rattle.keywords.specs.declared.source.Value.{Value}
use Rattle.keywords.specs.declared.source.Value.TheVariants.{Text, Number, Chars, Pair}
use Rattle.keywords.specs.declared.source.Entry.{Entry}
use Rattle.keywords.specs.declared.row.Rule.{Rule}
use Rattle.keywords.specs.declared.row.Rule.TheVariants.{Format, Segments, Digits}
use Rattle.keywords.specs.Keywords.{texts}
use Rattle.keywords.specs.Rules.{text_fault, unless}
use Rattle.time_cat.specs.declared.segment.Segment.{Segment}
use Rattle.time_cat.specs.Formats.{Piece, pieces, is_conversion, has_rank, bad_place}
use Rattle.time_cat.specs.Eras.{segment}
use Rattle.time_cat.specs.Keywords.{takes_of, fixed_count}

-- a reason that comes first, or else another
abbrev pub or_reason : Option Reason → Option Reason → Option Reason
or_reason None later = later
or_reason (Some reason) later = Some reason

abbrev pub reason_if : Bool → Reason → Option Reason
reason_if b reason = if b then Some reason else None

-- a byte of a text, counted from 0; texts of a source have at most 256 bytes
abbrev pub byte_place : ℕ → ℕ
byte_place n = min n (2 ^ 32 - 1)

-- a `%` that begins no conversion, in a format that stands behind so many bytes of its text
abbrev pub bad_format : ℕ → Option ℕ → Option Reason
bad_format before None = None
bad_format before (Some at) = Some (BadFormat (byte_place (before + at)))

-- what is wrong with the pieces of a format of this rank
abbrev pub pieces_reason : ℕ → ℕ → List Piece → Option Reason
pieces_reason before rank ps =
    or_reason (bad_format before (bad_place ps))
    (or_reason (reason_if (nat_lt 16 (count_by is_conversion ps)) (OverLimit Conversions))
    (reason_if (list_any (has_rank rank) ps) FormatRank))

unfoldable pub format_reason : ℕ → ℕ → List ℕ → Option Reason
format_reason before rank format = pieces_reason before rank (pieces format)

-- what is wrong with a segment of an era; its format has rank 1
abbrev pub spelled_reason : ℕ → Option Segment → Option Reason
spelled_reason len None = Some BadEra
spelled_reason len (Some s) = format_reason (len - length s.format) 1 s.format

abbrev pub segment_reason : List ℕ → Option Reason
segment_reason text = spelled_reason (length text) (segment text)

-- a text that has no room left in its list, with the separator behind it
abbrev pub list_reason : ℕ → List ℕ → Option Reason
list_reason room text = reason_if (nat_le room (length text)) (OverLimit Texts)

-- the most alternative digits
abbrev pub most_digits : ℕ
most_digits = 100

-- the most bytes of a list, of which at most 4096 are those of its texts and of the separators between them
abbrev pub most_bytes : ℕ
most_bytes = 4097

-- what is wrong with a text where so many more may come, with so many bytes; a rule that is not LC_TIME's own is looked at as in other categories
abbrev pub operand_reason : Rule → ℕ → ℕ → List ℕ → Option Reason
operand_reason (Format rank) left room text = format_reason 0 rank text
operand_reason Segments left room text = or_reason (list_reason room text) (segment_reason text)
operand_reason Digits left room text = or_reason (reason_if (left == 0) TooManyDigits) (list_reason room text)
operand_reason rule left room text = text_fault rule text

-- the operands of a keyword, of which so many more may come with so many bytes, or the first broken rule
abbrev pub operands_checked : Rule → ℕ → ℕ → List (Place × Value) → Reads (Unit {0})
operands_checked takes left room [] = Ok tt
operands_checked takes left room ((place, Text text) ∷ vs) =
    unless place (operand_reason takes left room text) >>= λ _. operands_checked takes (left - 1) (room - length text - 1) vs
operands_checked takes left room ((place, Number n) ∷ vs) = operands_checked takes left room vs
operands_checked takes left room ((place, Chars a b) ∷ vs) = operands_checked takes left room vs
operands_checked takes left room ((place, Pair a b) ∷ vs) = operands_checked takes left room vs

-- whether a number of texts is not the one that is fixed
abbrev pub is_wrong_count : Option ℕ → ℕ → Bool
is_wrong_count None n = false
is_wrong_count (Some fixed) n = not (n == fixed)

-- the operands of a line whose keyword stands at a place, or the first broken rule
abbrev pub values_checked : Place → List (Place × Value) → Option Rule → Reads (Unit {0})
values_checked place vs None = Ok tt
values_checked place vs (Some takes) =
    unless place (reason_if (is_wrong_count (fixed_count takes) (length (texts vs))) WrongCount) >>= λ _. operands_checked takes most_digits most_bytes vs

-- a line, or its first broken rule
unfoldable pub line_checked : Entry → Reads (Unit {0})
line_checked e = values_checked e.place e.values (takes_of e.keyword)

-- the lines, or the first broken rule
abbrev pub checked : List Entry → Reads (Unit {0})
checked [] = Ok tt
checked (e ∷ es) = line_checked e >>= λ _. checked es

-- a format of the locale: each `%` begins a conversion, there are at most 16, and all are of lower rank
pub record IsFormat (rank : ℕ) (format : List ℕ) : Type 0 where
  pub whole : bad_place (pieces format) ≡ None
  pub few : count_by is_conversion (pieces format) ≤ 16
  pub ranks : list_any (has_rank rank) (pieces format) ≡ false
