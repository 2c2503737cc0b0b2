-- Charmaps: the charset of a text, or its first broken rule (XBD 6.4).
use Rattle.std.specs.Prelude.{ℕ, ◌+◌, ◌^◌, Bool, false, ◌==◌, ◌||◌, not, nat_lt, nat_le, List, [], ◌∷◌, length, take, drop, map, codes, Option, Some, None, position, Ok, Err, if◌then◌else◌}
use Rattle.std.specs.List.{list_any, range_with_len}
use Rattle.std.specs.Int.{is_in_range, bytes_high_first}
use Rattle.std.specs.Str.{bytes_eq}
use Rattle.lc_base.specs.declared.place.Place.{Place}
use Rattle.lc_base.specs.declared.reason.Reason.{Reason}
use Rattle.lc_base.specs.declared.reason.Reason.TheVariants.{NoEnd, BadHeader, BadEncoding, RangeBackward, OverLimit, NameTwice, PortableMoved}
use Rattle.lc_base.specs.declared.reason.Limit.TheVariants.{Names}
use Rattle.lc_base.specs.Reading.{Reads, ◌>>=◌}
use Rattle.src_lines.specs.declared.signs.Kind.TheVariants.{Charmap}
use Rattle.src_lines.specs.declared.line.Operand.{Operand}
use Rattle.src_lines.specs.declared.line.Operand.TheVariants.{Plain, Quoted, Dots, Pair}
use Rattle.src_lines.specs.declared.field.Field.{Field}
use Rattle.src_lines.specs.Words.{blanks, first_word, second_word}
use Rattle.src_lines.specs.Places.{Logical, start, line_at, closes_line}
use Rattle.src_lines.specs.Logical.{ends_head, front}
use Rattle.src_lines.specs.Pieces.{only_bytes}
use Rattle.src_lines.specs.Tokens.{tokens}
use Rattle.src_lines.specs.Fields.{fields}
use Rattle.charset.specs.Limits.{NAME_LIMIT}
use Rattle.charset.specs.Portable.{portable_code}
use Rattle.charset.specs.CodedSet.{CodedSet, listed, big_endian}
use Rattle.charset.specs.Entries.{Entry, added}
use Rattle.charmap_reader.specs.Subject.{Subject, subject, more_names, name_at}
use Rattle.charmap_reader.specs.Encoding.{encoding}

-- ---- header lines

-- the bytes of an operand that has no name in it
abbrev pub operand_bytes : Operand → Option (List ℕ)
operand_bytes (Plain pieces) = only_bytes pieces
operand_bytes (Quoted pieces) = only_bytes pieces
operand_bytes Dots = None
operand_bytes (Pair left right) = None

-- the bytes of a header line's one operand
abbrev pub header_bytes : List (Place × Operand) → Option (List ℕ)
header_bytes [] = None
header_bytes (operand ∷ []) = operand_bytes operand.1
header_bytes (operand ∷ other ∷ more) = None

abbrev pub line_bytes : Logical → Reads (Option (List ℕ))
line_bytes l = tokens l >>= λ line. Ok (header_bytes line.operands)

-- a count of bytes is one digit from 1 to 4
abbrev pub is_count : List ℕ → Bool
is_count (b ∷ []) = is_in_range 49 52 b
is_count _ = false

-- the code set name after a line that gives one
abbrev pub named_by : Place → Option (List ℕ) → Reads (List ℕ)
named_by place (Some name) = Ok name
named_by place None = Err (place, BadHeader)

-- the same after a line that gives a count, which changes nothing
abbrev pub counted_by : Place → List ℕ → Option (List ℕ) → Reads (List ℕ)
counted_by place name (Some bs) = if is_count bs then Ok name else Err (place, BadHeader)
counted_by place name None = Err (place, BadHeader)

-- whether a header line's first word says that it gives the code set name
abbrev pub gives_name : List ℕ → Bool
gives_name word = bytes_eq word (codes "<code_set_name>")

-- whether it says that the line gives a count
abbrev pub gives_count : List ℕ → Bool
gives_count word = bytes_eq word (codes "<mb_cur_max>") || bytes_eq word (codes "<mb_cur_min>")

-- the code set name after a header line
unfoldable pub header : List ℕ → Logical → Reads (List ℕ)
header name l =
    let word = first_word l.bytes in
    if gives_name word then (line_bytes l >>= named_by (start l))
    else (if gives_count word then (line_bytes l >>= counted_by (start l) name)
    else Err (start l, BadHeader))

-- the code set name after header lines
abbrev pub headers : List ℕ → List Logical → Reads (List ℕ)
headers name [] = Ok name
headers name (l ∷ ls) = header name l >>= λ next. headers next ls

-- ---- lines of the body

-- the encodings of a range go up by one from the first, in as many bytes
abbrev pub entries : Subject → List ℕ → ℕ → List Entry
entries s code more = map (λ k. (name_at s k, bytes_high_first (length code) (big_endian code + k))) (range_with_len 0 (more + 1))

-- whether bytes are another encoding than the code of a portable name
abbrev pub moved_from : Option ℕ → List ℕ → Bool
moved_from None bytes = false
moved_from (Some code) bytes = not (bytes_eq bytes (code ∷ []))

-- whether a portable name has another encoding than its own
abbrev pub is_moved : Entry → Bool
is_moved entry = moved_from (portable_code entry.0) entry.1

-- the entries after those of a line, if each of its names is new
abbrev pub listed_with : Place → List Entry → Option (List Entry) → Reads (List Entry)
listed_with place new None = Err (place, NameTwice)
listed_with place new (Some all) = if list_any is_moved new then Err (place, PortableMoved) else Ok all

-- the entries after those of a line, whose name or range has this place
abbrev pub listed_at : Place → List Entry → List Entry → Reads (List Entry)
listed_at place given new = listed_with place new (added given new)

-- the same, where the encodings must not pass their greatest value, nor the names their number
abbrev pub counted_at : Place → Place → List Entry → Subject → List ℕ → ℕ → Reads (List Entry)
counted_at place code_place given s code more =
    if nat_le (256 ^ length code) (big_endian code + more) then Err (code_place, BadEncoding)
    else (if nat_lt NAME_LIMIT (length given + (more + 1)) then Err (place, OverLimit Names)
    else listed_at place given (entries s code more))

-- a missing encoding is at fault at the line's first word
abbrev pub encoding_place : Field → Field → Place
encoding_place name code = if length code.atoms == 0 then name.place else code.place

-- the entries after those of a line with these fields
abbrev pub mapped : List Entry → Field → Field → Reads (List Entry)
mapped given name code = elim (subject name.atoms) [
  | None ↦ Err (name.place, BadEncoding)
  | Some s ↦ elim (more_names s) [
    | None ↦ Err (name.place, RangeBackward)
    | Some more ↦ elim (encoding code.atoms) [
      | None ↦ Err (encoding_place name code, BadEncoding)
      | Some bytes ↦ counted_at name.place code.place given s bytes more
    ]
  ]
]

unfoldable pub mapping : List Entry → Logical → Reads (List Entry)
mapping given l = fields l >>= λ f. mapped given f.0 f.1

-- the entries after those of the lines of a body
abbrev pub mappings : List Entry → List Logical → Reads (List Entry)
mappings given [] = Ok given
mappings given (l ∷ ls) = mapping given l >>= λ more. mappings more ls

-- ---- whole texts

-- the line before the body: just this word
abbrev pub opens_body : Logical → Bool
opens_body l = ends_head Charmap (first_word l.bytes) (second_word l.bytes)

-- the line after the body: just these two words
abbrev pub closes_body : Logical → Bool
closes_body l = closes_line (codes "CHARMAP") l

-- the entries of a body of so many lines, behind a line of this place
abbrev pub body_of : Place → List Logical → Option ℕ → Reads (List Entry)
body_of begin ls None = Err (begin, NoEnd)
body_of begin ls (Some n) = mappings [] (take n ls)

-- the entries of the body that begins with these lines
abbrev pub body : Place → List Logical → Reads (List Entry)
body begin ls = body_of begin ls (position closes_body ls)

-- the first word of a text, or the end of its first line
abbrev pub text_start : List ℕ → ℕ → Place
text_start text first = record { line = first; column = blanks text + 1 }

-- the charset of a text's lines, of which so many are header lines
abbrev pub charset_of : List ℕ → Place → List Logical → Option ℕ → Reads CodedSet
charset_of name begin ls None = Err (begin, NoEnd)
charset_of name begin ls (Some k) =
    headers name (take k ls) >>= λ set_name. body (start (line_at ls k)) (drop (k + 1) ls) >>= λ es. Ok (listed set_name es)

-- the charset of a text's lines, or the first fault in them; a bad head line behind them is found after a fault of theirs
abbrev pub front_charset : List ℕ → Place → List Logical → Option (Place × Reason) → Reads CodedSet
front_charset name begin ls None = charset_of name begin ls (position opens_body ls)
front_charset name begin ls (Some fault) = headers name ls >>= λ _. Err fault

-- the charset of a charmap with this name in its bundle, whose first line has this number
unfoldable pub charmap : List ℕ → List ℕ → ℕ → Reads CodedSet
charmap name text first =
    let lines = front text first Charmap in
    front_charset name (text_start text first) lines.lines lines.fault
