-- The logical lines of a text (XBD 7.3): lines are cut at LF and joined, comments, blank lines and head lines are taken out.
use Rattle.std.specs.Prelude.{ℕ, ◌+◌, ◌-◌, Bool, true, false, ◌||◌, ◌&&◌, not, ◌==◌, nat_lt, nat_le, List, [], ◌∷◌, length, take, slice_index, Option, Some, None, Ok, Err, if◌then◌else◌}
use Rattle.std.specs.Str.{bytes_eq}
use Rattle.std.specs.Prelude.{codes, nat_eq}
use Rattle.std.specs.List.{starts_with}
use Rattle.lc_base.specs.declared.place.Place.{Place}
use Rattle.lc_base.specs.declared.reason.Reason.{Reason}
use Rattle.lc_base.specs.declared.reason.Reason.TheVariants.{WrongOperand, BadHeader}
use Rattle.lc_base.specs.Lines.{lines_of, ended}
use Rattle.lc_base.specs.Reading.{Reads, ◌>>=◌}
use Rattle.src_lines.specs.declared.signs.Kind.{Kind}
use Rattle.src_lines.specs.declared.signs.Kind.TheVariants.{Locale, Charmap}
use Rattle.src_lines.specs.declared.head.Fate.{Fate}
use Rattle.src_lines.specs.Words.{next_word, blanks}
use Rattle.src_lines.specs.Places.{Logical, fresh, extended, continued, place_at}

-- whether a line's last byte is the escape character, so that the next line is joined to it
abbrev pub takes_next : ℕ → List ℕ → Bool
takes_next escape l = nat_lt 0 (length l) && (slice_index l (length l - 1) == escape)

-- a comment or a line of blanks
abbrev pub is_dropped : ℕ → List ℕ → Bool
is_dropped comment bs = (nat_lt 0 (length bs) && (slice_index bs 0 == comment)) || (blanks bs == length bs)

-- the words that begin head lines
abbrev pub escape_word : Kind → List ℕ
escape_word Locale = codes "escape_char"
escape_word Charmap = codes "<escape_char>"

abbrev pub comment_word : Kind → List ℕ
comment_word Locale = codes "comment_char"
comment_word Charmap = codes "<comment_char>"

-- a sign is one byte from 0x21 to 0x7E
abbrev pub sign_of : List ℕ → Option ℕ
sign_of [] = None
sign_of (b ∷ []) = if nat_le 33 b && nat_le b 126 then Some b else None
sign_of (b ∷ c ∷ bs) = None

-- a head line's fault: at its own byte in a locale source, at the line's first word in a charmap
abbrev pub bad_head : {A : Type 0} → Kind → Logical → ℕ → Reads A
bad_head Locale l k = Err (place_at l k, WrongOperand)
bad_head Charmap l k = Err (place_at l (blanks l.bytes), BadHeader)

-- the sign that a head line gives: its second word, which is not the other sign, and no third word
abbrev pub head_sign : Kind → Logical → ℕ → Reads ℕ
head_sign kind l other =
    let first = next_word l.bytes in
    let second = next_word first.rest in
    let third = next_word second.rest in
    let second_at = first.skipped + length first.text + second.skipped in
    let third_at = second_at + length second.text + third.skipped in
    if length second.text == 0 then bad_head kind l first.skipped
    else (elim (sign_of second.text) [
      | None ↦ bad_head kind l second_at
      | Some sign ↦ if sign == other then bad_head kind l second_at
          else (if length third.text == 0 then Ok sign else bad_head kind l third_at)
    ])

-- whether the head lines end here: at the first section of a locale source, at the line CHARMAP of a charmap
abbrev pub ends_head : Kind → List ℕ → List ℕ → Bool
ends_head Locale first second = starts_with nat_eq first (codes "LC_") && (length second == 0)
ends_head Charmap first second = bytes_eq first (codes "CHARMAP") && (length second == 0)

-- what becomes of a line: dropped, taken as a head line with new signs, or kept
abbrev pub fate : Kind → Bool → Logical → Reads Fate
fate kind heads l =
    let first = next_word l.bytes in
    if is_dropped l.signs.comment l.bytes then Ok (record { signs = l.signs; heads = heads; kept = false })
    else (if heads && bytes_eq first.text (escape_word kind) then (do
      sign ← head_sign kind l l.signs.comment
      Ok (record { signs = record { escape = sign; comment = l.signs.comment }; heads = true; kept = false }))
    else (if heads && bytes_eq first.text (comment_word kind) then (do
      sign ← head_sign kind l l.signs.escape
      Ok (record { signs = record { escape = l.signs.escape; comment = sign }; heads = true; kept = false }))
    else Ok (record { signs = l.signs; heads = heads && not (ends_head kind first.text (next_word first.rest).text); kept = true })))

-- the logical lines of a text up to its first bad head line, and that line's fault, if there is one
pub record Front : Type 0 where
  pub lines : List Logical
  pub fault : Option (Place × Reason)

-- no line and no fault
abbrev pub nothing_more : Front
nothing_more = record { lines = []; fault = None }

-- a line before others, where it is kept
abbrev pub before : Fate → Logical → Front → Front
before f l later = record { lines = (if f.kept then l ∷ later.lines else later.lines); fault = later.fault }

-- a whole line with this fate, and what follows it; after a fault nothing follows
abbrev pub after_fate : Logical → (Fate → Front) → Reads Fate → Front
after_fate l later (Ok f) = before f l (later f)
after_fate l later (Err fault) = record { lines = []; fault = Some fault }

-- the logical lines from a line of the text on, which has this number: l is what was joined before it
unfoldable pub front_from : Kind → Bool → Logical → ℕ → List (List ℕ) → Front
front_from kind heads l n [] = nothing_more
front_from kind heads l n (p ∷ []) = after_fate (extended l p) (λ f. nothing_more) (fate kind heads (extended l p))
front_from kind heads l n (p ∷ q ∷ ps) =
    if takes_next l.signs.escape p then front_from kind heads (continued (extended l (take (length p - 1) p)) (n + 1)) (n + 1) (q ∷ ps)
    else after_fate (extended l p) (λ f. front_from kind f.heads (fresh f.signs (n + 1)) (n + 1) (q ∷ ps)) (fate kind heads (extended l p))

-- the lines of a text whose first line has this number; the signs are \ and # at first. What follows the last LF is a
-- line, too, perhaps empty: the lines are those of the text with one more LF
unfoldable pub front : List ℕ → ℕ → Kind → Front
front text first kind = front_from kind true (fresh (record { escape = 92; comment = 35 }) first) first (lines_of (ended text))

-- lines, if there is no fault
abbrev pub unless_fault : List Logical → Option (Place × Reason) → Reads (List Logical)
unless_fault ls None = Ok ls
unless_fault ls (Some fault) = Err fault

-- the lines of a text, if its head lines have no fault
abbrev pub whole : Front → Reads (List Logical)
whole f = unless_fault f.lines f.fault

-- the logical lines of a text whose first line has this number, or the fault of its first bad head line
unfoldable pub logical : List ℕ → ℕ → Kind → Reads (List Logical)
logical text first kind = whole (front text first kind)
