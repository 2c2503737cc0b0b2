-- The messages of a source (XCU gencat).
use Rattle.std.specs.Prelude.{ℕ, ◌+◌, ◌==◌, nat_lt, nat_le, List, [], ◌∷◌, length, Option, Some, None, Ok, Err, if◌then◌else◌}
use Rattle.lc_base.specs.declared.place.Place.{Place}
use Rattle.lc_base.specs.declared.reason.Reason.TheVariants.{BadMessage, OverLimit}
use Rattle.lc_base.specs.declared.reason.Limit.TheVariants.{Message, Messages}
use Rattle.lc_base.specs.Reading.{Reads, ◌>>=◌}
use Rattle.msg_catalog.specs.declared.cursor.Spot.{Spot}
use Rattle.msg_catalog.specs.declared.directive.Directive.{Directive}
use Rattle.msg_catalog.specs.declared.directive.Directive.TheVariants.{Comment, Set, DeleteSet, Quote}
use Rattle.msg_catalog.specs.declared.reader.Draft.{Draft}
use Rattle.msg_catalog.specs.Spots.{spots, lines}
use Rattle.lc_base.specs.Blanks.{is_blank}
use Rattle.msg_catalog.specs.Numbers.{number}
use Rattle.msg_catalog.specs.Directives.{directive_of}
use Rattle.msg_catalog.specs.Texts.{Said, text_of}
use Rattle.msg_catalog.specs.Books.{with_message, without_message, without_set}
use Rattle.msg_catalog.specs.declared.book.Message as books

-- what holds at the front of a source: set 1, no quote character, no message
abbrev pub at_first : Draft
at_first = record { set = 1; quote = None; texts = 0; book = [] }

-- a line that is wrong as a whole
abbrev pub bad : {A : Type 0} → Place → Reads A
bad place = Err (place, BadMessage)

-- what a directive does
abbrev pub obeyed : Draft → Directive → Draft
obeyed d Comment = d
obeyed d (Set n) = record d { set = n }
obeyed d (DeleteSet n) = record d { book = without_set n d.book }
obeyed d (Quote c) = record d { quote = c }

-- a line that begins with $, at this place
abbrev pub directed : Draft → Place → Option Directive → Reads Draft
directed d place None = bad place
directed d place (Some x) = Ok (obeyed d x)

-- a text without a wrong escape as a message with this number
abbrev pub sound : Draft → ℕ → Said → Reads Draft
sound d n t = elim t.wrong [
  | Some place ↦ bad place
  | None ↦ Ok (record d { texts = d.texts + 1; book = with_message (record { set = d.set; number = n; text = t.bytes }) d.book })
]

-- a text as a message with this number, of a line that begins at this place: at most 4096 bytes, and at most 4096 lines
abbrev pub put : Draft → Place → ℕ → Said → Reads Draft
put d place n t =
    if nat_lt 4096 (length t.bytes) then Err (place, OverLimit Message)
    else (if nat_le 4096 d.texts then Err (place, OverLimit Messages) else sound d n t)

-- what follows a message's number: nothing, by which the message goes, or a blank and the message's text
abbrev pub after_number : Draft → Place → ℕ → List Spot → Reads Draft
after_number d place n [] = Ok (record d { book = without_message d.set n d.book })
after_number d place n (s ∷ ss) = if is_blank s.byte then put d place n (text_of d.quote ss) else bad place

-- a message's number, and what follows it
abbrev pub numbered : Draft → Place → Option (ℕ × List Spot) → Reads Draft
numbered d place None = bad place
numbered d place (Some x) = after_number d place x.0 x.1

-- a line that begins with no $, at this place
abbrev pub message : Draft → Place → List Spot → Reads Draft
message d place ss = numbered d place (number 32767 ss)

-- a line
abbrev pub line_read : Draft → List Spot → Reads Draft
line_read d [] = Ok d
line_read d (s ∷ ss) = if s.byte == 36 then directed d s.place (directive_of ss) else message d s.place (s ∷ ss)

-- lines, one after another, up to the first fault
abbrev pub lines_read : Draft → List (List Spot) → Reads Draft
lines_read d [] = Ok d
lines_read d (l ∷ ls) = line_read d l >>= λ e. lines_read e ls

-- the messages of a text whose first line has this number, in order, or its first fault
unfoldable pub messages : List ℕ → ℕ → Reads (List books.Message)
messages source first_line = lines_read at_first (lines (spots first_line 1 source)) >>= λ d. Ok d.book
