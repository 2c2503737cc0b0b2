-- Where and why a library is not made, as C is told it (our own).
use Rattle.std.specs.Prelude.{◌≡◌, ℕ, ◌+◌, ◌-◌, zero, suc, min, List, [], ◌++◌, length, drop, position, slice_get, codes, Option, Some, option_map, unwrap_or, Ok, Err}
use Rattle.lc_base.specs.declared.place.Place.{Place}
use Rattle.lc_base.specs.declared.reason.Reason.{Reason}
use Rattle.lc_base.specs.Lines.{is_newline}
use Rattle.lc_base.specs.Reading.{Reads}
use Rattle.reason_rules.specs.Words.{reason_text}
use Rattle.reason_rules.specs.Rows.{row_of}
use Rattle.reason_rules.specs.Table.{rule_at}
use Rattle.library_parts.specs.declared.part.LibraryPart.{LibraryPart}
use Rattle.library_parts.specs.declared.fault.Wrong.{Wrong}
use Rattle.library_parts.specs.declared.fault.Wrong.TheVariants.{TooLong, BadName, NameTwice, TooMany, NoCharmap, Text}
use Rattle.library_parts.specs.Told.{Tells}
use Rattle.shared_objects.specs.Shared.{MarkedLibraryData}
use Rattle.c_values.specs.declared.answer.LobjAnswer.{LobjAnswer}
use Rattle.c_values.specs.Codes.{OK, TOO_LONG, BAD_TEXT, TOO_MANY, BAD_NAME, NAME_TWICE, NO_CHARMAP}
use Rattle.c_values.specs.declared.fault.LobjFault.{LobjFault}
use Rattle.c_values.specs.Answers.{answered, told}

-- ---- lines of a text

-- how many bytes the first line has, without its newline
abbrev pub line_length : List ℕ → ℕ
line_length text = unwrap_or (position is_newline text) (length text)

-- what stands behind the first line and its newline
abbrev pub behind_line : List ℕ → List ℕ
behind_line text = drop (min (line_length text + 1) (length text)) text

-- what stands behind so many lines
abbrev pub behind_lines : ℕ → List ℕ → List ℕ
behind_lines zero text = text
behind_lines (suc n) text = behind_lines n (behind_line text)

-- ---- faults

-- the fault of a part's text at a place: the number of the reason, and where the line stands
abbrev pub text_fault : ℕ → List ℕ → Place → Reason → LobjFault
text_fault part text place reason = record {
  part = part;
  line = place.line;
  column = place.column;
  reason = row_of reason;
  start = length text - length (behind_lines (place.line - 1) text);
  length = line_length (behind_lines (place.line - 1) text);
}

-- the fault of a part whose text is not at fault
abbrev pub part_fault : ℕ → LobjFault
part_fault part = record { part = part; line = 0; column = 0; reason = 0; start = 0; length = 0 }

-- ---- what is told

-- a reason with its rule
abbrev pub message_of : Reason → List ℕ → List ℕ
message_of reason rule = reason_text reason ++ codes ": " ++ rule

-- the answer to a text that is refused, where its message was put so: the length of the message, or the size that it needs
abbrev pub as_refusal : LobjAnswer → LobjAnswer
as_refusal put = answered BAD_TEXT put.n

-- what is answered where a message has room or not, and the buffer
abbrev pub message_told : List ℕ → List ℕ → LobjAnswer × List ℕ
message_told buffer message = let put = told buffer message in (as_refusal put.0, put.1)

-- a text is refused for a reason: of the answer and the buffer before and after, the message is the reason with its rule
abbrev pub IsRefused : Reason → LobjAnswer → List ℕ → List ℕ → Type 0
IsRefused reason a old new = (a, new) ≡ message_told old (message_of reason (rule_at (row_of reason)))

-- the fault of a part's text is told: of the answer, the fault after, and the buffer before and after
abbrev pub IsTextTold : ℕ → List ℕ → Place → Reason → LobjAnswer → LobjFault → List ℕ → List ℕ → Type 0
IsTextTold part text place reason a fault' old new = IsRefused reason a old new × (fault' ≡ text_fault part text place reason)

-- the text of the part with a number
abbrev pub part_text : List LibraryPart → ℕ → List ℕ
part_text parts n = unwrap_or (option_map (λ (p : LibraryPart). p.text) (slice_get parts n)) []

-- the code of what is wrong with a part
abbrev pub wrong_code : Wrong → ℕ
wrong_code TooLong = TOO_LONG
wrong_code BadName = BAD_NAME
wrong_code NameTwice = NAME_TWICE
wrong_code TooMany = TOO_MANY
wrong_code NoCharmap = NO_CHARMAP
wrong_code (Text place reason) = BAD_TEXT

-- a part that is wrong, but for its text: its number and the code are told, and the buffer stays
abbrev pub IsPartTold : ℕ → Wrong → LobjAnswer → LobjFault → List ℕ → List ℕ → Type 0
IsPartTold n wrong a fault' old new = (a ≡ answered (wrong_code wrong) 0) × (fault' ≡ part_fault n) × (new ≡ old)

-- what is wrong with the part that has a number is told
abbrev pub IsWrongTold : List LibraryPart → ℕ → Wrong → LobjAnswer → LobjFault → List ℕ → List ℕ → Type 0
IsWrongTold parts n (Text place reason) a fault' old new = IsTextTold n (part_text parts n) place reason a fault' old new
IsWrongTold parts n TooLong a fault' old new = IsPartTold n TooLong a fault' old new
IsWrongTold parts n BadName a fault' old new = IsPartTold n BadName a fault' old new
IsWrongTold parts n NameTwice a fault' old new = IsPartTold n NameTwice a fault' old new
IsWrongTold parts n TooMany a fault' old new = IsPartTold n TooMany a fault' old new
IsWrongTold parts n NoCharmap a fault' old new = IsPartTold n NoCharmap a fault' old new

-- a library is put behind a pointer, and all else stays: of the answer, what is behind the pointer after, and the fault and the buffer before and after
abbrev pub IsStocked : MarkedLibraryData → LobjAnswer → Option MarkedLibraryData → LobjFault → LobjFault → List ℕ → List ℕ → Type 0
IsStocked marked a held' fault fault' old new = (a ≡ answered OK 0) × (held' ≡ Some marked) × (fault' ≡ fault) × (new ≡ old)

-- what a text gives, or its refusal, which leaves what is behind the pointer
abbrev pub IsRead : List ℕ → Reads MarkedLibraryData → LobjAnswer → Option MarkedLibraryData → Option MarkedLibraryData → LobjFault → LobjFault → List ℕ → List ℕ → Type 0
IsRead text (Ok marked) a held held' fault fault' old new = IsStocked marked a held' fault fault' old new
IsRead text (Err at) a held held' fault fault' old new = IsTextTold 0 text at.0 at.1 a fault' old new × (held' ≡ held)

-- what parts make, or the first that is wrong
abbrev pub IsBuilt : List LibraryPart → Tells MarkedLibraryData → LobjAnswer → Option MarkedLibraryData → Option MarkedLibraryData → LobjFault → LobjFault → List ℕ → List ℕ → Type 0
IsBuilt parts (Ok marked) a held held' fault fault' old new = IsStocked marked a held' fault fault' old new
IsBuilt parts (Err at) a held held' fault fault' old new = IsWrongTold parts at.0 at.1 a fault' old new × (held' ≡ held)
