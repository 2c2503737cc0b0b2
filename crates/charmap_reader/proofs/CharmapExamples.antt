-- The definitions of charmaps, tried on small examples.
use Rattle.std.proofs.Common.{◌≡◌, ℕ, List, [], ◌∷◌, ◌++◌, map, Some, None, Ok, Err, codes, refl}
use Rattle.lc_base.specs.declared.place.Place.{Place}
use Rattle.lc_base.specs.declared.reason.Reason.TheVariants.{NoEnd, BadHeader, BadEscape, OpenName, OpenString, BadEncoding, RangeBackward, NameTwice, PortableMoved}
use Rattle.lc_base.specs.Reading.{Reads}
use Rattle.src_lines.specs.Logical.{front_from, front}
use Rattle.src_lines.specs.Atoms.{items_from}
use Rattle.src_lines.specs.Tokens.{tokens, operands, separated, operand, run, text}
use Rattle.src_lines.specs.Fields.{field, fields}
use Rattle.charset.specs.Portable.{Name, portable_code}
use Rattle.charset.specs.CodedSet.{CodedSet, listed}
use Rattle.charset.specs.Numbering.{stem, digits, number, padded}
use Rattle.charmap_reader.specs.Subject.{Subject, more_names, name_at}
use Rattle.charset.specs.Entries.{Entry}
use Rattle.charmap_reader.specs.Charmap.{header, mapping, charmap}

at : ℕ → ℕ → Place
at line column = record { line = line; column = column }

-- ---- ranges of names

range : List ℕ → List ℕ → Subject
range first last = record { first = first; last = Some last }

ends : map {B = Name × List ℕ × ℕ} (λ (name : Name). (stem name, digits name, number name)) (codes "j0101" ∷ codes "e-acute" ∷ codes "12" ∷ codes "a1b" ∷ codes "" ∷ [])
    ≡ (codes "j", codes "0101", 101) ∷ (codes "e-acute", [], 0) ∷ ([], codes "12", 12) ∷ (codes "a1b", [], 0) ∷ ([], [], 0) ∷ []
ends = refl

-- as many digits as the first one, or more where needed
widths : map (name_at (range (codes "a08") (codes "a11"))) (0 ∷ 1 ∷ 2 ∷ 3 ∷ []) ≡ codes "a08" ∷ codes "a09" ∷ codes "a10" ∷ codes "a11" ∷ []
unfolding range padded
widths = refl

carries : map (name_at (range (codes "a8") (codes "a0101"))) (0 ∷ 1 ∷ 2 ∷ 92 ∷ 93 ∷ []) ≡ codes "a8" ∷ codes "a9" ∷ codes "a10" ∷ codes "a100" ∷ codes "a101" ∷ []
unfolding range padded
carries = refl

zeros : map (name_at (range (codes "a000") (codes "a001"))) (0 ∷ 1 ∷ []) ≡ codes "a000" ∷ codes "a001" ∷ []
unfolding range padded
zeros = refl

counts : map more_names (range (codes "j0101") (codes "j0104") ∷ range (codes "j1") (codes "j0004") ∷ range (codes "q7") (codes "q7") ∷ record { first = codes "q"; last = None } ∷ []) ≡ Some 3 ∷ Some 3 ∷ Some 0 ∷ Some 0 ∷ []
unfolding range
counts = refl

backward : map more_names (range (codes "q9") (codes "q2") ∷ range (codes "q1") (codes "r2") ∷ range (codes "q") (codes "q2") ∷ range (codes "q1") (codes "q") ∷ []) ≡ None ∷ None ∷ None ∷ None ∷ []
unfolding range
backward = refl

-- ---- lines of the body

-- the entries after a line, where these were given before
row : List Entry → List ℕ → Reads (List Entry)
row given bytes = mapping given (record { signs = record { escape = 92; comment = 35 }; line = 2; bytes = bytes; joins = [] })

given_range : row [] (codes "<j0101>...<j0104> \\d129\\d254 four of them")
    ≡ Ok ((codes "j0101", 129 ∷ 254 ∷ []) ∷ (codes "j0102", 129 ∷ 255 ∷ []) ∷ (codes "j0103", 130 ∷ 0 ∷ []) ∷ (codes "j0104", 130 ∷ 1 ∷ []) ∷ [])
unfolding row mapping fields field run items_from padded portable_code
given_range = refl

forms : row [] (codes "  <a\\>b>\t\\101\\x42\\d067") ≡ Ok ((codes "a>b", 65 ∷ 66 ∷ 67 ∷ []) ∷ [])
unfolding row mapping fields field run items_from padded portable_code
forms = refl

own_code : row [] (codes "<NUL> \\x00") ≡ Ok ((codes "NUL", 0 ∷ []) ∷ [])
unfolding row mapping fields field run items_from padded portable_code
own_code = refl

moved : row [] (codes "<A> \\x42") ≡ Err (at 2 1, PortableMoved)
unfolding row mapping fields field run items_from padded portable_code at
moved = refl

twice : row ((codes "A", 65 ∷ []) ∷ []) (codes "<A> \\x42") ≡ Err (at 2 1, NameTwice)
unfolding row mapping fields field run items_from padded portable_code at
twice = refl

alias : row ((codes "eacute", 233 ∷ []) ∷ []) (codes "<e-acute> \\xe9") ≡ Ok ((codes "eacute", 233 ∷ []) ∷ (codes "e-acute", 233 ∷ []) ∷ [])
unfolding row mapping fields field run items_from padded portable_code
alias = refl

-- encodings that are none: five bytes, a zero before others, past the greatest, an escaped byte, a bare one, none at all
encodings : map (row []) (codes "<q> \\x80\\x81\\x82\\x83\\x84" ∷ codes "<q> \\x00\\x80" ∷ codes "<q1>...<q3> \\xfe" ∷ codes "<q> \\x80\\q" ∷ codes "<q> 80" ∷ codes "<q>" ∷ [])
    ≡ Err (at 2 5, BadEncoding) ∷ Err (at 2 5, BadEncoding) ∷ Err (at 2 13, BadEncoding) ∷ Err (at 2 5, BadEncoding) ∷ Err (at 2 5, BadEncoding) ∷ Err (at 2 1, BadEncoding) ∷ []
unfolding row mapping fields field run items_from padded portable_code at
encodings = refl

-- first words that are neither a name nor a range
subjects : map (row []) (codes "q \\x80" ∷ codes "<q><r> \\x80" ∷ codes "<q1>..<q2> \\x80" ∷ codes "<q1>...q2 \\x80" ∷ codes " <q>;<r> \\x80" ∷ [])
    ≡ Err (at 2 1, BadEncoding) ∷ Err (at 2 1, BadEncoding) ∷ Err (at 2 1, BadEncoding) ∷ Err (at 2 1, BadEncoding) ∷ Err (at 2 2, BadEncoding) ∷ []
unfolding row mapping fields field run items_from padded portable_code at
subjects = refl

-- wrong escapes and open names come first, then ranges that run backward, then encodings
order : map (row []) (codes "<q9>...<q2> \\400" ∷ codes "<q9>...<q2> \\x80\\q\\8<r" ∷ codes "<q9>...<q2> q" ∷ codes "<q9>...<q2 \\x80" ∷ codes "<A> \\x42\\x00\\x00\\x00\\x00" ∷ [])
    ≡ Err (at 2 13, BadEscape) ∷ Err (at 2 21, OpenName) ∷ Err (at 2 1, RangeBackward) ∷ Err (at 2 8, OpenName) ∷ Err (at 2 5, BadEncoding) ∷ []
unfolding row mapping fields field run items_from padded portable_code at
order = refl

-- ---- whole texts

-- a text of lines that each end in a newline
text_of : List (List ℕ) → List ℕ
text_of [] = []
text_of (line ∷ lines) = line ++ 10 ∷ text_of lines

read : List (List ℕ) → Reads CodedSet
read lines = charmap (codes "demo") (text_of lines) 1

whole : read (codes "# a demo" ∷ codes "<mb_cur_max> 2" ∷ codes "<code_set_name> \"DEMO\"" ∷ codes "<escape_char> /" ∷ codes "CHARMAP" ∷ codes "<e-acute> /xe9" ∷ codes "END CHARMAP" ∷ codes "WIDTH" ∷ codes "<q" ∷ [])
    ≡ Ok (listed (codes "DEMO") ((codes "e-acute", 233 ∷ []) ∷ []))
unfolding read text_of charmap front front_from header tokens operands separated operand run text items_from mapping fields field padded portable_code
whole = refl

-- the name of the bundle, where no other is given; a head line in the body is a line of the body
plain : read (codes "CHARMAP" ∷ codes "END CHARMAP x" ∷ codes "END CHARMAP" ∷ []) ≡ Err (at 2 1, BadEncoding)
unfolding read text_of charmap front front_from header run items_from mapping fields field at
plain = refl

empty : read (codes "CHARMAP" ∷ codes "END CHARMAP" ∷ []) ≡ Ok (listed (codes "demo") [])
unfolding read text_of charmap front front_from header
empty = refl

-- no begin, no end
unended : map read ([] ∷ (codes "  <code_set_name> DEMO" ∷ codes "CHARMAP x" ∷ []) ∷ (codes "<code_set_name> DEMO" ∷ codes " CHARMAP" ∷ codes "<q" ∷ []) ∷ [])
    ≡ Err (at 1 1, NoEnd) ∷ Err (at 1 3, NoEnd) ∷ Err (at 2 2, NoEnd) ∷ []
unfolding read text_of charmap front front_from header tokens operands separated operand run text items_from at
unended = refl

-- header lines: unknown, a count that is none, two operands, a name among them, an open text
wrong_headers : map (λ (line : List ℕ). read (line ∷ codes "CHARMAP" ∷ [])) (codes "<width> 2" ∷ codes " <mb_cur_max> 5" ∷ codes "<mb_cur_min> 12" ∷ codes "<code_set_name> A;B" ∷ codes "<code_set_name>" ∷ codes "<code_set_name> <A>" ∷ codes "<code_set_name> \"A" ∷ [])
    ≡ Err (at 1 1, BadHeader) ∷ Err (at 1 2, BadHeader) ∷ Err (at 1 1, BadHeader) ∷ Err (at 1 1, BadHeader) ∷ Err (at 1 1, BadHeader) ∷ Err (at 1 1, BadHeader) ∷ Err (at 1 17, OpenString) ∷ []
unfolding read text_of charmap front front_from header tokens operands separated operand run text items_from at
wrong_headers = refl

-- a bad head line is found before a missing begin or end, and after the faults of earlier header lines
head_lines : map read ((codes "<mb_cur_max> 2" ∷ codes "<escape_char> ab" ∷ codes "<width> 2" ∷ []) ∷ (codes "<mb_cur_max> 2" ∷ codes "<width> 2" ∷ codes "<escape_char> ab" ∷ codes "CHARMAP" ∷ []) ∷ [])
    ≡ Err (at 2 1, BadHeader) ∷ Err (at 2 1, BadHeader) ∷ []
unfolding read text_of charmap front front_from header tokens operands separated operand run text items_from at
head_lines = refl
