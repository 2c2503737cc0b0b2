-- What is found of a locale source that its reader passes over (our own).
use Rattle.std.specs.Prelude.{ℕ, zero, suc, ◌+◌, ◌-◌, ◌^◌, ◌==◌, ◌&&◌, ◌||◌, not, min, nat_lt, Bool, List, [], ◌∷◌, ◌++◌, length, take, slice_index, position, codes, Option, Some, None, if◌then◌else◌}
use Rattle.std.specs.Str.{bytes_eq}
use Rattle.lc_base.specs.declared.place.Place.{Place}
use Rattle.lc_base.specs.declared.reason.Reason.{Reason}
use Rattle.lc_base.specs.Lines.{lines_of}
use Rattle.src_lines.specs.declared.signs.Kind.TheVariants.{Locale}
use Rattle.src_lines.specs.Words.{first_word, second_word}
use Rattle.src_lines.specs.Places.{Logical, start, closes_line}
use Rattle.src_lines.specs.Logical.{Front, ends_head, front}
use Rattle.tool_check.specs.declared.finding.Finding.{Finding}
use Rattle.tool_check.specs.declared.finding.Oddity.TheVariants.{Return, UnknownSection, NoSection}

-- a line that ends in CR
abbrev pub ends_with_return : List ℕ → Bool
ends_with_return line = nat_lt 0 (length line) && (slice_index line (length line - 1) == 13)

-- a word without the CR at its end
abbrev pub without_return : List ℕ → List ℕ
without_return word = if ends_with_return word then take (length word - 1) word else word

-- the sections that the standard has (XBD 7.3)
abbrev pub is_section_name : List ℕ → Bool
is_section_name name =
    bytes_eq name (codes "LC_CTYPE")
    || bytes_eq name (codes "LC_COLLATE")
    || bytes_eq name (codes "LC_MESSAGES")
    || bytes_eq name (codes "LC_MONETARY")
    || bytes_eq name (codes "LC_NUMERIC")
    || bytes_eq name (codes "LC_TIME")

-- a name of a section of the standard, a CR at its end left out
abbrev pub is_standard : List ℕ → Bool
is_standard name = is_section_name (without_return name)

-- the first of these lines that ends in CR, at its CR; the first one has this number
abbrev pub return_findings : ℕ → List (List ℕ) → List Finding
return_findings n [] = []
return_findings n (line ∷ lines) =
    if ends_with_return line then (record { place = record { line = n; column = min (length line) (2 ^ 32 - 1) }; oddity = Return }) ∷ []
    else return_findings (min (n + 1) (2 ^ 32 - 1)) lines

-- a line that opens a section: one word that begins with LC_
abbrev pub opens_section : Logical → Bool
opens_section l = ends_head Locale (first_word l.bytes) (second_word l.bytes)

-- how many of the lines behind a header belong to its section; none where the section has no end
abbrev pub count_to : Option ℕ → ℕ
count_to None = 0
count_to (Some n) = n + 1

abbrev pub belonging : Logical → List Logical → ℕ
belonging l ls = count_to (position (closes_line (first_word l.bytes)) ls)

-- how many of the lines behind a line belong to a section that it opens
abbrev pub behind : Logical → List Logical → ℕ
behind l ls = if opens_section l then belonging l ls else 0

-- a line that opens a section which the standard does not have
abbrev pub is_unknown : Logical → Bool
is_unknown l = opens_section l && not (is_standard (first_word l.bytes))

abbrev pub header_finding : Logical → Finding
header_finding l = record { place = start l; oddity = UnknownSection }

-- the first header that is none of the standard, of lines of which so many belong to the section before
abbrev pub unknown_findings : ℕ → List Logical → List Finding
unknown_findings skip [] = []
unknown_findings (suc skip) (l ∷ ls) = unknown_findings skip ls
unknown_findings zero (l ∷ ls) = if is_unknown l then header_finding l ∷ [] else unknown_findings (behind l ls) ls

-- that there is no section, where no line is left and none is wrong
abbrev pub lone_findings : List Logical → Option (Place × Reason) → List Finding
lone_findings [] None = (record { place = record { line = 1; column = 1 }; oddity = NoSection }) ∷ []
lone_findings [] (Some fault) = []
lone_findings (l ∷ ls) fault = []

-- what is found of logical lines
abbrev pub front_findings : Front → List Finding
front_findings f = unknown_findings 0 f.lines ++ lone_findings f.lines f.fault

-- what is found of a source: its first line that ends in CR, its first section that the standard does not have, and that it
-- has no section
abbrev pub findings : List ℕ → List Finding
findings text = if nat_lt (length text) 2147483648 then return_findings 1 (lines_of text) ++ front_findings (front text 1 Locale) else []
