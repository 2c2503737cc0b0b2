-- The definitions of looks and of faults in order, tried on small examples.
use Rattle.std.proofs.Common.{◌≡◌, ℕ, true, false, List, [], ◌∷◌, ◌++◌, Some, codes, refl}
use Rattle.lc_base.specs.declared.reason.Reason.TheVariants.{EmptyRadix}
use Rattle.lc_base.specs.declared.category.Category.TheVariants.{Numeric, Time}
use Rattle.tool_check.specs.declared.looks.Look.TheVariants.{Outside, Section}
use Rattle.tool_check.specs.Looks.{text_alone, is_sign_line}
use Rattle.tool_check.specs.Texts.{is_charmap}
use Rattle.tool_check.specs.declared.fault.Fault.{Fault}
use Rattle.tool_check.specs.Found.{with_fault, are_ordered}

-- a text of lines that each end in a newline
abbrev text_of : List (List ℕ) → List ℕ
text_of [] = []
text_of (line ∷ lines) = line ++ 10 ∷ text_of lines

-- a stray line, a sign line, two sections, a line between them, and a section that is passed over
abbrev two : List ℕ
two = text_of (codes "stray" ∷ codes "escape_char /" ∷ codes "LC_TIME" ∷ codes "d_fmt x" ∷ codes "END LC_TIME" ∷ codes "comment_char %" ∷ codes " LC_NUMERIC" ∷ codes "LC_TIME"
    ∷ codes "END LC_NUMERIC" ∷ codes "LC_PAPER" ∷ codes "height 1" ∷ codes "END LC_PAPER" ∷ [])

-- the sign line before the sections, and the first section
time_alone :
    text_alone (Section Time) two
    ≡ text_of ([] ∷ codes "escape_char /" ∷ codes "LC_TIME" ∷ codes "d_fmt x" ∷ codes "END LC_TIME" ∷ [] ∷ [] ∷ [] ∷ [] ∷ [] ∷ [] ∷ [] ∷ [])
time_alone = refl

-- what begins in a section is a line of it
numeric_alone : text_alone (Section Numeric) two
    ≡ text_of ([] ∷ codes "escape_char /" ∷ [] ∷ [] ∷ [] ∷ [] ∷ codes " LC_NUMERIC" ∷ codes "LC_TIME" ∷ codes "END LC_NUMERIC" ∷ [] ∷ [] ∷ [] ∷ [])
numeric_alone = refl

outside_alone : text_alone Outside two
    ≡ text_of (codes "stray" ∷ codes "escape_char /" ∷ codes "LC_TIME" ∷ [] ∷ codes "END LC_TIME" ∷ codes "comment_char %" ∷ codes " LC_NUMERIC" ∷ [] ∷ codes "END LC_NUMERIC" ∷ codes "LC_PAPER" ∷ []
    ∷ codes "END LC_PAPER" ∷ [])
outside_alone = refl

-- a header behind a byte order mark
marked_alone : text_alone (Section Time) (239 ∷ 187 ∷ 191 ∷ text_of (codes "LC_TIME" ∷ codes "END LC_TIME" ∷ [])) ≡ text_of (codes "LC_TIME" ∷ codes "END LC_TIME" ∷ [])
marked_alone = refl

one_sign : is_sign_line (codes " comment_char  % ") ≡ true
one_sign = refl

two_signs : is_sign_line (codes "comment_char %?") ≡ false
two_signs = refl

no_sign : is_sign_line (codes "escape_chars /") ≡ false
no_sign = refl

charmap_among_blanks : is_charmap (text_of (codes "<code_set_name> X" ∷ codes " CHARMAP " ∷ [])) ≡ true
charmap_among_blanks = refl

charmap_with_return : is_charmap (codes "CHARMAP" ++ 13 ∷ 10 ∷ []) ≡ true
charmap_with_return = refl

no_charmap : is_charmap (text_of (codes "END CHARMAP" ∷ codes "CHARMAPS" ∷ codes "charmap" ∷ [])) ≡ false
no_charmap = refl

abbrev at : ℕ → ℕ → Fault
at line column = record { place = record { line = line; column = column }; reason = EmptyRadix }

earlier_line : with_fault (at 3 1 ∷ at 9 1 ∷ []) (Some (at 4 7)) ≡ at 3 1 ∷ at 4 7 ∷ at 9 1 ∷ []
earlier_line = refl

last_line : with_fault (at 3 1 ∷ []) (Some (at 4 1)) ≡ at 3 1 ∷ at 4 1 ∷ []
last_line = refl

same_line : with_fault (at 3 1 ∷ []) (Some (at 3 7)) ≡ at 3 1 ∷ []
same_line = refl

ordered : are_ordered (at 3 1 ∷ at 4 1 ∷ []) ≡ true
ordered = refl

not_ordered : are_ordered (at 3 1 ∷ at 4 1 ∷ at 2 5 ∷ []) ≡ false
not_ordered = refl
