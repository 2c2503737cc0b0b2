-- Findings of small sources.
use Rattle.std.proofs.Common.{◌≡◌, ℕ, List, [], ◌∷◌, ◌++◌, codes, refl}
use Rattle.src_lines.specs.Logical.{front, front_from}
use Rattle.tool_check.specs.declared.finding.Finding.{Finding}
use Rattle.tool_check.specs.declared.finding.Oddity.{Oddity}
use Rattle.tool_check.specs.declared.finding.Oddity.TheVariants.{Return, UnknownSection, NoSection}
use Rattle.tool_check.specs.Findings.{findings}

-- a text of lines that each end in a newline
abbrev text_of : List (List ℕ) → List ℕ
text_of [] = []
text_of (line ∷ lines) = line ++ 10 ∷ text_of lines

abbrev at : ℕ → ℕ → Oddity → Finding
at line column oddity = record { place = record { line = line; column = column }; oddity = oddity }

-- a section that is passed over, and one that is read
nothing : findings (text_of (codes "LC_COLLATE" ∷ codes "x" ∷ codes "END LC_COLLATE" ∷ codes "LC_TIME" ∷ codes "END LC_TIME" ∷ [])) ≡ []
unfolding front front_from
nothing = refl

-- a header that is misspelt
misspelt : findings (text_of (codes "  LC_MONETRY" ∷ codes "LC_X" ∷ codes "END LC_MONETRY" ∷ codes "LC_X y" ∷ codes "LC_" ∷ [])) ≡ at 1 3 UnknownSection ∷ []
unfolding front front_from
misspelt = refl

-- a word of a section opens none, and neither do two words
two_words : findings (text_of (codes "LC_COLLATE" ∷ codes "LC_X" ∷ codes "END LC_COLLATE" ∷ codes "LC_X y" ∷ codes "LC_" ∷ [])) ≡ at 5 1 UnknownSection ∷ []
unfolding front front_from
two_words = refl

-- a section without an end ends none of those behind it
no_end : findings (text_of (codes "LC_COLLATE" ∷ codes "LC_TIME" ∷ codes "END LC_TIME" ∷ codes "LC_Y" ∷ [])) ≡ at 4 1 UnknownSection ∷ []
unfolding front front_from
no_end = refl

-- lines that end in CR are one finding, and their sections are those of the standard
returns : findings (text_of (codes "# x" ∷ (codes "LC_TIME" ++ 13 ∷ []) ∷ (codes "END LC_TIME" ++ 13 ∷ []) ∷ [])) ≡ at 2 8 Return ∷ []
unfolding front front_from
returns = refl

comments : findings (text_of (codes "# x" ∷ codes "escape_char /" ∷ [])) ≡ at 1 1 NoSection ∷ []
unfolding front front_from
comments = refl

empty : findings [] ≡ at 1 1 NoSection ∷ []
unfolding front front_from
empty = refl

-- a wrong sign line, which its reader refuses
wrong_sign : findings (text_of (codes "escape_char" ∷ [])) ≡ []
unfolding front front_from
wrong_sign = refl

-- a stray line, which its reader refuses
stray : findings (text_of (codes "x" ∷ [])) ≡ []
unfolding front front_from
stray = refl
