-- The lines of a section (XBD 7.3).
use Rattle.std.specs.Prelude.{Bool, true, false, ◌&&◌, not, List, [], ◌∷◌, Option, Some, None, Ok, Err, if◌then◌else◌}
use Rattle.std.specs.List.{list_any}
use Rattle.std.specs.Option.{option_or}
use Rattle.lc_base.specs.declared.category.Category.{Category}
use Rattle.lc_base.specs.declared.reason.Reason.TheVariants.{UnknownKeyword, KeywordTwice, CopyNotAlone}
use Rattle.lc_base.specs.Reading.{Reads, ◌>>=◌}
use Rattle.src_lines.specs.declared.line.Line.{Line}
use Rattle.src_lines.specs.Words.{first_word}
use Rattle.src_lines.specs.Places.{Logical}
use Rattle.src_lines.specs.Tokens.{tokens}
use Rattle.charset.specs.Portable.{Name}
use Rattle.charset.specs.CodedSet.{CodedSet}
use Rattle.keywords.specs.declared.source.Body.{Body}
use Rattle.keywords.specs.declared.row.Operands.{Operands}
use Rattle.keywords.specs.declared.row.Operands.TheVariants.{Copied, Characters, One, Several, PassedOver}
use Rattle.keywords.specs.LookUp.{takes_of}
use Rattle.locale_reader.specs.Opened.{Opened, nothing, is_copy, is_charclass, is_given, is_begun, is_declared, with_entry, body_of}
use Rattle.locale_reader.specs.Values.{word, element, one, several, members}

-- what a keyword takes: that of the table, or for a declared class characters
abbrev pub operands_of : Category → Opened → Name → Option Operands
operands_of category s name = option_or (takes_of category name) (if is_declared s name then Some Characters else None)

-- what a line adds whose keyword takes these operands
unfoldable pub taken : CodedSet → Opened → Line → Operands → Reads Opened
taken set s line Copied = one (word set) line.place line.operands >>= λ name. Ok (record s { copy = Some name })
taken set s line Characters = members set line.operands >>= λ vs. Ok (with_entry s line vs)
taken set s line (One e) = one (element set e) line.place line.operands >>= λ v. Ok (with_entry s line (v ∷ []))
taken set s line (Several e) = several set e line.operands >>= λ vs. Ok (with_entry s line vs)
taken set s line PassedOver = Ok s

-- a line, if its keyword is known, was not given before and does not stand beside `copy`
unfoldable pub allowed : CodedSet → Bool → Opened → Option Operands → Line → Reads Opened
allowed set copies s None line = Err (line.place, UnknownKeyword)
allowed set copies s (Some operands) line =
    if is_given s line.keyword && not (is_charclass line.keyword) then Err (line.place, KeywordTwice)
    else (if copies && is_begun s then Err (line.place, CopyNotAlone)
    else taken set s line operands)

-- whether a line is not read
abbrev pub is_passed_over : Option Operands → Bool
is_passed_over None = false
is_passed_over (Some Copied) = false
is_passed_over (Some Characters) = false
is_passed_over (Some (One e)) = false
is_passed_over (Some (Several e)) = false
is_passed_over (Some PassedOver) = true

-- what was given after one more line
unfoldable pub keyword_line : Category → CodedSet → Bool → Opened → Logical → Reads Opened
keyword_line category set copies s l =
    let operands = operands_of category s (first_word l.bytes) in
    if is_passed_over operands then Ok s else (tokens l >>= allowed set copies s operands)

abbrev pub keyword_lines : Category → CodedSet → Bool → Opened → List Logical → Reads Opened
keyword_lines category set copies s [] = Ok s
keyword_lines category set copies s (l ∷ ls) = keyword_line category set copies s l >>= λ more. keyword_lines category set copies more ls

-- whether a line copies another locale's category
abbrev pub copies_category : Logical → Bool
copies_category l = is_copy (first_word l.bytes)

-- what a section with these lines says. Where one of them copies, it is the only one: the second line of such a section is
-- at fault
unfoldable pub body : Category → CodedSet → List Logical → Reads Body
body category set ls = keyword_lines category set (list_any copies_category ls) nothing ls >>= λ s. Ok (body_of s)
