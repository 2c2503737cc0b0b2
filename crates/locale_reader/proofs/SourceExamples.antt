-- The definitions of locale sources, tried on small examples.
use Rattle.std.proofs.Common.{◌≡◌, ℕ, List, [], ◌∷◌, ◌++◌, map, Ok, Err, codes, refl}
use Rattle.std.specs.Prelude.{pos, negsuc}
use Rattle.std.specs.Char.{encode_utf8}
use Rattle.std.specs.Str.{chars}
use Rattle.lc_base.specs.Numbers.{few_digits}
use Rattle.lc_base.specs.declared.place.Place.{Place}
use Rattle.lc_base.specs.declared.category.Category.TheVariants.{Numeric, Messages}
use Rattle.lc_base.specs.declared.reason.Reason.{Reason}
use Rattle.lc_base.specs.declared.reason.Reason.TheVariants.{NoEnd, WrongOperand, OpenString, SectionTwice, UnknownKeyword, KeywordTwice, CopyNotAlone, UnknownCharacter}
use Rattle.lc_base.specs.Reading.{Reads}
use Rattle.src_lines.specs.Logical.{front_from, front}
use Rattle.src_lines.specs.Atoms.{items_from}
use Rattle.src_lines.specs.Tokens.{tokens, operands, separated, operand, run, text}
use Rattle.charset.specs.Portable.{portable_code}
use Rattle.charset.specs.Hex.{numbered}
use Rattle.charset.specs.CodedSet.{CodedSet, utf8, posix, listed, valued}
use Rattle.keywords.specs.declared.source.Value.{Value}
use Rattle.keywords.specs.declared.source.Value.TheVariants.{Text, Number, Chars, Pair}
use Rattle.keywords.specs.declared.source.Body.TheVariants.{Copy, Entries}
use Rattle.keywords.specs.declared.source.LocaleSource.{LocaleSource}
use Rattle.locale_reader.specs.Values.{character, one_character, case_pair, quote, word, number, element}
use Rattle.locale_reader.specs.Section.{taken, allowed, keyword_line, body}
use Rattle.locale_reader.specs.Source.{with_section, section_from, outside, source}

at : ℕ → ℕ → Place
at line column = record { line = line; column = column }

-- a text of lines that each end in a newline
text_of : List (List ℕ) → List ℕ
text_of [] = []
text_of (line ∷ lines) = line ++ 10 ∷ text_of lines

-- a charset with the byte 233, which has a name of its own
latin : CodedSet
latin = listed (codes "LATIN") ((codes "e-acute", 233 ∷ []) ∷ [])

read : CodedSet → List (List ℕ) → Reads LocaleSource
read set lines = source (text_of lines) 1 set

-- the values of the one line of a section with these lines in all
values : Reads LocaleSource → List (Place × Value)
values (Err e) = []
values (Ok s) = elim s.sections [
  | [] ↦ []
  | section ∷ later ↦ elim section.body [
    | Copy place name ↦ []
    | Entries es ↦ elim es [
      | [] ↦ []
      | e ∷ es ↦ e.values
    ]
  ]
]

class : CodedSet → List ℕ → List (Place × Value)
class set line = values (read set (codes "LC_CTYPE" ∷ line ∷ codes "END LC_CTYPE" ∷ []))

-- every kind of line in other signs, a section that is passed over, a keyword that is, and a copy
whole : read latin
    (codes "escape_char /" ∷ codes "comment_char %" ∷ codes "% a comment" ∷ codes "LC_COLLATE" ∷ codes "LC_CTYPE" ∷ codes "END LC_COLLATE" ∷
    codes "LC_MESSAGES" ∷ codes "yesstr not \"read" ∷ codes "yesexpr \"<e-acute>/x41\"" ∷ codes "END LC_MESSAGES" ∷ codes "LC_NUMERIC" ∷ codes "copy <A>b" ∷ codes "END LC_NUMERIC" ∷ [])
    ≡ Ok (record {
      sections =
          record { category = Messages; place = at 7 1; body = Entries (record { place = at 9 1; keyword = codes "yesexpr"; values = (at 9 9, Text (233 ∷ 65 ∷ [])) ∷ [] } ∷ []) } ∷
          record { category = Numeric; place = at 11 1; body = Copy (at 12 6) (codes "Ab") } ∷ [];
    })
unfolding read text_of latin at source front front_from outside section_from with_section body keyword_line allowed taken tokens operands separated operand run text items_from element quote word portable_code
whole = refl

-- a range is one value, with the place of its first character
ranges : class utf8 (codes "upper A;...;Z;<a>;<U20AC>;\\x42;\\;") ≡ (at 2 7, Chars 65 90) ∷ (at 2 15, Chars 97 97) ∷ (at 2 19, Chars 0x20AC 0x20AC) ∷ (at 2 27, Chars 66 66) ∷ (at 2 32, Chars 59 59) ∷ []
unfolding class values read text_of at source front front_from outside section_from with_section body keyword_line allowed taken tokens operands separated operand run text items_from one_character character portable_code numbered valued chars encode_utf8
ranges = refl

-- one sequence is one character, and so are the bytes of a charmap's encoding
sequences : class utf8 (codes "punct " ++ 226 ∷ 130 ∷ 172 ∷ []) ∷ class latin (codes "punct " ++ 233 ∷ []) ∷ class latin (codes "punct (") ∷ []
    ≡ ((at 2 7, Chars 0x20AC 0x20AC) ∷ []) ∷ ((at 2 7, Chars 233 233) ∷ []) ∷ ((at 2 7, Chars 40 40) ∷ []) ∷ []
unfolding class values latin read text_of at source front front_from outside section_from with_section body keyword_line allowed taken tokens operands separated operand run text items_from one_character character portable_code valued chars encode_utf8
sequences = refl

pairs : class posix (codes "toupper (a,A);(\\d98,<B>)") ≡ (at 2 9, Pair 97 65) ∷ (at 2 15, Pair 98 66) ∷ []
unfolding class values read text_of at source front front_from outside section_from with_section body keyword_line allowed taken tokens operands separated operand run text items_from element case_pair character portable_code valued
pairs = refl

-- a list may be empty
empty : class posix (codes "upper") ≡ []
unfolding class values read text_of at source front front_from outside section_from with_section body keyword_line allowed taken tokens operands separated operand run text items_from
empty = refl

-- a number may have a sign and leading zeros
numbers : map (λ (line : List ℕ). values (read posix (codes "LC_NUMERIC" ∷ line ∷ codes "END LC_NUMERIC" ∷ []))) (codes "grouping 3;-1;\\d0492;-0" ∷ codes "grouping 123456789" ∷ [])
    ≡ ((at 2 10, Number (pos 3)) ∷ (at 2 12, Number (negsuc 0)) ∷ (at 2 15, Number (pos 12)) ∷ (at 2 22, Number (pos 0)) ∷ []) ∷ ((at 2 10, Number (pos 123456789)) ∷ []) ∷ []
unfolding values read text_of at source front front_from outside section_from with_section body keyword_line allowed taken tokens operands separated operand run text items_from element number few_digits
numbers = refl

-- ---- faults

fault : CodedSet → List (List ℕ) → List (Place × Reason)
fault set lines = elim (read set lines) [
  | Ok s ↦ []
  | Err e ↦ e ∷ []
]

-- what is wrong with a line of LC_CTYPE
class_fault : List ℕ → List (Place × Reason)
class_fault line = fault posix (codes "LC_CTYPE" ∷ line ∷ codes "END LC_CTYPE" ∷ [])

-- characters that are none: empty, a name beside another piece, in quotes, a pair; and those that the charset lacks
characters : map class_fault (codes "upper A;;B" ∷ codes "upper A;<B>C" ∷ codes "upper A;\"B\"" ∷ codes "upper (A,B)" ∷ codes "upper A;AB" ∷ codes "upper \\x80" ∷ codes "upper A;<no>" ∷ codes "tolower (A,)" ∷ codes "tolower (A,<no>)" ∷ codes "tolower A" ∷ [])
    ≡ ((at 2 9, WrongOperand) ∷ []) ∷ ((at 2 9, WrongOperand) ∷ []) ∷ ((at 2 9, WrongOperand) ∷ []) ∷ ((at 2 7, WrongOperand) ∷ []) ∷ ((at 2 9, UnknownCharacter) ∷ []) ∷ ((at 2 7, UnknownCharacter) ∷ []) ∷ ((at 2 9, UnknownCharacter) ∷ []) ∷ ((at 2 9, WrongOperand) ∷ []) ∷ ((at 2 9, UnknownCharacter) ∷ []) ∷ ((at 2 9, WrongOperand) ∷ []) ∷ []
unfolding class_fault fault read text_of at source front front_from outside section_from with_section body keyword_line allowed taken tokens operands separated operand run text items_from element case_pair one_character character portable_code numbered valued
characters = refl

-- dots: first, last, after a range, twice, before a wrong character, backward
dots : map class_fault (codes "upper ...;B" ∷ codes "upper A;..." ∷ codes "upper A;...;C;...;D" ∷ codes "upper A;...;...;D" ∷ codes "upper A;...;AB" ∷ codes "upper B;...;A" ∷ [])
    ≡ ((at 2 7, WrongOperand) ∷ []) ∷ ((at 2 9, WrongOperand) ∷ []) ∷ ((at 2 15, WrongOperand) ∷ []) ∷ ((at 2 9, WrongOperand) ∷ []) ∷ ((at 2 13, UnknownCharacter) ∷ []) ∷ ((at 2 9, WrongOperand) ∷ []) ∷ []
unfolding class_fault fault read text_of at source front front_from outside section_from with_section body keyword_line allowed taken tokens operands separated operand run text items_from one_character character portable_code numbered valued
dots = refl

-- what is wrong with the lines of LC_CTYPE
section_fault : List (List ℕ) → List (Place × Reason)
section_fault lines = fault posix (codes "LC_CTYPE" ∷ lines ++ codes "END LC_CTYPE" ∷ [])

-- token faults, then the keyword, then the operands; a declared class is a keyword
keyword_faults : map section_fault ((codes "uper \"A" ∷ []) ∷ (codes "uper A;" ∷ []) ∷ (codes "upper A" ∷ codes "upper \"" ∷ []) ∷ (codes "upper A" ∷ codes "upper ;" ∷ []) ∷ (codes "vowel A" ∷ codes "charclass vowel" ∷ []) ∷ (codes "charclass vowel" ∷ codes "charclass \"vowel\"" ∷ codes "vowel A" ∷ codes "vowel E" ∷ []) ∷ [])
    ≡ ((at 2 6, OpenString) ∷ []) ∷ ((at 2 1, UnknownKeyword) ∷ []) ∷ ((at 3 7, OpenString) ∷ []) ∷ ((at 3 1, KeywordTwice) ∷ []) ∷ ((at 2 1, UnknownKeyword) ∷ []) ∷ ((at 5 1, KeywordTwice) ∷ []) ∷ []
unfolding section_fault fault read text_of at source front front_from outside section_from with_section body keyword_line allowed taken tokens operands separated operand run text items_from element word one_character character portable_code valued
keyword_faults = refl

-- the second line of a section that copies; also where a class has the name
copies : map section_fault ((codes "copy a" ∷ codes "upper A" ∷ []) ∷ (codes "upper A" ∷ codes "copy a" ∷ []) ∷ (codes "upper A" ∷ codes "lower a" ∷ codes "copy a" ∷ []) ∷ (codes "copy a" ∷ codes "copy b" ∷ []) ∷ (codes "charclass copy" ∷ codes "copy A;B" ∷ []) ∷ (codes "copy a;b" ∷ []) ∷ (codes "copy" ∷ []) ∷ [])
    ≡ ((at 3 1, CopyNotAlone) ∷ []) ∷ ((at 3 1, CopyNotAlone) ∷ []) ∷ ((at 3 1, CopyNotAlone) ∷ []) ∷ ((at 3 1, KeywordTwice) ∷ []) ∷ ((at 3 1, CopyNotAlone) ∷ []) ∷ ((at 2 8, WrongOperand) ∷ []) ∷ ((at 2 1, WrongOperand) ∷ []) ∷ []
unfolding section_fault fault read text_of at source front front_from outside section_from with_section body keyword_line allowed taken tokens operands separated operand run text items_from element word one_character character portable_code valued
copies = refl

-- sections: no end, twice, the end of another one, a line outside, and a bad head line behind it
sections : map (fault posix) ((codes "LC_CTYPE" ∷ codes "upper ;" ∷ codes "END LC_CTYPE x" ∷ []) ∷ (codes "LC_X" ∷ codes "END" ∷ []) ∷ (codes "LC_TIME" ∷ codes "END LC_TIME" ∷ codes "LC_TIME" ∷ codes "END LC_TIME" ∷ []) ∷ (codes "LC_CTYPE" ∷ codes "END LC_TIME" ∷ codes "END LC_CTYPE" ∷ []) ∷ (codes "LC_CTYPE x" ∷ codes "escape_char" ∷ []) ∷ (codes "escape_char" ∷ codes "LC_CTYPE" ∷ []) ∷ [])
    ≡ ((at 1 1, NoEnd) ∷ []) ∷ ((at 1 1, NoEnd) ∷ []) ∷ ((at 3 1, SectionTwice) ∷ []) ∷ ((at 2 1, UnknownKeyword) ∷ []) ∷ ((at 1 1, UnknownKeyword) ∷ []) ∷ ((at 1 1, WrongOperand) ∷ []) ∷ []
unfolding fault read text_of at source front front_from outside section_from with_section body keyword_line allowed taken tokens operands separated operand run text items_from
sections = refl
