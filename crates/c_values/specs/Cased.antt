-- Texts in UTF-8 with the case of each character mapped (our own, by XSH towupper and towlower).
use Rattle.std.specs.Prelude.{ℕ, ◌-◌, ◌^◌, min, List, map, codes, chars, encode_utf8_all, if◌then◌else◌}
use Rattle.std.specs.Str.{bytes_eq, is_utf8}
use Rattle.std.specs.Str.Lossy.{utf8_valid_len}
use Rattle.ctype_classes.specs.Case.{image}
use Rattle.charset.specs.CodedSet.{is_scalar}
use Rattle.shared_objects.specs.Shared.{Shared}
use Rattle.shared_objects.specs.Objects.{ctype_in}
use Rattle.c_values.specs.declared.answer.LobjAnswer.{LobjAnswer}
use Rattle.c_values.specs.Codes.{NOT_UTF8, BAD_CHARACTER}
use Rattle.c_values.specs.declared.cased.Case.{Case}
use Rattle.c_values.specs.declared.cased.Case.TheVariants.{Upper, Lower}
use Rattle.c_values.specs.Answers.{refused, told}

-- the pairs of a case
abbrev pub pairs_of : Shared → Case → List (ℕ × ℕ)
pairs_of o Upper = (ctype_in o).upper
pairs_of o Lower = (ctype_in o).lower

-- a character in a case; it stays where its image is no character
abbrev pub cased_char : List (ℕ × ℕ) → ℕ → ℕ
cased_char pairs c = if is_scalar (image pairs c) then image pairs c else c

-- characters in a case, as bytes
abbrev pub cased_chars : List (ℕ × ℕ) → List ℕ → List ℕ
cased_chars pairs cs = encode_utf8_all (map (cased_char pairs) cs)

-- a text in a case
abbrev pub cased_text : List (ℕ × ℕ) → List ℕ → List ℕ
cased_text pairs text = cased_chars pairs (chars text)

-- a length as far as a `usize` can tell it
abbrev pub length_told : ℕ → ℕ
length_told n = min n (2 ^ 64 - 1)

-- what is answered for a text: it and the locale's charset are to be UTF-8
abbrev pub utf8_told : List ℕ → Shared → Case → List ℕ → LobjAnswer × List ℕ
utf8_told buffer o case text = if is_utf8 text then told buffer (cased_text (pairs_of o case) text) else refused buffer BAD_CHARACTER (utf8_valid_len text)

abbrev pub cased_told : List ℕ → Shared → Case → List ℕ → LobjAnswer × List ℕ
cased_told buffer o case text = if bytes_eq (ctype_in o).codeset (codes "UTF-8") then utf8_told buffer o case text else refused buffer NOT_UTF8 0
