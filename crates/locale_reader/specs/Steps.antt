-- How operands are read one by one.
use Rattle.std.specs.Prelude.{◌≡◌, ℕ, Bool, true, false, List, [], ◌∷◌, Option, Some, None, Ok, Err, if◌then◌else◌}
use Rattle.lc_base.specs.declared.reason.Reason.TheVariants.{WrongOperand}
use Rattle.lc_base.specs.Reading.{Reads, ◌>>=◌}
use Rattle.charset.specs.CodedSet.{CodedSet}
use Rattle.keywords.specs.declared.source.Value.{Value}
use Rattle.keywords.specs.declared.source.Value.TheVariants.{Chars}
use Rattle.locale_reader.specs.Values.{joined, Placed, one_character, is_dots, range_end}

-- the character or the range that begins with a character, and the operands behind it
abbrev pub member : CodedSet → ℕ → List Placed → Reads (Value × List Placed)
member set a [] = Ok (Chars a a, [])
member set a (p ∷ []) = if is_dots p.1 then Err (p.0, WrongOperand) else Ok (Chars a a, p ∷ [])
member set a (p ∷ q ∷ os) =
    if is_dots p.1 then (range_end set a p.0 q >>= λ b. Ok (Chars a b, os)) else Ok (Chars a a, p ∷ q ∷ os)

-- the first character or range of operands, and the operands behind it
unfoldable pub first_member : CodedSet → Placed → List Placed → Reads (Value × List Placed)
first_member set o os = one_character set o >>= λ a. member set a os

-- whether the bytes of a piece are there, and the bytes with them where that is so
abbrev pub IsAppended : List ℕ → Option (List ℕ) → List ℕ → Bool → Type 0
IsAppended old bytes new true = joined (Some old) bytes ≡ Some new
IsAppended old bytes new false = bytes ≡ None
