-- Lines of numbers that are read.
use Rattle.std.proofs.Common.{◌≡◌, ℕ, Bool, List, [], ◌∷◌, ◌++◌, Result, Ok, Err, refl, subst}
use Rattle.std.specs.Prelude.{IsOkAnd, IfOk}
use Rattle.numeric_cat.specs.NumericValues.{NumericValues}
use Rattle.tool_messages.specs.declared.answer.Problem.{Problem}
use Rattle.tool_decimals.specs.declared.read.NumberFault.{NumberFault}
use Rattle.tool_decimals.specs.Decimals.{Number}
use Rattle.tool_decimals.specs.Readings.{AreToldApart, IsLineOf, IsSpelled, plain_text}
use Rattle.tool_decimals.specs.Scans.{reading}
use Rattle.tool_decimals.specs.Told.{AnswersRead}
use Rattle.tool_decimals.proofs.ReadingLaws.{is_read, is_spelled_read}

-- a number with a point, and the newline behind it
pub ended : (read : Result Number NumberFault) (plain line : List ℕ) → IsOkAnd read (λ d. plain ≡ plain_text d) → line ≡ plain ++ 10 ∷ [] → IsOkAnd read (λ d. line ≡ plain_text d ++ 10 ∷ [])
ended (Ok d) plain line is e = subst (λ (p : List ℕ). line ≡ p ++ 10 ∷ []) is e
ended (Err f) plain line is e = is

found_of : (n : NumericValues) (text line : List ℕ) (read : Result Number NumberFault) → reading n text ≡ read → IsOkAnd read (λ d. line ≡ plain_text d ++ 10 ∷ []) → IsLineOf n text line
found_of n text line (Ok d) is h =
    let read = is_read n text d is in
    record {
      plain = plain_text d;
      is_read = record { number = d; is_grouped = read.is_grouped; is_spelled = read.is_spelled; is_plain = refl };
      is_line = h;
    }
found_of n text line (Err f) is h = absurd h

pub line_found : (n : NumericValues) (text : List ℕ) (result : Result (List ℕ) Problem) → AnswersRead (λ line. line) result (reading n text) → IfOk result (λ line. IsLineOf n text line)
line_found n text (Ok line) h = found_of n text line (reading n text) refl h
line_found n text (Err problem) h = tt

pub line_only : (n : NumericValues) (text : List ℕ) (result : Result (List ℕ) Problem) (d : Number) (is_grouped : Bool) → AnswersRead (λ line. line) result (reading n text) → AreToldApart n → IsSpelled n text d is_grouped → AnswersRead (λ line. line) result (Ok d)
line_only n text result d is_grouped h apart is = subst (λ (read : Result Number NumberFault). AnswersRead (λ line. line) result read) (is_spelled_read n text d is_grouped apart is) h
