-- The text of a format with whole numbers and decimals (XSH fprintf: `d`, `i`, `u` and `f`, with the flag `'`; the refusals are our own).
use Rattle.std.specs.Prelude.{◌≡◌, ℕ, zero, suc, ◌+◌, nat_le, List, [], ◌∷◌, ◌++◌, length, take, Option, Some, None, IfSome, Result, Ok, Err, if◌then◌else◌}
use Rattle.numeric_cat.specs.NumericValues.{NumericValues}
use Rattle.int_format.specs.Ints.{at_most, ints}
use Rattle.script_words.specs.Numbers.{number_of_word}
use Rattle.int_format.specs.declared.format.NumberField.{NumberField}
use Rattle.tool_decimals.specs.declared.conversion.DecimalPart.{DecimalPart}
use Rattle.tool_decimals.specs.declared.conversion.DecimalPart.TheVariants.{Literal, Whole, Decimal}
use Rattle.tool_decimals.specs.declared.fault.NumbersFault.{NumbersFault}
use Rattle.tool_decimals.specs.declared.fault.NumbersFault.TheVariants as faults
use Rattle.tool_decimals.specs.Conversions.{part}
use Rattle.tool_decimals.specs.Decimals.{decimal_of_word}
use Rattle.tool_decimals.specs.Texts.{decimal_text}

-- why there is no text: a word is no number, a `%` begins no conversion, a `%` has no number, a word is no whole number where one is asked for, the text is too long
pub data Refusal : Type 0 where
  NoNumber : List ℕ → Refusal
  BadFormat : ℕ → Refusal
  MissingNumber : ℕ → Refusal
  NotWhole : List ℕ → Refusal
  TooBig : Refusal

-- the most bytes of a text
abbrev pub most : ℕ
most = 1048576

-- a text, which is too long where there is none
abbrev pub made : {R : Type 0} → Result (List ℕ) R → Result (List ℕ) Refusal
made (Ok text) = Ok text
made (Err why) = Err TooBig

-- the text of a word by these bytes, which are a conversion of whole numbers
abbrev pub whole_text : NumericValues → List ℕ → List ℕ → Result (List ℕ) Refusal
whole_text n bytes word = elim (number_of_word word) [
  | None ↦ Err (NotWhole word)
  | Some v ↦ made (at_most most (ints n bytes (v ∷ [])))
]

-- the text of a word by a conversion of decimals
abbrev pub fraction_text : NumericValues → NumberField → List ℕ → Result (List ℕ) Refusal
fraction_text n c word = elim (decimal_of_word word) [
  | None ↦ Err (NoNumber word)
  | Some d ↦ Ok (decimal_text n c d)
]

-- the text of a part, which has these bytes, at a place of the format, with the words that are left
abbrev pub part_text : NumericValues → DecimalPart → ℕ → List ℕ → List (List ℕ) → Result (List ℕ) Refusal
part_text n (Literal b) at bytes words = Ok (b ∷ [])
part_text n Whole at bytes [] = Err (MissingNumber at)
part_text n Whole at bytes (w ∷ words) = whole_text n bytes w
part_text n (Decimal c) at bytes [] = Err (MissingNumber at)
part_text n (Decimal c) at bytes (w ∷ words) = fraction_text n c w

-- the words behind the first
abbrev pub behind_first : List (List ℕ) → List (List ℕ)
behind_first [] = []
behind_first (w ∷ words) = words

-- the words that a part leaves
abbrev pub words_behind : DecimalPart → List (List ℕ) → List (List ℕ)
words_behind (Literal b) words = words
words_behind Whole words = behind_first words
words_behind (Decimal c) words = behind_first words

-- a text that is not too long
abbrev pub within : List ℕ → Result (List ℕ) Refusal
within text = if nat_le (length text) most then Ok text else Err TooBig

-- what is made of a text, unless it is refused
abbrev pub and_then : {A B : Type 0} → Result A Refusal → (A → Result B Refusal) → Result B Refusal
and_then (Ok x) f = f x
and_then (Err why) f = Err why

-- a text with the one of a part behind it
abbrev pub with_text : List ℕ → Result (List ℕ) Refusal → Result (List ℕ) Refusal
with_text front text = and_then text (λ t. within (front ++ t))

-- the text of a format behind this one, from a place on, behind so many bytes that belong to a part before them, with the words that are left; the first refusal ends it
unfoldable pub text_behind : NumericValues → List ℕ → ℕ → ℕ → List ℕ → List (List ℕ) → Result (List ℕ) Refusal
text_behind n front skip at [] words = Ok front
text_behind n front (suc skip) at (c ∷ cs) words = text_behind n front skip (at + 1) cs words
text_behind n front zero at (c ∷ cs) words = elim (part c cs) [
  | None ↦ Err (BadFormat at)
  | Some p ↦ and_then (with_text front (part_text n p.0 at (c ∷ take p.1 cs) words)) (λ text. text_behind n text p.1 (at + 1) cs (words_behind p.0 words))
]

-- the first word that is no number
unfoldable pub first_wrong : List (List ℕ) → Option (List ℕ)
first_wrong [] = None
first_wrong (w ∷ words) = elim (decimal_of_word w) [
  | None ↦ Some w
  | Some d ↦ first_wrong words
]

-- the text of a format with the numbers that words are
abbrev pub numbers_text : NumericValues → List ℕ → List (List ℕ) → Result (List ℕ) Refusal
numbers_text n format words = elim (first_wrong words) [
  | Some w ↦ Err (NoNumber w)
  | None ↦ text_behind n [] 0 0 format words
]

-- why there is no text, unless it was out of memory
abbrev pub refusal_of : NumbersFault → Option Refusal
refusal_of (faults.NoNumber word) = Some (NoNumber word.now)
refusal_of (faults.BadFormat at) = Some (BadFormat at)
refusal_of (faults.MissingNumber at) = Some (MissingNumber at)
refusal_of (faults.NotWhole word) = Some (NotWhole word.now)
refusal_of faults.TooBig = Some TooBig
refusal_of faults.Memory = None

-- a fault is the refusal of the definition, or out of memory, which says nothing
abbrev pub Refuses : NumbersFault → Result (List ℕ) Refusal → Type 0
Refuses e answer = IfSome (refusal_of e) (λ why. answer ≡ Err why)

-- a result, its text seen by view, is the answer, unless it is out of memory
abbrev pub Answers : {X : Type 0} → (X → List ℕ) → Result X NumbersFault → Result (List ℕ) Refusal → Type 0
Answers view (Ok x) answer = answer ≡ Ok (view x)
Answers view (Err e) answer = Refuses e answer

-- a text with a newline behind it
abbrev pub with_newline : Result (List ℕ) Refusal → Result (List ℕ) Refusal
with_newline text = and_then text (λ t. Ok (t ++ 10 ∷ []))
