-- What a line of numbers answers: the line, or a problem of the kind of its refusal; of being out of memory nothing is said (our own).
use Rattle.std.specs.Prelude.{◌≡◌, ℕ, List, Bool, true, false, Option, Some, None, Result, Ok, Err}
use Rattle.tool_messages.specs.declared.answer.Problem.{Problem}
use Rattle.tool_messages.specs.declared.answer.Problem.TheVariants.{Refused, Usage, Memory}
use Rattle.tool_decimals.specs.Formats.{Refusal, NoNumber, BadFormat, MissingNumber, NotWhole, TooBig, with_newline}

-- whether a word of the command line is wrong, and not what it asks refused
abbrev pub is_word : Refusal → Bool
is_word (NoNumber word) = true
is_word (NotWhole word) = true
is_word (BadFormat at) = false
is_word (MissingNumber at) = false
is_word TooBig = false

-- whether a word is wrong, where there is no text
abbrev pub word_fault : Result (List ℕ) Refusal → Option Bool
word_fault (Ok text) = None
word_fault (Err why) = Some (is_word why)

-- a problem is of a wrong word, or of a refusal, unless it is out of memory
abbrev pub IsOf : Problem → Bool → Type 0
IsOf Memory wrong = Unit {0}
IsOf (Usage message) wrong = wrong ≡ true
IsOf (Refused message) wrong = wrong ≡ false

-- a problem is of the kind of the refusal that there is
abbrev pub Tells : Problem → Result (List ℕ) Refusal → Type 0
Tells Memory text = Unit {0}
Tells (Usage message) text = word_fault text ≡ Some true
Tells (Refused message) text = word_fault text ≡ Some false

-- a line is the text with a newline; where there is none, the text is refused, by a problem of its kind
abbrev pub AnswersLine : {X : Type 0} → (X → List ℕ) → Result X Problem → Result (List ℕ) Refusal → Type 0
AnswersLine view (Ok line) text = with_newline text ≡ Ok (view line)
AnswersLine view (Err problem) text = Tells problem text
