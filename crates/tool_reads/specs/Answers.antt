-- What a command of the tool answers: a value, or a problem of one of two kinds; of being out of memory nothing is said (our own).
use Rattle.std.specs.Prelude.{◌≡◌, ℕ, List, [], ◌∷◌, ◌++◌, Option, Some, None, Result, Ok, Err}
use Rattle.tool_messages.specs.declared.answer.Problem.{Problem}
use Rattle.tool_messages.specs.declared.answer.Problem.TheVariants.{Refused, Usage, Memory}

-- a word of the command line is wrong, or what it asks is refused
pub data Cause : Type 0 where
  WrongWord : Cause
  NoAnswer : Cause

-- a value, or why there is none
abbrev pub Defined : Type 0 → Type 0
Defined A = Result A Cause

-- a problem is of the kind that the definition gives
abbrev pub Tells : {A : Type 0} → Problem → Defined A → Type 0
Tells Memory defined = Unit {0}
Tells (Usage message) defined = defined ≡ Err WrongWord
Tells (Refused message) defined = defined ≡ Err NoAnswer

-- a problem is of a kind, unless it is out of memory
abbrev pub IsOf : Problem → Cause → Type 0
IsOf Memory cause = Unit {0}
IsOf (Usage message) cause = cause ≡ WrongWord
IsOf (Refused message) cause = cause ≡ NoAnswer

-- an answer, its value seen by view, is what the definition gives, unless it is out of memory
abbrev pub Answers : {X A : Type 0} → (X → A) → Result X Problem → Defined A → Type 0
Answers view (Ok x) defined = defined ≡ Ok (view x)
Answers view (Err problem) defined = Tells problem defined

-- what follows from a value, or why there is none
abbrev pub and_then : {A B : Type 0} → Defined A → (A → Defined B) → Defined B
and_then (Ok x) f = f x
and_then (Err cause) f = Err cause

-- a value, or that a word is wrong
abbrev pub value_or_wrong : {A : Type 0} → Option A → Defined A
value_or_wrong (Some x) = Ok x
value_or_wrong None = Err WrongWord

-- values behind others
abbrev pub beside : {A : Type 0} → List A → Defined (List A) → Defined (List A)
beside front (Ok xs) = Ok (front ++ xs)
beside front (Err cause) = Err cause

-- what each word is, or that one of them is wrong
abbrev pub all_of : {A : Type 0} → (List ℕ → Option A) → List (List ℕ) → Defined (List A)
all_of read [] = Ok []
all_of read (word ∷ words) = and_then (value_or_wrong (read word)) (λ x. beside (x ∷ []) (all_of read words))

-- what is printed for each word, one after the other, up to the first that has no answer
abbrev pub each_of : (List ℕ → Defined (List ℕ)) → List (List ℕ) → Defined (List ℕ)
each_of print [] = Ok []
each_of print (word ∷ words) = and_then (print word) (λ text. beside text (each_of print words))

-- the line of a text, where there is one
abbrev pub line_of : {R : Type 0} → Result (List ℕ) R → Defined (List ℕ)
line_of (Ok text) = Ok (text ++ 10 ∷ [])
line_of (Err why) = Err NoAnswer
