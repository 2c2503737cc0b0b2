-- What is told of a text that is no number (our own).
use Rattle.std.specs.Prelude.{◌≡◌, ℕ, ◌+◌, min, List, ◌∷◌, [], ◌++◌, codes, Result, Ok, Err, IsOkAnd}
use Rattle.tool_messages.specs.declared.answer.Problem.{Problem}
use Rattle.tool_messages.specs.declared.answer.Problem.TheVariants.{Refused, Usage, Memory}
use Rattle.tool_messages.specs.Message.{BeginsWith, fault_line}
use Rattle.tool_decimals.specs.declared.read.NumberFault.{NumberFault}
use Rattle.tool_decimals.specs.declared.read.NumberWhy.{NumberWhy}
use Rattle.tool_decimals.specs.declared.read.NumberWhy.TheVariants.{NoDigit, NoFraction, OtherByte, OtherGroups, ManyDigits}
use Rattle.tool_decimals.specs.declared.read.ReadFault.{ReadFault}
use Rattle.tool_decimals.specs.declared.read.ReadFault.TheVariants as faults
use Rattle.tool_decimals.specs.Decimals.{Number}
use Rattle.tool_decimals.specs.Limits.{GREATEST_COLUMN}
use Rattle.tool_decimals.specs.Readings.{plain_text}

-- the column of a byte, from 1
abbrev pub column : ℕ → ℕ
column at = min (at + 1) GREATEST_COLUMN

-- the reason of a fault
abbrev pub reason : NumberWhy → List ℕ
reason NoDigit = codes "Mismatch"
reason NoFraction = codes "Mismatch"
reason OtherByte = codes "Mismatch"
reason OtherGroups = codes "Mismatch"
reason ManyDigits = codes "TooBig"

-- what a number is
abbrev pub number_rule : List ℕ
number_rule = codes "a number of the locale has 1 to 100 digits, perhaps behind a `-`: at least one before the decimal point, in its groups or all without, and at least one behind it where it is there"

-- the rule that a fault breaks
abbrev pub rule : NumberWhy → List ℕ
rule NoDigit = codes "no digit stands here; " ++ number_rule
rule NoFraction = codes "no digit stands behind the decimal point; " ++ number_rule
rule OtherByte = codes "this byte does not belong to a number; " ++ number_rule
rule OtherGroups = codes "the digits are in other groups than those of the locale; " ++ number_rule
rule ManyDigits = codes "this digit is one too many; " ++ number_rule

-- a problem is a refusal whose message begins so, unless it is out of memory
abbrev pub IsToldBy : List ℕ → Problem → Type 0
IsToldBy front Memory = Unit {0}
IsToldBy front (Usage message) = ⊥
IsToldBy front (Refused message) = BeginsWith front message

-- the line that the message of a fault begins with: its place, its reason and its rule
abbrev pub read_line_of : NumberFault → List ℕ
read_line_of f = fault_line (codes "TEXT") 1 (column f.at) (reason f.why) (rule f.why)

-- a problem tells the fault that there is
abbrev pub TellsFault : Problem → Result Number NumberFault → Type 0
TellsFault problem (Ok d) = problem ≡ Memory
TellsFault problem (Err f) = IsToldBy (read_line_of f) problem

-- a line is the number with a point and a newline; where the text is none, the problem tells its fault
abbrev pub AnswersRead : {X : Type 0} → (X → List ℕ) → Result X Problem → Result Number NumberFault → Type 0
AnswersRead view (Ok line) read = IsOkAnd read (λ d. view line ≡ plain_text d ++ 10 ∷ [])
AnswersRead view (Err problem) read = TellsFault problem read

-- a result is what is read, unless it is out of memory
abbrev pub GivesRead : {X Y : Type 0} → (X → Y) → Result X ReadFault → Result Y NumberFault → Type 0
GivesRead view (Ok x) read = read ≡ Ok (view x)
GivesRead view (Err (faults.At f)) read = read ≡ Err f
GivesRead view (Err faults.Memory) read = Unit {0}

-- a number with a point is what is read, unless it is out of memory
abbrev pub GivesPlain : {X : Type 0} → (X → List ℕ) → Result X ReadFault → Result Number NumberFault → Type 0
GivesPlain view (Ok plain) read = IsOkAnd read (λ d. view plain ≡ plain_text d)
GivesPlain view (Err (faults.At f)) read = read ≡ Err f
GivesPlain view (Err faults.Memory) read = Unit {0}
