-- What the message of a fault begins with (our own).
use Rattle.std.specs.Prelude.{◌≡◌, ℕ, List, ◌++◌, codes}
use Rattle.std.specs.Fmt.{decimal}
use Rattle.tool_messages.specs.Shown.{shown_word}

-- a text begins with another
pub record BeginsWith (front text : List ℕ) : Type 0 where
  pub rest : List ℕ
  pub parts : text ≡ front ++ rest

-- the file, the line, the column and the reason of a fault
abbrev pub fault_head : List ℕ → ℕ → ℕ → List ℕ → List ℕ
fault_head file line column reason = shown_word file ++ codes ":" ++ decimal line ++ codes ":" ++ decimal column ++ codes ": " ++ reason

-- the first line of the message of a fault, with the rule that is broken
abbrev pub fault_line : List ℕ → ℕ → ℕ → List ℕ → List ℕ → List ℕ
fault_line file line column reason rule = fault_head file line column reason ++ codes ": " ++ rule ++ codes "\n"
