-- What the tool ends with where a command has no answer (our own).
use Rattle.std.specs.Prelude.{ℕ, ◌<◌, List, length, codes}
use Rattle.tool_messages.specs.declared.answer.Problem.{Problem}
use Rattle.tool_messages.specs.declared.answer.Problem.TheVariants.{Refused, Usage, Memory}

-- the status of a command that has no answer
abbrev pub problem_status : Problem → ℕ
problem_status (Refused _) = 1
problem_status (Usage _) = 2
problem_status Memory = 3

-- the message of a command that has no answer
abbrev pub problem_message : Problem → List ℕ
problem_message (Refused text) = text
problem_message (Usage text) = text
problem_message Memory = codes "locale_tool: out of memory\n"

-- a problem that is not silent
abbrev pub IsSpoken : Problem → Type 0
IsSpoken problem = 0 < length (problem_message problem)
