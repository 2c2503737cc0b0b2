-- A file that cannot be read is told of in words.
use Rattle.std.proofs.Common.{◌≡◌, ℕ, List, ◌++◌, length, codes, ap, length-append, arith}
use Rattle.tool_messages.specs.declared.answer.Problem.TheVariants.{Refused}
use Rattle.tool_messages.specs.Shown.{shown_word}
use Rattle.tool_messages.specs.Status.{IsSpoken}
use Rattle.tool_files.specs.Files.{unreadable}

pub unreadable_spoken : (path cause message : List ℕ) → message ≡ unreadable path cause → IsSpoken (Refused message)
unreadable_spoken path cause message e =
    let shown : List ℕ = codes "locale_tool: " ++ shown_word path in
    omega (arith, ap length e, length-append (shown ++ codes ": " ++ cause) (codes "\n"))
