use Rattle.std.proofs.Common.{◌≡◌, length}
use Rattle.tool_check.specs.Texts.{from_word}
use Rattle.tool_check.proofs.texts.from_word.Given as goal

-- all so far are blanks
abbrev pub invariant-loop-rest : goal.invariant-loop-rest
invariant-loop-rest l = from_word l.rest ≡ from_word l.line

abbrev pub decreases-loop-rest : goal.decreases-loop-rest
decreases-loop-rest l = length l.rest
