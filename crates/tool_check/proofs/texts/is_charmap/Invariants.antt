use Rattle.std.proofs.Common.{◌≡◌, length}
use Rattle.tool_check.specs.Texts.{is_charmap}
use Rattle.tool_check.proofs.texts.is_charmap.Given as goal

-- no line so far is a charmap's
abbrev pub invariant-loop-line : goal.invariant-loop-line
invariant-loop-line l = is_charmap l.rest ≡ is_charmap l.text

abbrev pub decreases-loop-line : goal.decreases-loop-line
decreases-loop-line l = length l.rest
