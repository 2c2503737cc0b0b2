use Rattle.std.proofs.Common.{◌≡◌, ◌++◌, length}
use Rattle.script_out.specs.Output.{texts_text}
use Rattle.script_out.proofs.output.push_texts.Given as goal

-- what is written, and what is left
abbrev pub invariant-loop-text : goal.invariant-loop-text
invariant-loop-text l = l.out.items ++ texts_text l.left ≡ l.initial.out.items ++ texts_text l.fn.texts

abbrev pub decreases-loop-text : goal.decreases-loop-text
decreases-loop-text l = length l.left
