use Rattle.std.proofs.Common.{◌≡◌, ◌+◌, drop}
use Rattle.script_words.specs.declared.stretch.Within.TheVariants.{Bare}
use Rattle.script_words.specs.Spans.{word_length}
use Rattle.script_words.proofs.bytes.quoted_length.Given as goal

abbrev pub invariant-loop-i : goal.invariant-loop-i
invariant-loop-i l = l.i + word_length l.within (drop l.i l.bytes) ≡ word_length Bare l.bytes
