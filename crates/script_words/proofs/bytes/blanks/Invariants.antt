use Rattle.std.proofs.Common.{◌≡◌, ◌+◌, drop, not}
use Rattle.std.specs.List.{position_or_len}
use Rattle.lc_base.specs.Blanks.{is_blank}
use Rattle.script_words.proofs.bytes.blanks.Given as goal

abbrev pub invariant-loop-i : goal.invariant-loop-i
invariant-loop-i l = l.i + position_or_len (λ c. not (is_blank c)) (drop l.i l.bytes) ≡ position_or_len (λ c. not (is_blank c)) l.bytes
