use Rattle.std.proofs.Common.{◌≡◌, ◌+◌, drop}
use Rattle.std.specs.List.{position_or_len}
use Rattle.script_words.specs.Spans.{stops_bare}
use Rattle.script_words.proofs.bytes.bare_length.Given as goal

abbrev pub invariant-loop-i : goal.invariant-loop-i
invariant-loop-i l = l.i + position_or_len stops_bare (drop l.i l.bytes) ≡ position_or_len stops_bare l.bytes
