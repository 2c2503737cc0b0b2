use Rattle.std.proofs.Common.{◌≡◌, drop}
use Rattle.std.specs.List.{list_all}
use Rattle.tool_check.specs.Texts.{is_blank_or_return}
use Rattle.tool_check.proofs.texts.are_blank.Given as goal

-- all so far are blanks
abbrev pub invariant-loop-byte : goal.invariant-loop-byte
invariant-loop-byte l = list_all is_blank_or_return (drop l.byte-index l.bytes) ≡ list_all is_blank_or_return l.bytes
