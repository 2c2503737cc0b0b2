use Rattle.std.proofs.Common.{◌≡◌, drop}
use Rattle.std.specs.List.{list_all}
use Rattle.lc_base.specs.Blanks.{is_blank}
use Rattle.tool_check.proofs.texts.are_spaces.Given as goal

-- all so far are spaces and tabs
abbrev pub invariant-loop-byte : goal.invariant-loop-byte
invariant-loop-byte l = list_all is_blank (drop l.byte-index l.bytes) ≡ list_all is_blank l.bytes
