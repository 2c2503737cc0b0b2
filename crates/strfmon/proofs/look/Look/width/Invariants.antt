use Rattle.std.proofs.Common.{◌≡◌, ◌+◌, ◌*◌, ◌^◌, ◌≤◌, length, drop}
use Rattle.strfmon.specs.Looks.{parts_text}
use Rattle.strfmon.specs.Seen.{seen}
use Rattle.strfmon.proofs.look.Look.width.Given as goal

abbrev pub invariant-loop-part : goal.invariant-loop-part
invariant-loop-part l = record {
  rest : l.width + length (parts_text (seen l.self) (drop l.part-index l.parts)) ≡ length (parts_text (seen l.self) l.parts);
  fits : l.width ≤ 2 ^ 64 * l.part-index;
}
