use Rattle.std.proofs.Common.{◌≡◌, ◌+◌, drop}
use Rattle.std.specs.List.{position_or_len}
use Rattle.script_lines.specs.Catalogs.{is_for}
use Rattle.script_lines.proofs.catalogs.place_of.Given as goal

abbrev pub invariant-loop-i : goal.invariant-loop-i
invariant-loop-i l = l.i + position_or_len (is_for l.name l.locale) (drop l.i l.items) ≡ position_or_len (is_for l.name l.locale) l.items
