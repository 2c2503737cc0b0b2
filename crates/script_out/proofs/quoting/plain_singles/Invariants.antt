use Rattle.std.proofs.Common.{◌≡◌, take}
use Rattle.std.specs.List.{flat_map}
use Rattle.script_out.specs.Output.{escaped}
use Rattle.script_out.proofs.quoting.plain_singles.Given as goal

-- the bytes so far stand as they are
abbrev pub invariant-loop-i : goal.invariant-loop-i
invariant-loop-i l = flat_map escaped (take l.i l.text) ≡ take l.i l.text
