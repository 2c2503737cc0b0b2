use Rattle.std.proofs.Common.{◌≡◌, take, drop}
use Rattle.charmap_reader.specs.Charmap.{headers}
use Rattle.charmap_reader.proofs.charmap.read_headers.Given as goal

abbrev pub invariant-loop-i : goal.invariant-loop-i
invariant-loop-i l = headers l.set_name (drop l.i (take l.«end» l.lines)) ≡ headers l.fn.name (take l.«end» l.lines)
