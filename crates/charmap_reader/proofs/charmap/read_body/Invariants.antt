use Rattle.std.proofs.Common.{◌≡◌, ◌-◌, [], take, drop}
use Rattle.charmap_reader.specs.Charmap.{mappings}
use Rattle.charmap_reader.proofs.charmap.read_body.Given as goal

abbrev pub invariant-loop-i : goal.invariant-loop-i
invariant-loop-i l = mappings l.names (drop (l.i - l.start) (take (l.«end» - l.start) (drop l.start l.lines))) ≡ mappings [] (take (l.«end» - l.start) (drop l.start l.lines))
