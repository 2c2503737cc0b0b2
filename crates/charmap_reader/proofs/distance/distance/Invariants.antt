use Rattle.std.proofs.Common.{◌≡◌, ◌-◌}
use Rattle.charmap_reader.proofs.DistanceLemmas.{front_value, far}
use Rattle.charmap_reader.proofs.distance.distance.Given as goal

abbrev pub invariant-loop-i : goal.invariant-loop-i
invariant-loop-i l =
    l.so_far ≡ far (front_value l.first (l.longest - l.i)) (front_value l.last (l.longest - l.i))
