use Rattle.std.proofs.Common.{◌≡◌}
use Rattle.src_lines.proofs.Shaping.{with_dots}
use Rattle.src_lines.proofs.shape.is_dots.Given as goal

abbrev pub invariant-loop : goal.invariant-loop
invariant-loop l = with_dots l.counter l.walk ≡ l.atoms
