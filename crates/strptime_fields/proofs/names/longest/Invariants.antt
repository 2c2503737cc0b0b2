use Rattle.std.proofs.Common.{◌≡◌}
use Rattle.std.specs.Prelude.{option_map}
use Rattle.strptime_fields.specs.Reading.{longest_of}
use Rattle.strptime_fields.proofs.names.longest.Given as goal

abbrev pub invariant-loop-i : goal.invariant-loop-i
invariant-loop-i l = option_map (λ n. (n.0, n.1.now)) l.best ≡ longest_of l.t l.names l.text l.i
