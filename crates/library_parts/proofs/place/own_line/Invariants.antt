use Rattle.std.proofs.Common.{◌≡◌, drop}
use Rattle.library_parts.specs.Places.{found_line, own_line}
use Rattle.library_parts.proofs.place.own_line.Given as goal

abbrev pub invariant-loop-number : goal.invariant-loop-number
invariant-loop-number l = own_line l.befores l.line ≡ found_line l.best l.number l.line (drop l.number l.befores)
