use Rattle.std.proofs.Common.{◌≡◌, drop, map}
use Rattle.std.specs.Arc.{arc_value}
use Rattle.library_parts.specs.Books as books
use Rattle.library_parts.proofs.books.last_number.Given as goal

abbrev pub invariant-loop-number : goal.invariant-loop-number
invariant-loop-number l = books.number_of l.name l.locale (map arc_value l.books) ≡ books.last_number l.found l.number l.name l.locale (map arc_value (drop l.number l.books))
