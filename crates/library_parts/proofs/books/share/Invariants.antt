use Rattle.std.proofs.Common.{◌≡◌, ◌++◌, map, take}
use Rattle.std.specs.Arc.{arc_value}
use Rattle.library_parts.proofs.books.share.Given as goal

abbrev pub invariant-loop-book : goal.invariant-loop-book
invariant-loop-book l = map arc_value l.books.items ≡ map arc_value l.fn.books.items ++ map arc_value (take l.book-index l.more)
