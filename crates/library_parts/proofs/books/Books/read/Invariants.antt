use Rattle.std.proofs.Common.{◌≡◌, drop, ◌++◌, length, map, Ok}
use Rattle.std.specs.Arc.{arc_value}
use Rattle.lc_base.specs.Reading.{◌>>=◌}
use Rattle.library_parts.specs.Books.{books_read}
use Rattle.library_parts.proofs.books.Books.read.Given as goal

-- the catalogs so far, with those to come
abbrev pub invariant-loop-block : goal.invariant-loop-block
invariant-loop-block l = record {
  whole : books_read l.blocks ≡ (books_read (drop l.block-index l.blocks) >>= λ more. Ok (map arc_value l.books.items ++ more));
  count : length l.books.items ≡ l.block-index;
}
