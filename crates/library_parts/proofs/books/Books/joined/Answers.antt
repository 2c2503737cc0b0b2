use Rattle.std.proofs.Common.{◌≡◌, ◌++◌, map, length, ap, arith, length-append}
use Rattle.std.specs.Arc.{arc_value}
use Rattle.std.proofs.lemmas.List.{length-map}
use Rattle.library_parts.proofs.books.Books.joined.Goals as goal

pub returns : goal.returns
returns c = cc (c.in_ok-books.ensures, c.first.view_is, c.second.view_is, c.as_slice.ensures.value, c.as_slice-2.ensures.value)

pub invariant_of-result : goal.invariant_of-result
invariant_of-result c =
    let all : length (map arc_value c.in_ok-books.books.items) ≡ length (c.args.first.now ++ c.args.second.now) = ap length (returns c) in
    let same = length-map c.in_ok-books.books.items arc_value in
    let both = length-append c.args.first.now c.args.second.now in
    omega arith
