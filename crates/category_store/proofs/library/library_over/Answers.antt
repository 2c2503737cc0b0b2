use Rattle.std.proofs.Common.{ap, length, arith}
use Rattle.category_store.proofs.library.library_over.Goals as goal

pub library_of-requires : goal.library_of-requires
library_of-requires c =
    let lent = ap length c.as_slice.ensures.value in
    let count = c.in_ok-sources.ensures.count in
    omega arith
