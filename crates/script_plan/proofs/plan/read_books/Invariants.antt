use Rattle.std.proofs.Common.{◌≡◌, drop, ◌++◌, Ok}
use Rattle.lc_base.specs.Reading.{◌>>=◌}
use Rattle.script_plan.specs.Plan.{books_read}
use Rattle.script_plan.proofs.plan.read_books.Given as goal

-- the catalogs so far, with those to come
abbrev pub invariant-loop-block : goal.invariant-loop-block
invariant-loop-block l = books_read l.blocks ≡ (books_read (drop l.block-index l.blocks) >>= λ more. Ok (l.books.items ++ more))
