use Rattle.std.proofs.Common.{ℕ, refl, subst, zero-add}
use Rattle.std.specs.Prelude.{slice_index_or}
use Rattle.std.specs.Fork.{ChangesAt}
use Rattle.script_seats.proofs.each.for_each_beside.Goals as goal

pub returns : goal.returns
returns g c i d l = (
  refl,
  subst (λ (n : ℕ). ChangesAt g.F.Fn c.args.f.now n (slice_index_or c.args.s.now i d) (slice_index_or c.each_from.new.s i d)) (zero-add i) (c.each_from.ensures.each i d l),
)
