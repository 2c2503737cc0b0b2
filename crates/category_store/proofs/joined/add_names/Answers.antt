use Rattle.std.proofs.Common.{◌∙◌, ℕ, ◌+◌, List, length, drop, ap, arith, sym}
use Rattle.charset.specs.Portable.{Name}
use Rattle.lc_base.specs.Named.{with_named}
use Rattle.category_store.specs.Joined.{numbered_after}
use Rattle.category_store.proofs.JoinedLemmas.{numbered_more}
use Rattle.category_store.proofs.joined.add_names.Goals as goal

pub loop-place-preserved : goal.loop-place-preserved
loop-place-preserved c =
    let others = c.args.others.now in
    let names = c.loop-place.names in
    let place = c.loop-place.place in
    let added = c.in_ok-add_name.ensures.named ∙ ap (λ (name : Name). with_named names name (length names + 1)) c.name_at.ensures in
    let few = c.in_ok-add_name.ensures.few in
    let so_far = c.loop-place.invariant.few in
    record {
      rest = ap (λ (ns : List (Name × ℕ)). numbered_after ns (drop (place + 1) others)) added ∙ (sym (numbered_more names others place (omega arith)) ∙ c.loop-place.invariant.rest);
      few = omega (arith, few, so_far);
    }
