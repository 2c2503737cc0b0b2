use Rattle.std.proofs.Common.{◌∙◌, ℕ, ◌+◌, List, drop, ap, arith, sym}
use Rattle.charset.specs.Portable.{Name}
use Rattle.lc_base.specs.Named.{with_named}
use Rattle.category_store.specs.Joined.{with_others, moved, entry_at}
use Rattle.category_store.proofs.JoinedLemmas.{others_more}
use Rattle.category_store.proofs.joined.add_others.Goals as goal

pub loop-place-preserved : goal.loop-place-preserved
loop-place-preserved c =
    let others = c.args.others.now in
    let named = c.loop-place.named in
    let place = c.loop-place.place in
    let count = c.args.count in
    let added = c.in_ok-add.ensures ∙ (ap (λ (name : Name). with_named named name (count + c.number_at.result)) c.name_at.ensures ∙ ap (λ (n : ℕ). with_named named (entry_at others place).0 (count + n)) c.number_at.ensures) in
    ap (λ (ns : List (Name × ℕ)). with_others ns (moved count (drop (place + 1) others))) added ∙ (sym (others_more count named others place (omega arith)) ∙ c.loop-place.invariant)
