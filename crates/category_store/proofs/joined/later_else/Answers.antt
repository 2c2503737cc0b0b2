use Rattle.std.proofs.Common.{◌∙◌, ℕ, List, ap}
use Rattle.charset.specs.Portable.{Name}
use Rattle.category_store.specs.Joined.{with_others, moved}
use Rattle.category_store.proofs.JoinedLemmas.{moved_none}
use Rattle.category_store.proofs.joined.later_else.Goals as goal

pub returns : goal.returns
returns c =
    let earlier = c.args.earlier.now in
    let later = c.args.later.now in
    c.in_ok-add_others-2.ensures
    ∙ (ap (with_others c.add_others.new.named) (moved_none earlier)
    ∙ ap (λ (ns : List (Name × ℕ)). with_others ns earlier) (c.in_ok-add_others.ensures ∙ ap (λ (ns : List (Name × ℕ)). with_others ns (moved c.args.count later)) c.new-named.ensures))
