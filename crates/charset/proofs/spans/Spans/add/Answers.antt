use Rattle.std.proofs.Common.{rules, cond, Some, ◌≡◌, length, sym, ◌∙◌, ap}
use Rattle.std.specs.Option.{IsSome}
use Rattle.std.specs.Ordering.{is_eq}
use Rattle.charset.specs.Spans.{Spot, IsClear, spot_cmp, ending_at}
use Rattle.charset.proofs.SpanLemmas.{indexed_push, indexed_same, popped_back}
use Rattle.charset.proofs.spans.Spans.add.Goals as goal

pub invariant_of-self-in-Err : goal.invariant_of-self-in-Err
invariant_of-self-in-Err c =
    let some : IsSome c.pop.result = search rules in
    let back : c.pop.new.self.items ≡ c.self.inside.spans.items = popped_back c.self.inside.spans.items c.pop.new.self.items c.args.span c.pop.result some (sym c.in_ok-push.ensures.items ∙ c.pop.ensures.items) in
    rw back (indexed_same c.self.inside.spans.items c.self.inside.ends c.insert.new.self c.in-Err.ensures.err c.self.invariant)

pub invariant_of-self-in_default : goal.invariant_of-self-in_default
invariant_of-self-in_default c =
    let clear : IsClear c.self.inside.spans.items c.args.span = rw (← c.self.view_is) at c.if-meets.ensures in
    let at : c.in_ok-at.at ≡ length c.self.inside.spans.items = search rules in
    rw (c.in_ok-push.ensures.items) (indexed_push c.self.inside.spans.items c.self.inside.ends c.insert.new.self c.args.span c.in_ok-at.at c.self.invariant clear.apart at
    (λ q. c.in_default.ensures.updates.0 q ∙ ap (λ (end : Spot). cond (is_eq (spot_cmp end q)) (Some c.in_ok-at.at) (ending_at c.self.inside.ends q)) c.end_of.ensures))
