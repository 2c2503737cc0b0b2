use Rattle.std.proofs.Common.{◌≡◌, ◌++◌, replicate, sym, ap, ◌∙◌, arith}
use Rattle.charset.proofs.Padding.{padded_carried}
use Rattle.charset.proofs.numbering.next_block.Goals as goal

pub returns : goal.returns
returns c width n own =
    let all_turns : c.loop.counter ≡ c.args.nines = omega arith in
    c.loop.invariant ∙ ap (λ m. c.in_ok-next.next.items ++ replicate m 48) all_turns ∙
    sym (padded_carried c.args.nines width n c.args.digits.now c.in_ok-next.next.items (λ w m is. sym (c.in_ok-next.ensures.next w m (sym is))) own)
