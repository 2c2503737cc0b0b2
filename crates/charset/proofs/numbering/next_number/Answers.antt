use Rattle.std.proofs.Common.{◌≡◌, ◌++◌, replicate, refl, inl, inr, ap, ◌∙◌, arith}
use Rattle.charset.proofs.Padding.{IsRaised, last_before, raised_next, raised_digits}
use Rattle.charset.proofs.numbering.next_number.Goals as goal
use Rattle.charset.proofs.numbering.next_number.Goals.{After-loop, in-empty+in_ok-push-in-empty, in-len1-up+in_ok-extend_from_slice-in-len1-up+in_ok-push-in-len1-up}

pub overflow_add-last : goal.overflow_add-last
overflow_add-last c =
    let range = last_before c.args.digits.now c.nines-nines.result c.split_at.result.0.now c.requires.digits c.nines-nines.ensures c.split_at.ensures.front (omega arith) in
    omega (arith, range.1)

-- the match leaves the front with its last digit raised, or 1
raised_by_match : (c : After-loop) → IsRaised c.split_at.result.0.now c.if-front-lt1.next.items
raised_by_match c =
    elim c.if-front-lt1.branch [
      | in-empty+in_ok-push-in-empty w ↦ inl (omega arith, rw (w.next-is, w.in_ok-push-in-empty.ensures.items, c.in_ok-next.ensures.items) refl)
      | in-len1-up+in_ok-extend_from_slice-in-len1-up+in_ok-push-in-len1-up w ↦ inr (omega arith, rw (w.next-is, w.in_ok-push-in-len1-up.ensures.items, w.in_ok-extend_from_slice-in-len1-up.ensures.items, c.in_ok-next.ensures.items) refl)
    ]

pub returns-clause-next : goal.returns-clause-next
returns-clause-next c width n own =
    let k = c.nines-nines.result in
    let all_turns : c.loop.counter ≡ k = omega arith in
    c.loop.invariant ∙ ap (λ m. c.if-front-lt1.next.items ++ replicate m 48) all_turns ∙
    raised_next c.args.digits.now k c.split_at.result.0.now _ c.requires.digits c.nines-nines.ensures c.split_at.ensures.front (raised_by_match c) width n own

pub returns-clause-digits : goal.returns-clause-digits
returns-clause-digits c =
    let k = c.nines-nines.result in
    let all_turns : c.loop.counter ≡ k = omega arith in
    rw (c.loop.invariant, all_turns)
    (raised_digits c.args.digits.now k c.split_at.result.0.now _ c.requires.digits c.nines-nines.ensures c.split_at.ensures.front (raised_by_match c))
