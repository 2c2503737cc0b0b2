use Rattle.std.proofs.Common.{◌≡◌, ◌<◌, length, sym, ap, subst, ◌∙◌, arith, rules}
use Rattle.turn_gate.specs.Callers.{first_caller}
use Rattle.thread_tests.specs.Back.{AreBack}
use Rattle.thread_tests.proofs.Back.{item_at, back}
use Rattle.thread_tests.proofs.waking.call_all.Goals as goal

pub returns : goal.returns
returns g c =
    let gate = c.args.turns.now in
    let jobs = c.into_vec.result.items in
    let were = c.into_vec.ensures ∙ c.requires.seats in
    let many = ap length were in
    let seats = c.requires.terms.0 in
    let len = c.in_ok-back.ensures.len in
    let count : length c.in_ok-back.back.items ≡ gate.terms.seats = omega (arith, many, seats, len) in
    subst (AreBack gate) (sym c.of.ensures) (back gate c.in_ok-back.back.items count (λ i d lt.
    let below : i < length jobs = omega (arith, lt, count, many, seats) in
    let job = (c.in_ok-back.ensures.each i d below).1 in
    let first = item_at (first_caller gate) 4 i jobs job.job were (omega (arith, below, many)) job.job_read in
    let number = ap (λ (x : _). x.number) first in
    let met = job.call.met in search rules))
