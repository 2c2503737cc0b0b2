use Rattle.std.proofs.Common.{◌<◌, ℕ, ap, subst}
use Rattle.turn_gate.specs.declared.entry.Terms.{Terms}
use Rattle.turn_gate.specs.Ends.{OneHistory}
use Rattle.turn_gate.proofs.Ending.{number_of, parts_of, some_callers}
use Rattle.turn_gate.proofs.turns.Turns.close.Goals as goal

pub gather_all-place-requires-clause-some : goal.gather_all-place-requires-clause-some
gather_all-place-requires-clause-some g c =
    some_callers 0 c.args.seats (c.requires.numbers 0 (subst (λ (n : ℕ). 0 < n) (ap (λ x. x.terms.seats) c.self.view_is) c.self.invariant.some_seat))

pub take_out-requires-clause-numbers : goal.take_out-requires-clause-numbers
take_out-requires-clause-numbers g c = λ n low.
    number_of n c.gather_all-place.result.me.0 c.args.seats c.gather_all-place.ensures.gathered (c.requires.numbers n (subst (λ (k : ℕ). n < k) (ap (λ x. x.terms.seats) c.self.view_is) low))

pub returns : goal.returns
returns g c =
    let e = c.take_out.ensures in (
      e.0,
      subst (λ (T : Terms g.row.M-Setting.Denot). OneHistory g.M.Machine.stands g.M.Machine.legal g.M.Machine.setting T c.take_out.result e.0) (ap (λ x. x.terms) c.self.view_is) e.1,
      parts_of c.gather_all-place.result.me.0 e.0 c.args.seats e.2 e.3 c.gather_all-place.ensures.gathered,
    )
