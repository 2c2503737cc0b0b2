-- The lemma on quotas: where each caller has a number below the number of seats, and made no more calls than the quota,
-- there are at most seats times quota calls, and fewer where one made fewer.
use Rattle.std.proofs.Common.{◌≡◌, ◌≢◌, ℕ, zero, suc, ◌+◌, ◌*◌, ◌<◌, ◌≤◌, [], ◌∷◌, length, refl, ap, subst, arith, suc-mul, lt_of_not-le}
use mathlib.Core.Logic.{dite}
use native.Mathlib.Decide.{ℕ_discrete, dec_le}
use Rattle.turn_gate.specs.declared.entry.Entry.{Entry}
use Rattle.turn_gate.specs.History.{History, calls_of, AllBelow, WithinQuota}
use Rattle.turn_gate.proofs.Histories.{calls_own, calls_other}

lower_still : (k n : ℕ) → k < suc n → k ≢ n → k < n
lower_still k n low apart = dite (dec_le n k) (λ (le : n ≤ k). absurd (apart (omega arith))) (λ more. lt_of_not-le more)

module _ {O R : Type 0} where
  -- how many calls the callers below n made
  calls_below : ℕ → History O R → ℕ
  calls_below zero H = 0
  calls_below (suc n) H = calls_below n H + length (calls_of n H)

  one_above : (n : ℕ) (e : Entry O R) (H : History O R) → n ≤ e.who → calls_below n (e ∷ H) ≡ calls_below n H
  unfolding calls_below
  one_above zero e H above = refl
  one_above (suc n) e H above =
      let lower = one_above n e H (omega arith) in
      let same = ap length (calls_other n e H (λ is. omega arith)) in omega arith

  one_below : (n : ℕ) (e : Entry O R) (H : History O R) → e.who < n → calls_below n (e ∷ H) ≡ calls_below n H + 1
  unfolding calls_below
  one_below zero e H low = absurd (omega arith)
  one_below (suc n) e H low = dite (ℕ_discrete e.who n)
      (λ (is : e.who ≡ n). let lower = one_above n e H (omega arith) in let more = ap length (calls_own n e H is) in omega arith)
      (λ (no : e.who ≢ n). let lower = one_below n e H (lower_still e.who n low no) in let same = ap length (calls_other n e H no) in omega arith)

  all_below : (n : ℕ) (H : History O R) → AllBelow n H → length H ≡ calls_below n H
  unfolding calls_below
  all_below n [] b = none n
    where
      none : (n : ℕ) → 0 ≡ calls_below n []
      none zero = refl
      none (suc n) = let lower = none n in omega arith
  all_below n (e ∷ H) b = let rest = all_below n H b.1 in let one = one_below n e H b.0 in omega arith

  at_most : (n quota : ℕ) (H : History O R) → WithinQuota quota H → calls_below n H ≤ n * quota
  unfolding calls_below
  at_most zero quota H within = omega arith
  at_most (suc n) quota H within = let lower = at_most n quota H within in let one = within n in omega (arith, suc-mul n quota)

  fewer : (n quota who : ℕ) (H : History O R) → WithinQuota quota H → who < n → length (calls_of who H) < quota → calls_below n H < n * quota
  unfolding calls_below
  fewer zero quota who H within low less = absurd (omega arith)
  fewer (suc n) quota who H within low less = dite (ℕ_discrete who n)
      (λ (is : who ≡ n). let lower = at_most n quota H within in let one : length (calls_of n H) < quota = subst (λ k. length (calls_of k H) < quota) is less in omega (arith, suc-mul n quota))
      (λ (no : who ≢ n). let lower = fewer n quota who H within (lower_still who n low no) less in let one = within n in omega (arith, suc-mul n quota))

  pub quotas_bound : (seats quota : ℕ) (H : History O R) → AllBelow seats H → WithinQuota quota H → length H ≤ seats * quota
  quotas_bound seats quota H below within = let all = all_below seats H below in let most = at_most seats quota H within in omega arith

  pub quotas_leave_room : (seats quota who : ℕ) (H : History O R) → AllBelow seats H → WithinQuota quota H → who < seats → length (calls_of who H) < quota → length H < seats * quota
  quotas_leave_room seats quota who H below within low less = let all = all_below seats H below in let most = fewer seats quota who H within low less in omega arith
