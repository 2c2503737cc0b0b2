-- Lemmas on histories, and the one on quotas.
use Rattle.std.proofs.Common.{◌≡◌, ◌≢◌, ℕ, ◌<◌, ◌≤◌, cond, [], ◌∷◌, ◌++◌, length, refl, sym, ap, ◌∙◌, subst, arith, eq-eqb, ne_eqb, append-nil, append_assoc}
use mathlib.Core.Logic.{dite}
use native.Mathlib.Decide.{ℕ_discrete}
use Rattle.turn_gate.specs.declared.entry.Entry.{Entry}
use Rattle.turn_gate.specs.declared.entry.Ticket.{Ticket}
use Rattle.turn_gate.specs.Rule.{MayMake}
use Rattle.turn_gate.specs.History.{History, Extends, calls_of, AllBelow, WithinQuota}

module _ {O R : Type 0} where
  pub extends_same : (H : History O R) → Extends H H
  extends_same H = ([], refl)

  pub extends_none : (H : History O R) → Extends H []
  extends_none H = (H, sym (append-nil H))

  pub extends_more : (made H earlier : History O R) → Extends H earlier → Extends (made ++ H) earlier
  extends_more made H earlier x = (made ++ x.0, ap (λ (t : History O R). made ++ t) x.1 ∙ sym (append_assoc made x.0 earlier))

  pub none_extended : (earlier : History O R) → Extends [] earlier → earlier ≡ []
  none_extended [] x = refl
  none_extended (e ∷ earlier) (([], is)) = absurd (cc)
  none_extended (e ∷ earlier) ((f ∷ more, is)) = absurd (cc)

  pub below_more : (n m : ℕ) (H : History O R) → n ≤ m → AllBelow n H → AllBelow m H
  below_more n m [] le b = tt
  below_more n m (e ∷ H) le b = (omega arith, below_more n m H le b.1)

  pub calls_own : (n : ℕ) (e : Entry O R) (H : History O R) → e.who ≡ n → calls_of n (e ∷ H) ≡ e ∷ calls_of n H
  calls_own n e H is = ap (λ b. cond b (e ∷ calls_of n H) (calls_of n H)) (eq-eqb e.who n is)

  pub calls_other : (n : ℕ) (e : Entry O R) (H : History O R) → e.who ≢ n → calls_of n (e ∷ H) ≡ calls_of n H
  calls_other n e H apart = ap (λ b. cond b (e ∷ calls_of n H) (calls_of n H)) (ne_eqb e.who n apart)

  -- a number that no entry names has made no calls
  pub no_calls : (n m : ℕ) (H : History O R) → n ≤ m → AllBelow n H → calls_of m H ≡ []
  no_calls n m [] le b = refl
  no_calls n m (e ∷ H) le b = let low = b.0 in calls_other m e H (λ is. omega arith) ∙ no_calls n m H le b.1

  -- what one call with a ticket does to the calls of each number
  pub made_own : (quota : ℕ) (t : Ticket O R) (made H : History O R) → MayMake quota t made → calls_of t.number (made ++ H) ≡ made ++ calls_of t.number H
  made_own quota t [] H may = refl
  made_own quota t (e ∷ []) H may = calls_own t.number e H may.0
  made_own quota t (e ∷ f ∷ made) H may = absurd may

  pub made_other : (quota : ℕ) (t : Ticket O R) (made H : History O R) (n : ℕ) → MayMake quota t made → n ≢ t.number → calls_of n (made ++ H) ≡ calls_of n H
  made_other quota t [] H n may apart = refl
  made_other quota t (e ∷ []) H n may apart = calls_other n e H (λ is. apart (sym is ∙ may.0))
  made_other quota t (e ∷ f ∷ made) H n may apart = absurd may

  pub made_below : (quota numbers : ℕ) (t : Ticket O R) (made H : History O R) → MayMake quota t made → t.number < numbers → AllBelow numbers H → AllBelow numbers (made ++ H)
  made_below quota numbers t [] H may low b = b
  made_below quota numbers t (e ∷ []) H may low b = (subst (λ n. n < numbers) (sym may.0) low, b)
  made_below quota numbers t (e ∷ f ∷ made) H may low b = absurd may

  made_fits : (quota : ℕ) (t : Ticket O R) (made : History O R) → MayMake quota t made → length t.calls ≤ quota → length (made ++ t.calls) ≤ quota
  made_fits quota t [] may h = h
  made_fits quota t (e ∷ []) may h = let low = may.1 in omega arith
  made_fits quota t (e ∷ f ∷ made) may h = absurd may

  pub made_quotas : (quota : ℕ) (t : Ticket O R) (made H : History O R) → MayMake quota t made → calls_of t.number H ≡ t.calls → WithinQuota quota H → WithinQuota quota (made ++ H)
  made_quotas quota t made H may is within n = dite (ℕ_discrete n t.number)
      (λ (same : n ≡ t.number). subst (λ k. length (calls_of k (made ++ H)) ≤ quota) (sym same)
      (subst (λ (cs : History O R). length cs ≤ quota) (sym (made_own quota t made H may ∙ ap (λ (cs : History O R). made ++ cs) is))
      (made_fits quota t made may (subst (λ (cs : History O R). length cs ≤ quota) is (within t.number)))))
      (λ (apart : n ≢ t.number). subst (λ (cs : History O R). length cs ≤ quota) (sym (made_other quota t made H n may apart)) (within n))
