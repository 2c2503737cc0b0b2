-- What is known when seats are joined into one, and of the last state.
use Rattle.std.proofs.Common.{◌≡◌, ◌⊎◌, ℕ, ◌<◌, length, List, [], ◌∷◌, ◌++◌, Option, Some, Bool, true, false, All, refl, sym, ap, ◌∙◌, subst, ⊎_elim, inl, inr, arith}
use mathlib.Core.Option as maybe
use mathlib.Core.Option.{some-injective, some-ne-none}
use lib.ListN.{get_elem?}
use Rattle.atomic_table.specs.Table.{State, Me, Final, Seen}
use Rattle.atomic_table.proofs.Lists.{at_longer}
use Rattle.turn_gate.specs.declared.entry.Terms.{Terms}
use Rattle.turn_gate.specs.declared.entry.Ticket.{Ticket}
use Rattle.turn_gate.specs.declared.rule.View.{View}
use Rattle.turn_gate.specs.History.{History, Extends, calls_of}
use Rattle.turn_gate.specs.Rule.{Looks, Ruled, HasNumber, joined}
use Rattle.turn_gate.specs.Callers.{Caller, own_of}
use Rattle.turn_gate.specs.Ends.{IsGathered, Closes, IsPartOf, SomeCaller}
use Rattle.turn_gate.proofs.Histories.{below_more}
use Rattle.turn_gate.proofs.Seats.{extends_both}
use Rattle.turn_gate.proofs.Views.{one_there, behind}
use Rattle.std.proofs.lemmas.List.Elements.{All-head, All-tail, All-weaker}

module _ {M S O R : Type 0} (legal : S → History O R → Type 0) (version : History O R → ℕ) where
  pub record AfterGather (v w : View S O R) (me : Me (Option M) (View S O R)) : Type 0 where
    pub first : Extends me.0.seen v.seen
    pub second : Extends me.0.seen w.seen
    pub tickets : me.0.tickets ≡ v.tickets ++ w.tickets

  pub after_gather : (v w : View S O R) (bare : List (ℕ × Option M)) (me1 me2 : Me (Option M) (View S O R)) (n : ℕ) → me1 ≡ (joined v w, bare) → Looks legal version me1 n me2 → AfterGather v w me2
  after_gather v w bare me1 me2 n is look =
      let now : me2.0.seen ≡ look.0 = ap (λ (m : Me (Option M) (View S O R)). m.0.seen) look.1 in record {
        first = subst (λ (H : History O R). Extends H v.seen) (sym now) (subst (Extends look.0) (ap (λ (m : Me (Option M) (View S O R)). m.0.seen) is) look.2.seen);
        second = subst (λ (H : History O R). Extends H w.seen) (sym now) (subst (Extends look.0) (ap (λ (m : Me (Option M) (View S O R)). m.0.told) is) look.2.told);
        tickets = ap (λ (m : Me (Option M) (View S O R)). m.0.tickets) look.1 ∙ ap (λ (m : Me (Option M) (View S O R)). m.0.tickets) is;
      }

  pub gathers_new : (v w : View S O R) (me : Me (Option M) (View S O R)) (number : ℕ) (c : Caller S O R) → AfterGather v w me → w.tickets ≡ record { number = number; calls = own_of w.tickets } ∷ [] → w.seen ≡ c.seen → number ≡ c.number → own_of w.tickets ≡ c.own → IsGathered me.0 c
  gathers_new v w me number c after one seen num own =
      let t : Ticket O R = record { number = c.number; calls = c.own } in
      let there : get_elem? w.tickets 0 ≡ maybe.some t = ap (λ ts. get_elem? ts 0) one ∙ ap maybe.some (λ i. record { number = num i; calls = own i }) in
      let at = behind v.tickets w.tickets 0 t there in record {
        seen = subst (Extends me.0.seen) seen after.second;
        ticket = (at.0, ap (λ ts. get_elem? ts at.0) after.tickets ∙ at.1);
      }

  pub gathers_old : (v w : View S O R) (me : Me (Option M) (View S O R)) (c : Caller S O R) → AfterGather v w me → IsGathered v c → IsGathered me.0 c
  gathers_old v w me c after old = record {
    seen = extends_both me.0.seen v.seen c.seen after.first old.seen;
    ticket = (old.ticket.0, ap (λ ts. get_elem? ts old.ticket.0) after.tickets ∙ at_longer v.tickets w.tickets old.ticket.0 (record { number = c.number; calls = c.own }) old.ticket.1);
  }

module _ {M S O R : Type 0} (stands : M → History O R → Type 0) (legal : S → History O R → Type 0) (setting : M → S) (version : History O R → ℕ) (terms : Terms S) where
  true_is : (b : Bool) → (b ≡ true) ⊎ (b ≡ false)
  true_is true = inl refl
  true_is false = inr refl

  -- where one view has all numbers and no turn, the machine is at home
  pub nobody_has_it : (s : State (Option M) (View S O R)) (r : Ruled stands legal setting version terms s) (id : ℕ) (v : View S O R) → get_elem? s.views id ≡ maybe.some v → v.turn ≡ false → ((n : ℕ) → n < terms.seats → HasNumber n v.tickets) → r.taken ≡ false
  nobody_has_it s r id v at idle all = ⊎_elim
      (λ (on : r.taken ≡ true).
      let h = r.held on in
      let mine = r.each r.holder h.0 h.1 in
      let named = (mine.turn h.2).3 in
      let low = mine.tickets named.1.0 named.1.1 named.1.2 in
      let n : ℕ = named.0 in
      let below : n < terms.seats = (let a = low.0 in let b = r.in_reach in let c = named.1.3 in omega arith) in
      let theirs = all n below in
      let own = (r.each id v at).tickets theirs.0 theirs.1 theirs.2 in
      let same : r.holder ≡ id = sym low.1 ∙ (ap r.owner (named.1.3 ∙ sym theirs.3) ∙ own.1) in
      let one : h.0 ≡ v = one_there s.views id h.0 v (ap (get_elem? s.views) (sym same) ∙ h.1) at in
      let turn : v.turn ≡ true = ap (λ (u : View S O R). u.turn) (sym one) ∙ h.2 in
      absurd (cc (turn, idle)))
      (λ (off : r.taken ≡ false). off)
      (true_is r.taken)

  pub ends_it : (id : ℕ) (v : View S O R) (words : List ℕ) (slots : List (Option M)) → v.turn ≡ false → ((n : ℕ) → n < terms.seats → HasNumber n v.tickets) → Final (Seen (Ruled stands legal setting version terms) id v) words slots
      → (k : M) × (get_elem? slots 0 ≡ maybe.some (Some k)) × Closes stands legal setting terms v k
  ends_it id v words slots idle all last =
      let s : State (Option M) (View S O R) = last.0 in
      let r = last.1.0 in
      let at = last.1.1 in
      let f = r.each id v at in
      let home = r.home (nobody_has_it s r id v at idle all) in (
        home.0,
        last.4 0 (Some home.0) (ap (λ hs. get_elem? hs 0) home.1),
        (
          r.log,
          record { stood = home.2; set = home.3; legal_history = r.legal_log; below = below_more r.numbers terms.seats r.log r.in_reach r.below; quotas = r.quotas },
          f.seen,
          λ k t there. (f.tickets k t there).2,
        ),
      )

module _ {S O R : Type 0} where
  -- the number of a gathered caller is one of the view's
  pub number_of : (n : ℕ) (v : View S O R) (cs : List (Caller S O R)) → All (IsGathered v) cs → SomeCaller n cs → HasNumber n v.tickets
  number_of n v [] all some = absurd some
  number_of n v (c ∷ cs) all some = ⊎_elim
      (λ (is : c.number ≡ n). let h = All-head (IsGathered v) c cs all in (h.ticket.0, record { number = c.number; calls = c.own }, h.ticket.1, is))
      (λ (rest : SomeCaller n cs). number_of n v cs (All-tail (IsGathered v) c cs all) rest)
      some

  pub parts_of : (v : View S O R) (H : History O R) (cs : List (Caller S O R)) → Extends H v.seen → ((k : ℕ) (t : Ticket O R) → get_elem? v.tickets k ≡ maybe.some t → calls_of t.number H ≡ t.calls) → All (IsGathered v) cs → All (IsPartOf H) cs
  parts_of v H cs later calls all = All-weaker (IsGathered v) (IsPartOf H)
      (λ c h. (extends_both H v.seen c.seen later h.seen, calls h.ticket.0 (record { number = c.number; calls = c.own }) h.ticket.1)) cs all

  pub some_callers : (n : ℕ) (cs : List (Caller S O R)) → SomeCaller n cs → 0 < length cs
  some_callers n [] some = absurd some
  some_callers n (c ∷ cs) some = omega arith
