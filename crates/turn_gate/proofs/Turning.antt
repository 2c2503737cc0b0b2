-- From what a seat knows before a call to what it knows after.
use Rattle.std.proofs.Common.{◌≡◌, ◌⊎◌, ℕ, ◌+◌, ◌*◌, ◌/◌, ◌%◌, ◌<◌, ◌≤◌, length, List, [], ◌∷◌, ◌++◌, Option, Some, None, Bool, true, false, refl, sym, ap, ◌∙◌, subst, ⊎_elim, arith, append-nil}
use lib.ListN.{get_elem?}
use Rattle.atomic_table.specs.Table.{Me, rest}
use Rattle.turn_gate.specs.declared.entry.Entry.{Entry}
use Rattle.turn_gate.specs.declared.entry.Terms.{Terms}
use Rattle.turn_gate.specs.declared.entry.Ticket.{Ticket}
use Rattle.turn_gate.specs.declared.rule.View.{View}
use Rattle.turn_gate.specs.History.{History, Extends}
use Rattle.turn_gate.specs.Rule.{Orderly, HasTurn, Looks, MayMake, MayRelease, HasNumber, head_word, joined, split_off, written}
use Rattle.turn_gate.specs.Callers.{InOrder, Seated, own_of}
use Rattle.turn_gate.proofs.Histories.{made_own, made_below, made_quotas}
use Rattle.turn_gate.proofs.Quotas.{quotas_bound, quotas_leave_room}

pub version_of_word : (b : Bool) (count version word : ℕ) → word ≡ head_word b count version → count < 2147483648 → word / 4294967296 ≡ version
version_of_word false count version word is small = omega arith
version_of_word true count version word is small = omega arith

pub count_of_word : (b : Bool) (count version word : ℕ) → word ≡ head_word b count version → count < 2147483648 → word % 4294967296 / 2 ≡ count
count_of_word false count version word is small = omega arith
count_of_word true count version word is small = omega arith

pub order_of : {S O R : Type 0} (legal : S → History O R → Type 0) (terms : Terms S) (number : ℕ) (tickets : List (Ticket O R)) (H : History O R) → tickets ≡ record { number = number; calls = own_of tickets } ∷ [] → Orderly legal terms tickets H → InOrder legal terms number H (own_of tickets)
order_of legal terms number tickets H one o =
    let own = o.calls 0 (record { number = number; calls = own_of tickets }) (ap (λ ts. get_elem? ts 0) one) in record {
      legal_seen = o.legal_seen;
      below = o.below;
      quotas = o.quotas;
      own_calls = own.1;
      in_reach = own.0;
    }

-- what lies in the slot that was taken last
held : {M : Type 0} → List (ℕ × Option M) → Option M
held [] = None
held (x ∷ xs) = x.1

module _ {M S O R : Type 0} (legal : S → History O R → Type 0) where
  pub has_number : (number : ℕ) (me : Me (Option M) (View S O R)) → Seated legal number me → (n : ℕ) × HasNumber n me.0.tickets
  has_number number me s = (number, (0, record { number = number; calls = own_of me.0.tickets }, ap (λ ts. get_elem? ts 0) s.ticket, refl))

  module _ (version : History O R → ℕ) where
    pub look_seated : (number n : ℕ) (me me' : Me (Option M) (View S O R)) → Seated legal number me → Looks legal version me n me' → Seated legal number me'
    look_seated number n me me' s look = subst (Seated legal number) (sym look.1) (record {
      bare = s.bare;
      idle = s.idle;
      quiet = refl;
      ticket = s.ticket;
      in_order = λ t known. order_of legal t number me.0.tickets look.0 s.ticket (look.2.orderly t known);
    })

    pub look_version : (number n : ℕ) (terms : Terms S) (me me' : Me (Option M) (View S O R)) → me.0.terms ≡ Some terms → terms.seats * terms.quota < 2147483648 → Looks legal version me n me' → n / 4294967296 ≡ version me'.0.seen
    look_version number n terms me me' known small look =
        let o = look.2.orderly terms known in
        let fits = quotas_bound terms.seats terms.quota look.0 o.below o.quotas in
        version_of_word look.2.counted.0 (length look.0) (version look.0) n look.2.counted.1 (omega arith) ∙ ap (λ (m : Me (Option M) (View S O R)). version m.0.seen) (sym look.1)

    pub look_count : (n : ℕ) (terms : Terms S) (me me' : Me (Option M) (View S O R)) → me.0.terms ≡ Some terms → terms.seats * terms.quota < 2147483648 → Looks legal version me n me' → n % 4294967296 / 2 ≡ length me'.0.seen
    look_count n terms me me' known small look =
        let o = look.2.orderly terms known in
        let fits = quotas_bound terms.seats terms.quota look.0 o.below o.quotas in
        count_of_word look.2.counted.0 (length look.0) (version look.0) n look.2.counted.1 (omega arith) ∙ ap (λ (m : Me (Option M) (View S O R)). length m.0.seen) (sym look.1)

    pub seated_order : (number : ℕ) (terms : Terms S) (me : Me (Option M) (View S O R)) → me.0.terms ≡ Some terms → Seated legal number me → InOrder legal terms number me.0.seen (own_of me.0.tickets)
    seated_order number terms me known s = s.in_order terms known

    module _ (stands : M → History O R → Type 0) (setting : M → S) (terms : Terms S) where
      pub turn_count : (before : View S O R) (me : Me (Option M) (View S O R)) (found : ℕ) → terms.seats * terms.quota < 2147483648 → HasTurn stands legal setting version terms before me found → found % 4294967296 / 2 ≡ length me.0.seen
      turn_count before me found small t =
          let fits = quotas_bound terms.seats terms.quota me.0.seen t.orderly.below t.orderly.quotas in
          count_of_word false (length me.0.seen) (version me.0.seen) found t.word (omega arith)

      pub turn_version : (before : View S O R) (me : Me (Option M) (View S O R)) (found : ℕ) → terms.seats * terms.quota < 2147483648 → HasTurn stands legal setting version terms before me found → found / 4294967296 ≡ version me.0.seen
      turn_version before me found small t =
          let fits = quotas_bound terms.seats terms.quota me.0.seen t.orderly.below t.orderly.quotas in
          version_of_word false (length me.0.seen) (version me.0.seen) found t.word (omega arith)

      -- the history that was seen with the turn has room for one call more
      pub turn_room : (number found : ℕ) (me0 me : Me (Option M) (View S O R)) → Seated legal number me0 → HasTurn stands legal setting version terms me0.0 me found → length (own_of me0.0.tickets) < terms.quota → length me.0.seen < terms.seats * terms.quota
      turn_room number found me0 me s t less =
          let o = order_of legal terms number me0.0.tickets me.0.seen s.ticket t.orderly in
          quotas_leave_room terms.seats terms.quota number me.0.seen o.below o.quotas o.in_reach (subst (λ (cs : History O R). length cs < terms.quota) (sym o.own_calls) less)

      -- the machine that the seat has, by what the slot gave
      pub turn_machine : (before : View S O R) (me : Me (Option M) (View S O R)) (found : ℕ) (k : M) → HasTurn stands legal setting version terms before me found → me.1 ≡ (0, Some k) ∷ rest me.1 → stands k me.0.seen × (setting k ≡ terms.setting)
      unfolding held
      turn_machine before me found k t took =
          let slot : Some t.machine.0 ≡ Some k = ap held (sym t.machine.1 ∙ took) in
          let same : t.machine.0 ≡ k = cc in
          (subst (λ (m : M). stands m me.0.seen) same t.machine.2, ap setting (sym same) ∙ t.machine.3)

      pub may_release : (number found new : ℕ) (me0 me1 me2 : Me (Option M) (View S O R)) (made : History O R) (k : M) → Seated legal number me0 → HasTurn stands legal setting version terms me0.0 me1 found → me2 ≡ (me1.0, (0, Some k) ∷ [])
          → stands k (made ++ me1.0.seen) → setting k ≡ terms.setting → legal terms.setting (made ++ me1.0.seen) → version (made ++ me1.0.seen) ≤ length (made ++ me1.0.seen)
          → MayMake terms.quota (record { number = number; calls = own_of me0.0.tickets }) made → new ≡ head_word false (length (made ++ me1.0.seen)) (version (made ++ me1.0.seen))
          → MayRelease stands legal setting version terms me2 made new
      may_release number found new me0 me1 me2 made k s t is stood set lawful vers may word = subst (λ (m : Me (Option M) (View S O R)). MayRelease stands legal setting version terms m made new) (sym is) (record {
        turn = ap (λ (v : View S O R). v.turn) t.view;
        ticket = (record { number = number; calls = own_of me0.0.tickets }, ap (λ (v : View S O R). v.tickets) t.view ∙ s.ticket, may);
        machine = (k, refl, stood, set);
        legal_made = lawful;
        versions = vers;
        word = word;
      })

      -- what is known after a release
      pub record After (number : ℕ) (me0 me1 : Me (Option M) (View S O R)) (made : History O R) (me3 : Me (Option M) (View S O R)) : Type 0 where
        pub seated : Seated legal number me3
        pub seen : me3.0.seen ≡ made ++ me1.0.seen
        pub own : own_of me3.0.tickets ≡ made ++ own_of me0.0.tickets
        pub terms_same : me3.0.terms ≡ me0.0.terms
        pub order : InOrder legal terms number me3.0.seen (own_of me3.0.tickets)

      pub after_release : (number found new : ℕ) (me0 me1 me2 me3 : Me (Option M) (View S O R)) (made : History O R) (x : Option M) → me0.0.terms ≡ Some terms → Seated legal number me0 → HasTurn stands legal setting version terms me0.0 me1 found → me2 ≡ (me1.0, (0, x) ∷ [])
          → legal terms.setting (made ++ me1.0.seen) → MayMake terms.quota (record { number = number; calls = own_of me0.0.tickets }) made
          → me3 ≡ (record me2.0 { tickets = written made me2.0.tickets; seen = made ++ me2.0.seen; turn = false }, rest me2.1) → After number me0 me1 made me3
      after_release number found new me0 me1 me2 me3 made x known s t is lawful may done =
          let ticket : Ticket O R = record { number = number; calls = own_of me0.0.tickets } in
          let o = order_of legal terms number me0.0.tickets me1.0.seen s.ticket t.orderly in
          let tickets : me1.0.tickets ≡ ticket ∷ [] = ap (λ (v : View S O R). v.tickets) t.view ∙ s.ticket in
          let now : me3 ≡ (record me1.0 { tickets = record ticket { calls = made ++ ticket.calls } ∷ []; seen = made ++ me1.0.seen; turn = false }, []) =
          done ∙ (ap (λ (m : Me (Option M) (View S O R)). (record m.0 { tickets = written made m.0.tickets; seen = made ++ m.0.seen; turn = false }, rest m.1)) is
          ∙ ap (λ (ts : List (Ticket O R)). (record me1.0 { tickets = written made ts; seen = made ++ me1.0.seen; turn = false }, [])) tickets) in
          let ordered : InOrder legal terms number (made ++ me1.0.seen) (made ++ own_of me0.0.tickets) = record {
            legal_seen = lawful;
            below = made_below terms.quota terms.seats ticket made me1.0.seen may o.in_reach o.below;
            quotas = made_quotas terms.quota ticket made me1.0.seen may o.own_calls o.quotas;
            own_calls = made_own terms.quota ticket made me1.0.seen may ∙ ap (λ (cs : History O R). made ++ cs) o.own_calls;
            in_reach = o.in_reach;
          } in
          let same_terms : me1.0.terms ≡ me0.0.terms = ap (λ (v : View S O R). v.terms) t.view in
          record {
            seated = subst (Seated legal number) (sym now) (record {
              bare = refl;
              idle = refl;
              quiet = ap (λ (v : View S O R). v.told) t.view;
              ticket = refl;
              in_order = λ t' known'. subst (λ (y : Terms S). InOrder legal y number (made ++ me1.0.seen) (made ++ own_of me0.0.tickets)) (cc (known, known', same_terms)) ordered;
            });
            seen = ap (λ (m : Me (Option M) (View S O R)). m.0.seen) now;
            own = ap (λ (m : Me (Option M) (View S O R)). own_of m.0.tickets) now;
            terms_same = ap (λ (m : Me (Option M) (View S O R)). m.0.terms) now ∙ same_terms;
            order = subst (λ (m : Me (Option M) (View S O R)). InOrder legal terms number m.0.seen (own_of m.0.tickets)) (sym now) ordered;
          }

      -- the machine was taken out of the slot, and another value was put in
      pub swapped : (me1 meA meB : Me (Option M) (View S O R)) (k : M) (x y : Option M) → me1.1 ≡ (0, Some k) ∷ [] → meA ≡ (me1.0, (0, x) ∷ rest me1.1) → meB ≡ (meA.0, (0, y) ∷ rest meA.1) → meB ≡ (me1.0, (0, y) ∷ [])
      swapped me1 meA meB k x y has out back =
          back ∙ (ap (λ (m : Me (Option M) (View S O R)). (m.0, (0, y) ∷ rest m.1)) out ∙ ap (λ (cs : List (ℕ × Option M)). (me1.0, (0, y) ∷ rest cs)) has)

      -- a release after a step of the machine k, which became k'
      pub turn_release : (number found new vers : ℕ) (me0 me1 me2 : Me (Option M) (View S O R)) (e : Entry O R) (k k' : M) → terms.seats * terms.quota < 2147483648 → Seated legal number me0
          → HasTurn stands legal setting version terms me0.0 me1 found → me1.1 ≡ (0, Some k) ∷ rest me1.1 → me2 ≡ (me1.0, (0, Some k') ∷ [])
          → ((H : History O R) → stands k H → stands k' (e ∷ H)) → ((H : History O R) → stands k H → legal (setting k) (e ∷ H)) → setting k' ≡ setting k
          → ((H : History O R) → stands k H → (version (e ∷ H) ≡ version H) ⊎ (version (e ∷ H) ≡ version H + 1))
          → ((H : History O R) → stands k' H → vers ≡ version H) → e.who ≡ number → length (own_of me0.0.tickets) < terms.quota
          → new ≡ 2 * (found % 4294967296 / 2 + 1) + 4294967296 * vers
          → MayRelease stands legal setting version terms me2 (e ∷ []) new
      turn_release number found new vers me0 me1 me2 e k k' small s t slot is stood lawful set versions said mine less word =
          let H : History O R = me1.0.seen in
          let m = turn_machine me0.0 me1 found k t slot in
          let count = turn_count me0.0 me1 found small t in
          let at_most = t.versions in
          let v : vers ≡ version (e ∷ H) = said (e ∷ H) (stood H m.0) in
          may_release number found new me0 me1 me2 (e ∷ []) k' s t is (stood H m.0) (set ∙ m.1) (subst (λ (c : S). legal c (e ∷ H)) m.1 (lawful H m.0))
          (⊎_elim (λ (same : version (e ∷ H) ≡ version H). omega arith) (λ (more : version (e ∷ H) ≡ version H + 1). omega arith) (versions H m.0))
          (mine, less) (let w = word in omega arith)

      -- the history is legal with a step of the machine
      pub turn_legal : (number found : ℕ) (me0 me1 : Me (Option M) (View S O R)) (e : Entry O R) (k : M) → HasTurn stands legal setting version terms me0.0 me1 found → me1.1 ≡ (0, Some k) ∷ rest me1.1
          → ((H : History O R) → stands k H → legal (setting k) (e ∷ H)) → legal terms.setting (e ∷ me1.0.seen)
      turn_legal number found me0 me1 e k t slot lawful = let m = turn_machine me0.0 me1 found k t slot in subst (λ (c : S). legal c (e ∷ me1.0.seen)) m.1 (lawful me1.0.seen m.0)

module _ {M S O R : Type 0} (legal : S → History O R → Type 0) (version : History O R → ℕ) where
  -- what is known of a seat that was told what another has seen
  pub record Told (number : ℕ) (me : Me (Option M) (View S O R)) (other : View S O R) (me' : Me (Option M) (View S O R)) : Type 0 where
    pub seated : Seated legal number me'
    pub seen : Extends me'.0.seen me.0.seen
    pub told : Extends me'.0.seen other.seen
    pub own : own_of me'.0.tickets ≡ own_of me.0.tickets
    pub terms_same : me'.0.terms ≡ me.0.terms

  pub after_tell : (number : ℕ) (me me' : Me (Option M) (View S O R)) (other : View S O R) → Seated legal number me → (n : ℕ) × Looks legal version (joined me.0 (split_off other), me.1) n me' → Told number me other me'
  after_tell number me me' other s look =
      let H : History O R = look.1.0 in
      let tickets : me.0.tickets ++ [] ≡ me.0.tickets = append-nil me.0.tickets in
      let now : me' ≡ (record me.0 { seen = H; told = [] }, me.1) = look.1.1 ∙ ap (λ (ts : List (Ticket O R)). (record me.0 { tickets = ts; seen = H; told = [] }, me.1)) tickets in
      record {
        seated = subst (Seated legal number) (sym now) (record {
          bare = s.bare;
          idle = s.idle;
          quiet = refl;
          ticket = s.ticket;
          in_order = λ t known. order_of legal t number me.0.tickets H s.ticket (subst (λ (ts : List (Ticket O R)). Orderly legal t ts H) tickets (look.1.2.orderly t known));
        });
        seen = subst (λ (m : Me (Option M) (View S O R)). Extends m.0.seen me.0.seen) (sym now) look.1.2.seen;
        told = subst (λ (m : Me (Option M) (View S O R)). Extends m.0.seen other.seen) (sym now) look.1.2.told;
        own = ap (λ (m : Me (Option M) (View S O R)). own_of m.0.tickets) now;
        terms_same = ap (λ (m : Me (Option M) (View S O R)). m.0.terms) now;
      }
