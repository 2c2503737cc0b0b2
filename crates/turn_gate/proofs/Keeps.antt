-- Each step keeps the rule of the turn.
use Rattle.std.proofs.Common.{◌≡◌, ◌≢◌, ◌⊎◌, ℕ, zero, suc, ◌+◌, ◌%◌, ◌<◌, ◌≤◌, eqb, Bool, true, false, List, [], ◌∷◌, ◌++◌, length, set, Option, Some, refl, sym, ap, ◌∙◌, subst, ⊎_elim, inl, inr, arith}
use Rattle.std.specs.Prelude.{slice_index, slice_set}
use mathlib.Core.Option as maybe
use lib.ListN.{get_elem?}
use prog.Atomic.{either}
use Rattle.atomic_table.specs.Table.{State, Me, step, Act, keeps, takes, gives, rest, stepped, Allows, Splits, Joins, opening}
use Rattle.turn_gate.specs.declared.entry.Terms.{Terms}
use Rattle.turn_gate.specs.declared.entry.Ticket.{Ticket}
use Rattle.turn_gate.specs.declared.rule.View.{View}
use Rattle.turn_gate.specs.History.{History, Extends, calls_of, AllBelow}
use Rattle.turn_gate.specs.Rule.{Ruled, Fits, Orderly, Sees, head_word, HasNumber, MayMake, written, fresh, newcomer, split_off, joined, spent, looked, took, released, numbered, MayRelease}
use Rattle.turn_gate.proofs.Histories.{extends_same, extends_none, extends_more, none_extended, below_more, no_calls, made_own, made_other, made_below, made_quotas}
use Rattle.turn_gate.proofs.Views.{set_at, one_there, each_set, some_set, at_append, behind, put, put_here, put_else}
use Rattle.atomic_table.proofs.Lists.{set_again, set_else, at_longer, at_snoc, exchanged}
use mathlib.Core.Option.{some-ne-none}
use mathlib.Core.Logic.{dite}
use native.Mathlib.Decide.{ℕ_discrete}

on : true ≢ false
on e = cc

-- the word is even where the taken bit is clear
pub clear_word : (b : Bool) (count version word : ℕ) → word ≡ head_word b count version → word % 2 ≡ 0 → b ≡ false
clear_word false count version word is even = refl
clear_word true count version word is even = absurd (omega arith)

taken_word : (b : Bool) (count version word : ℕ) → b ≡ false → word ≡ head_word b count version → word + 1 ≡ head_word true count version
taken_word false count version word off is = omega arith
taken_word true count version word off is = absurd (on off)

module _ {M S O R : Type 0} (stands : M → History O R → Type 0) (legal : S → History O R → Type 0) (setting : M → S) (version : History O R → ℕ) (terms : Terms S) where
  abbrev V : Type 0
  V = View S O R

  abbrev St : Type 0
  St = State (Option M) V

  abbrev Law : St → Type 0
  Law = Ruled stands legal setting version terms

  -- what a look at the counted history tells
  sees : (s : St) (r : Law s) (id : ℕ) (v : V) → get_elem? s.views id ≡ maybe.some v → Sees legal version v (slice_index s.words 0) r.log
  sees s r id v at = let f = r.each id v at in record {
    seen = f.seen;
    told = f.told;
    counted = (r.taken, ap (λ ws. slice_index ws 0) r.words);
    versions = r.versions;
    orderly = λ t is. subst (λ (t' : Terms S). Orderly legal t' v.tickets r.log) (sym (f.knows t is)) (record {
      legal_seen = r.legal_log;
      below = below_more r.numbers terms.seats r.log r.in_reach r.below;
      quotas = r.quotas;
      calls = λ k t at'. let g = f.tickets k t at' in let reach = r.in_reach in let low = g.0 in (omega arith, g.2);
    });
  }

  pub looks : (slots id : ℕ) (me : Me (Option M) V) → Allows Law slots id me 0 (λ n. n) (looked legal version (step slots 0 0 0 maybe.none) me)
  looks slots id me s r deep at small =
      let v = me.0 in let w : V = record v { seen = r.log; told = [] } in let f = r.each id v at in (
        w,
        keeps,
        tt,
        record {
          log = r.log;
          numbers = r.numbers;
          taken = r.taken;
          owner = r.owner;
          holder = r.holder;
          legal_log = r.legal_log;
          words = ap (λ ws. slice_set ws 0 (slice_index ws 0)) r.words;
          versions = r.versions;
          whole = (id, w, set_at s.views id v w at, inl refl);
          in_reach = r.in_reach;
          owned = λ n low. let o = r.owned n low in some_set (λ u. HasNumber n u.tickets) s.views id v w at (λ h. h) (r.owner n) o.0 o.1 o.2;
          below = r.below;
          quotas = r.quotas;
          held = λ t. let h = r.held t in some_set (λ u. u.turn ≡ true) s.views id v w at (λ k. k) r.holder h.0 h.1 h.2;
          home = r.home;
          out = r.out;
          each = each_set (Fits terms r.log r.numbers r.owner r.taken r.holder) s.views id w (λ j u apart e. r.each j u e) (record {
            seen = extends_same r.log;
            told = extends_none r.log;
            knows = f.knows;
            tickets = f.tickets;
            turn = λ t. let g = f.turn t in (g.0, g.1, refl, g.3);
          });
        },
        (r.log, refl, sees s r id v at),
      )

  pub takes_it : (slots id old : ℕ) (me : Me (Option M) V) → old % 2 ≡ 0 → me.1 ≡ [] → (n : ℕ) × HasNumber n me.0.tickets
      → Allows Law slots id me 0 (λ n. either (eqb n old) (old + 1) n) (took legal version stands setting (step slots 0 old (old + 1) maybe.none) me)
  takes_it slots id old me even bare named s r deep at small =
      let v = me.0 in let f = r.each id v at in let n : ℕ = slice_index s.words 0 in
      exchanged n old (old + 1) (λ x. (w : V) × (a : Act (Option M)) × Rattle.atomic_table.specs.Table.Valid s.homes me.1 a × Law (stepped s 0 x id me.1 w a) × took legal version stands setting (step slots 0 old (old + 1) maybe.none) me n (w, Rattle.atomic_table.specs.Table.carried_after me.1 a))
      (λ (hit : n ≡ old).
      let counts : n ≡ head_word r.taken (length r.log) (version r.log) = ap (λ ws. slice_index ws 0) r.words in
      let off : r.taken ≡ false = clear_word r.taken (length r.log) (version r.log) n counts (ap (λ k. k % 2) hit ∙ even) in
      let next : old + 1 ≡ head_word true (length r.log) (version r.log) = taken_word r.taken (length r.log) (version r.log) old off (sym hit ∙ counts) in
      let h = r.home off in
      let w : V = record v { seen = r.log; told = []; turn = true } in (
        w,
        takes 0 (Some h.0),
        ap (λ hs. get_elem? hs 0) h.1,
        record {
          log = r.log;
          numbers = r.numbers;
          taken = true;
          owner = r.owner;
          holder = id;
          legal_log = r.legal_log;
          words = ap (λ ws. slice_set ws 0 (old + 1)) r.words ∙ ap (λ k. k ∷ r.numbers ∷ []) next;
          versions = r.versions;
          whole = (id, w, set_at s.views id v w at, inl refl);
          in_reach = r.in_reach;
          owned = λ k low. let o = r.owned k low in some_set (λ u. HasNumber k u.tickets) s.views id v w at (λ y. y) (r.owner k) o.0 o.1 o.2;
          below = r.below;
          quotas = r.quotas;
          held = λ _. (w, set_at s.views id v w at, refl);
          home = λ no. absurd (on no);
          out = λ _. ap (λ hs. slice_set hs 0 maybe.none) h.1;
          each = each_set (Fits terms r.log r.numbers r.owner true id) s.views id w
              (λ j u apart e. let g = r.each j u e in record { seen = g.seen; told = g.told; knows = g.knows; tickets = g.tickets; turn = λ t. absurd (on (sym (g.turn t).0 ∙ off)) })
              (record { seen = extends_same r.log; told = extends_none r.log; knows = f.knows; tickets = f.tickets; turn = λ _. (refl, refl, refl, named) });
        },
        (λ _. (r.log, h.0, refl, sees s r id v at, h.2, λ t is. h.3 ∙ ap (λ (y : Terms S). y.setting) (sym (f.knows t is))), λ miss. absurd (miss hit)),
      ))
      (λ (miss : n ≢ old). let seen = looks slots id me s r deep at small in (seen.0, seen.1, seen.2, seen.3, (λ hit. absurd (miss hit), λ _. seen.4)))

  pub releases_it : (slots id new : ℕ) (me : Me (Option M) V) (made : History O R) → MayRelease stands legal setting version terms me made new
      → Allows Law slots id me 0 (λ _. new) (released made (step slots 0 new 0 maybe.none) me)
  releases_it slots id new me made may s r deep at small =
      let v = me.0 in let f = r.each id v at in let mine = f.turn may.turn in
      let t : Ticket O R = may.ticket.0 in let one : v.tickets ≡ t ∷ [] = may.ticket.1 in let own : MayMake terms.quota t made = may.ticket.2 in
      let k : M = may.machine.0 in
      let log : History O R = made ++ r.log in
      let is : made ++ v.seen ≡ log = ap (λ (H : History O R). made ++ H) mine.2 in
      let held : (t.number < r.numbers) × (r.owner t.number ≡ id) × (calls_of t.number r.log ≡ t.calls) = f.tickets 0 t (ap (λ ts. get_elem? ts 0) one) in
      let w : V = record v { tickets = written made v.tickets; seen = made ++ v.seen; turn = false } in
      let ts : List (Ticket O R) = record t { calls = made ++ t.calls } ∷ [] in
      let now : w.tickets ≡ ts = ap (written made) one in (
        w,
        gives,
        tt,
        record {
          log = log;
          numbers = r.numbers;
          taken = false;
          owner = r.owner;
          holder = r.holder;
          legal_log = subst (legal terms.setting) is may.legal_made;
          words = ap (λ ws. slice_set ws 0 new) r.words ∙ ap (λ n. n ∷ r.numbers ∷ []) (may.word ∙ ap (λ (H : History O R). head_word false (length H) (version H)) is);
          versions = subst (λ (H : History O R). version H ≤ length H) is may.versions;
          whole = (id, w, set_at s.views id v w at, inl is);
          in_reach = r.in_reach;
          owned = λ n low. let o = r.owned n low in some_set (λ u. HasNumber n u.tickets) s.views id v w at
              (λ h. renumbers made v.tickets t one n h) (r.owner n) o.0 o.1 o.2;
          below = made_below terms.quota r.numbers t made r.log own held.0 r.below;
          quotas = made_quotas terms.quota t made r.log own held.2 r.quotas;
          held = λ yes. absurd (on (sym yes));
          home = λ _. (k, ap (λ c. Rattle.atomic_table.specs.Table.put_back s.homes c) may.machine.1 ∙ ap (λ hs. slice_set hs 0 (maybe.some (Some k))) (r.out mine.0), subst (stands k) is may.machine.2, may.machine.3);
          out = λ yes. absurd (on (sym yes));
          each = each_set (Fits terms log r.numbers r.owner false r.holder) s.views id w
              (λ j u apart e. let g = r.each j u e in record {
                seen = extends_more made r.log u.seen g.seen;
                told = extends_more made r.log u.told g.told;
                knows = g.knows;
                tickets = λ i y there. let h = g.tickets i y there in
                    (h.0, h.1, made_other terms.quota t made r.log y.number own (λ same. apart (sym h.1 ∙ ap r.owner same ∙ held.1)) ∙ h.2);
                turn = λ theirs. absurd (apart (sym (g.turn theirs).1 ∙ mine.1));
              })
              (record {
                seen = subst (λ (H : History O R). Extends log H) (sym is) (extends_same log);
                told = extends_more made r.log v.told f.told;
                knows = f.knows;
                tickets = λ i y there. only_ticket log t made ts (r.numbers) r.owner id refl held.0 held.1 (made_own terms.quota t made r.log own ∙ ap (λ (cs : History O R). made ++ cs) held.2) i y (ap (λ us. get_elem? us i) (sym now) ∙ there);
                turn = λ yes. absurd (on (sym yes));
              });
        },
        refl,
      )
    where
      renumbers : (made : History O R) (us : List (Ticket O R)) (t : Ticket O R) → us ≡ t ∷ [] → (n : ℕ) → HasNumber n us → HasNumber n (written made us)
      renumbers made us t one n h = subst (λ (xs : List (Ticket O R)). HasNumber n (written made xs)) (sym one) (first_of_one made t n (subst (HasNumber n) one h))
        where
          first_of_one : (made : History O R) (t : Ticket O R) (n : ℕ) → HasNumber n (t ∷ []) → HasNumber n (written made (t ∷ []))
          first_of_one made t n ((zero, u, at, is)) = (0, record t { calls = made ++ t.calls }, refl, ap (λ (x : Ticket O R). x.number) (maybe.some-injective t u at) ∙ is)
          first_of_one made t n ((suc k, u, at, is)) = absurd (some-ne-none u (sym at))

      only_ticket : (log : History O R) (t : Ticket O R) (made : History O R) (ts : List (Ticket O R)) (numbers : ℕ) (owner : ℕ → ℕ) (id : ℕ) → ts ≡ record t { calls = made ++ t.calls } ∷ []
          → t.number < numbers → owner t.number ≡ id → calls_of t.number log ≡ made ++ t.calls
          → (i : ℕ) (y : Ticket O R) → get_elem? (record t { calls = made ++ t.calls } ∷ []) i ≡ maybe.some y → (y.number < numbers) × (owner y.number ≡ id) × (calls_of y.number log ≡ y.calls)
      only_ticket log t made ts numbers owner id same low own calls zero y e =
          subst (λ (x : Ticket O R). (x.number < numbers) × (owner x.number ≡ id) × (calls_of x.number log ≡ x.calls)) (maybe.some-injective _ y e) (low, own, calls)
      only_ticket log t made ts numbers owner id same low own calls (suc i) y e = absurd (some-ne-none y (sym e))

  pub splits_it : (id : ℕ) (v : V) → Splits Law id v v (split_off v)
  splits_it id v s r at =
      let f = r.each id v at in let w : V = split_off v in
      subst (λ (vs : List V). Law (record { words = s.words; homes = s.homes; views = vs ++ w ∷ [] })) (sym (set_again s.views id v at))
      (record {
        log = r.log;
        numbers = r.numbers;
        taken = r.taken;
        owner = r.owner;
        holder = r.holder;
        legal_log = r.legal_log;
        words = r.words;
        versions = r.versions;
        whole = let x = r.whole in (x.0, x.1, at_longer s.views (w ∷ []) x.0 x.1 x.2, x.3);
        in_reach = r.in_reach;
        owned = λ n low. let o = r.owned n low in (o.0, at_longer s.views (w ∷ []) (r.owner n) o.0 o.1, o.2);
        below = r.below;
        quotas = r.quotas;
        held = λ t. let h = r.held t in (h.0, at_longer s.views (w ∷ []) r.holder h.0 h.1, h.2);
        home = r.home;
        out = r.out;
        each = λ j u e. ⊎_elim (λ (was : get_elem? s.views j ≡ maybe.some u). r.each j u was)
            (λ (new : w ≡ u). subst (Fits terms r.log r.numbers r.owner r.taken r.holder j) new (record {
              seen = f.seen;
              told = extends_none r.log;
              knows = f.knows;
              tickets = λ k t there. absurd (some-ne-none t (sym there));
              turn = λ yes. absurd (on (sym yes));
            }))
            (at_snoc s.views w u j e);
      })

  pub numbers_it : (slots id i : ℕ) (me : Me (Option M) V) → me.0.tickets ≡ [] → me.0.turn ≡ false → i < terms.seats
      → Allows Law slots id me 1 (λ n. either (eqb n i) (i + 1) n) (numbered (step slots 1 i (i + 1) maybe.none) me)
  numbers_it slots id i me bare idle reach s r deep at small =
      let v = me.0 in let f = r.each id v at in let n : ℕ = slice_index s.words 1 in
      exchanged n i (i + 1) (λ x. (w : V) × (a : Act (Option M)) × Rattle.atomic_table.specs.Table.Valid s.homes me.1 a × Law (stepped s 1 x id me.1 w a) × numbered (step slots 1 i (i + 1) maybe.none) me n (w, Rattle.atomic_table.specs.Table.carried_after me.1 a))
      (λ (hit : n ≡ i).
      let counts : r.numbers ≡ i = sym (ap (λ ws. slice_index ws 1) r.words) ∙ hit in
      let w : V = record v { tickets = fresh i ∷ [] } in
      let owner : ℕ → ℕ = put r.owner i id in
      let lower : (k : ℕ) → k < r.numbers → k ≢ i = λ k low same. (let x = counts in omega arith) in (
        w,
        keeps,
        tt,
        record {
          log = r.log;
          numbers = i + 1;
          taken = r.taken;
          owner = owner;
          holder = r.holder;
          legal_log = r.legal_log;
          words = ap (λ ws. slice_set ws 1 (i + 1)) r.words;
          versions = r.versions;
          whole = some_set_of s.views id v w at (λ u. (u.seen ≡ r.log) ⊎ (u.told ≡ r.log)) (λ h. h) r.whole;
          in_reach = omega arith;
          owned = λ k low. dite (ℕ_discrete k i)
              (λ (same : k ≡ i). (w, ap (get_elem? (set s.views id w)) (put_here r.owner i id k same) ∙ set_at s.views id v w at, (0, fresh i, refl, sym same)))
              (λ (apart : k ≢ i). let o = r.owned k (let x = counts in omega arith) in
              subst (λ j. (u : V) × (get_elem? (set s.views id w) j ≡ maybe.some u) × HasNumber k u.tickets) (sym (put_else r.owner i id k apart))
              (some_set (λ u. HasNumber k u.tickets) s.views id v w at (λ h. absurd (no_number k v.tickets bare h)) (r.owner k) o.0 o.1 o.2));
          below = below_more r.numbers (i + 1) r.log (let x = counts in omega arith) r.below;
          quotas = r.quotas;
          held = λ t. let h = r.held t in some_set (λ u. u.turn ≡ true) s.views id v w at (λ k. k) r.holder h.0 h.1 h.2;
          home = r.home;
          out = r.out;
          each = each_set (Fits terms r.log (i + 1) owner r.taken r.holder) s.views id w
              (λ j u apart e. let g = r.each j u e in record {
                seen = g.seen;
                told = g.told;
                knows = g.knows;
                tickets = λ k t there. let h = g.tickets k t there in let low = h.0 in
                    ((let x = counts in omega arith), put_else r.owner i id t.number (lower t.number h.0) ∙ h.1, h.2);
                turn = g.turn;
              })
              (record {
                seen = f.seen;
                told = f.told;
                knows = f.knows;
                tickets = λ k t there. only_fresh i r.numbers id owner r.log (let x = counts in omega arith) (put_here r.owner i id i refl) r.below k t there;
                turn = λ yes. absurd (on (sym yes ∙ idle));
              });
        },
        (λ _. refl, λ miss. absurd (miss hit)),
      ))
      (λ (miss : n ≢ i). (
        v,
        keeps,
        tt,
        subst (λ (ws : List ℕ). Law (record { words = ws; homes = s.homes; views = set s.views id v })) (sym (ap (λ ws. slice_set ws 1 (slice_index ws 1)) r.words ∙ sym r.words))
            (subst (λ (vs : List V). Law (record { words = s.words; homes = s.homes; views = vs })) (sym (set_again s.views id v at)) r),
        (λ hit. absurd (miss hit), λ _. refl),
      ))
    where
      no_number : (k : ℕ) (ts : List (Ticket O R)) → ts ≡ [] → HasNumber k ts → ⊥
      no_number k ts none h = some-ne-none h.1 (sym h.2 ∙ ap (λ us. get_elem? us h.0) none)

      only_fresh : (i numbers id : ℕ) (owner : ℕ → ℕ) (log : History O R) → numbers ≤ i → owner i ≡ id → AllBelow numbers log
          → (k : ℕ) (t : Ticket O R) → get_elem? (fresh i ∷ []) k ≡ maybe.some t → (t.number < i + 1) × (owner t.number ≡ id) × (calls_of t.number log ≡ t.calls)
      only_fresh i numbers id owner log le own below zero t e =
          subst (λ (x : Ticket O R). (x.number < i + 1) × (owner x.number ≡ id) × (calls_of x.number log ≡ x.calls)) (maybe.some-injective _ t e) (omega arith, own, no_calls numbers i log le below)
      only_fresh i numbers id owner log le own below (suc k) t e = absurd (some-ne-none t (sym e))

      some_set_of : (l : List V) (i : ℕ) (a b : V) → get_elem? l i ≡ maybe.some a → (F : V → Type 0) → (F a → F b) → (j : ℕ) × (u : V) × (get_elem? l j ≡ maybe.some u) × F u → (j : ℕ) × (u : V) × (get_elem? (set l i b) j ≡ maybe.some u) × F u
      some_set_of l i a b at F keep x = let y = some_set F l i a b at keep x.0 x.1 x.2 x.3 in (x.0, y.0, y.1, y.2)

  pub joins_it : (id other : ℕ) (v w : V) → v.told ≡ [] → w.told ≡ [] → w.turn ≡ false → Joins Law id v other w (joined v w) spent
  joins_it id other v w quiet silent idle s r at apart there =
      let f = r.each id v at in let b : V = joined v w in
      let there' : get_elem? s.views other ≡ maybe.some w = sym (set_else s.views id other b apart) ∙ there in
      let g = r.each other w there' in
      let views : List V = set (set s.views id b) other spent in
      let owner : ℕ → ℕ = λ n. put (λ k. k) other id (r.owner n) in
      let here : get_elem? views id ≡ maybe.some b = set_else (set s.views id b) other id spent (λ e. apart (sym e)) ∙ set_at s.views id v b at in
      let stays : (j : ℕ) (u : V) → j ≢ id → j ≢ other → get_elem? s.views j ≡ maybe.some u → get_elem? views j ≡ maybe.some u =
      λ j u a a' e. set_else (set s.views id b) other j spent a' ∙ (set_else s.views id j b a ∙ e) in
      record {
        log = r.log;
        numbers = r.numbers;
        taken = r.taken;
        owner = owner;
        holder = r.holder;
        legal_log = r.legal_log;
        words = r.words;
        versions = r.versions;
        whole = let x = r.whole in
            dite (ℕ_discrete x.0 id)
            (λ (is : x.0 ≡ id). let same : v ≡ x.1 = one_there s.views id v x.1 at (ap (get_elem? s.views) (sym is) ∙ x.2) in
            (id, b, here, inl (⊎_elim (λ (e : x.1.seen ≡ r.log). ap (λ (y : V). y.seen) same ∙ e) (λ (e : x.1.told ≡ r.log). nothing_seen r.log v.seen f.seen (sym quiet ∙ (ap (λ (y : V). y.told) same ∙ e))) x.3)))
            (λ (no : x.0 ≢ id). dite (ℕ_discrete x.0 other)
            (λ (is : x.0 ≡ other). let same : w ≡ x.1 = one_there s.views other w x.1 there' (ap (get_elem? s.views) (sym is) ∙ x.2) in
            (id, b, here, inr (⊎_elim (λ (e : x.1.seen ≡ r.log). ap (λ (y : V). y.seen) same ∙ e) (λ (e : x.1.told ≡ r.log). nothing_seen r.log w.seen g.seen (sym silent ∙ (ap (λ (y : V). y.told) same ∙ e))) x.3)))
            (λ (no' : x.0 ≢ other). (x.0, x.1, stays x.0 x.1 no no' x.2, x.3)));
        in_reach = r.in_reach;
        owned = λ n low. let o = r.owned n low in
            dite (ℕ_discrete (r.owner n) other)
            (λ (is : r.owner n ≡ other). let same : w ≡ o.0 = one_there s.views other w o.0 there' (ap (get_elem? s.views) (sym is) ∙ o.1) in
            (b, ap (get_elem? views) (put_here (λ k. k) other id (r.owner n) is) ∙ here, number_behind n v.tickets w.tickets (subst (λ (y : V). HasNumber n y.tickets) (sym same) o.2)))
            (λ (no : r.owner n ≢ other). dite (ℕ_discrete (r.owner n) id)
            (λ (is : r.owner n ≡ id). let same : v ≡ o.0 = one_there s.views id v o.0 at (ap (get_elem? s.views) (sym is) ∙ o.1) in
            (b, ap (get_elem? views) (put_else (λ k. k) other id (r.owner n) no ∙ is) ∙ here, number_before n v.tickets w.tickets (subst (λ (y : V). HasNumber n y.tickets) (sym same) o.2)))
            (λ (no' : r.owner n ≢ id). (o.0, ap (get_elem? views) (put_else (λ k. k) other id (r.owner n) no) ∙ stays (r.owner n) o.0 no' no o.1, o.2)));
        below = r.below;
        quotas = r.quotas;
        held = λ t. let h = r.held t in
            let first = some_set (λ (u : V). u.turn ≡ true) s.views id v b at (λ y. y) r.holder h.0 h.1 h.2 in
            some_set (λ (u : V). u.turn ≡ true) (set s.views id b) other w spent there (λ y. absurd (on (sym y ∙ idle))) r.holder first.0 first.1 first.2;
        home = r.home;
        out = r.out;
        each = each_set (Fits terms r.log r.numbers owner r.taken r.holder) (set s.views id b) other spent
            (λ j u no e. each_set (λ (j' : ℕ) (u' : V). j' ≢ other → Fits terms r.log r.numbers owner r.taken r.holder j' u') s.views id b
            (λ j' u' a e' no'. let h = r.each j' u' e' in record {
              seen = h.seen;
              told = h.told;
              knows = h.knows;
              tickets = λ k t e''. let y = h.tickets k t e'' in (y.0, put_else (λ k. k) other id (r.owner t.number) (λ is. no' (sym y.1 ∙ is)) ∙ y.1, y.2);
              turn = h.turn;
            })
            (λ no'. record {
              seen = f.seen;
              told = g.seen;
              knows = f.knows;
              tickets = λ k t e''. ⊎_elim
                  (λ (y : (i : ℕ) × (get_elem? v.tickets i ≡ maybe.some t)). let z = f.tickets y.0 t y.1 in (z.0, put_else (λ k. k) other id (r.owner t.number) (λ is. no' (sym z.1 ∙ is)) ∙ z.1, z.2))
                  (λ (y : (i : ℕ) × (get_elem? w.tickets i ≡ maybe.some t)). let z = g.tickets y.0 t y.1 in (z.0, put_here (λ k. k) other id (r.owner t.number) z.1, z.2))
                  (at_append v.tickets w.tickets k t e'');
              turn = λ yes. let y = f.turn yes in (y.0, y.1, y.2, (y.3.0, number_before y.3.0 v.tickets w.tickets y.3.1));
            })
            j u e no)
            (record {
              seen = extends_none r.log;
              told = extends_none r.log;
              knows = λ t e. cc;
              tickets = λ k t e. absurd (some-ne-none t (sym e));
              turn = λ yes. absurd (on (sym yes));
            });
      }
    where
      nothing_seen : (log seen : History O R) → Extends log seen → [] ≡ log → seen ≡ log
      nothing_seen log seen x none = none_extended seen (subst (λ (H : History O R). Extends H seen) (sym none) x) ∙ none

      number_before : (n : ℕ) (ts us : List (Ticket O R)) → HasNumber n ts → HasNumber n (ts ++ us)
      number_before n ts us h = (h.0, h.1, at_longer ts us h.0 h.1 h.2, h.3)

      number_behind : (n : ℕ) (ts us : List (Ticket O R)) → HasNumber n us → HasNumber n (ts ++ us)
      number_behind n ts us h = let x = behind ts us h.0 h.1 h.2 in (x.0, h.1, x.1, h.3)

  -- the two words and the one slot at the start
  pub starts_it : (machine : M) → setting machine ≡ terms.setting → stands machine [] → legal terms.setting [] → version [] ≡ 0 → Law (opening (0 ∷ 0 ∷ []) (Some machine ∷ []) (newcomer terms))
  starts_it machine same stands_so is_legal zeroth = record {
    log = [];
    numbers = 0;
    taken = false;
    owner = λ n. 0;
    holder = 0;
    legal_log = is_legal;
    words = ap (λ n. n ∷ 0 ∷ []) (let z = zeroth in omega arith);
    versions = let z = zeroth in omega arith;
    whole = (0, newcomer terms, refl, inl refl);
    in_reach = omega arith;
    owned = λ n low. absurd (omega arith);
    below = tt;
    quotas = λ n. omega arith;
    held = λ yes. absurd (on (sym yes));
    home = λ _. (machine, refl, stands_so, same);
    out = λ yes. absurd (on (sym yes));
    each = first_only;
  }
    where
      first_only : (j : ℕ) (v : V) → get_elem? (newcomer terms ∷ []) j ≡ maybe.some v → Fits terms [] 0 (λ n. 0) false 0 j v
      first_only zero v e = subst (Fits terms [] 0 (λ n. 0) false 0 0) (maybe.some-injective _ v e) (record {
        seen = extends_same [];
        told = extends_same [];
        knows = λ t is. cc;
        tickets = λ k t there. absurd (some-ne-none t (sym there));
        turn = λ yes. absurd (on (sym yes));
      })
      first_only (suc j) v e = absurd (some-ne-none v (sym e))
