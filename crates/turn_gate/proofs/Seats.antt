-- What a seat knows while it waits for the turn.
use Rattle.std.proofs.Common.{◌≡◌, ℕ, ◌%◌, ◌≤◌, length, List, [], ◌∷◌, ◌++◌, Option, Some, true, false, refl, sym, ap, ◌∙◌, subst, append_assoc, append-nil}
use Rattle.atomic_table.specs.Table.{Me, Step}
use Rattle.atomic_table.specs.declared.shared.Seat.{Seat}
use Rattle.turn_gate.specs.declared.entry.Terms.{Terms}
use Rattle.turn_gate.specs.declared.entry.Ticket.{Ticket}
use Rattle.turn_gate.specs.declared.rule.View.{View}
use Rattle.turn_gate.specs.History.{History, Extends}
use Rattle.turn_gate.specs.Rule.{Orderly, HasTurn, Looks, took, head_word}
use Rattle.turn_gate.proofs.Keeps.{clear_word}

-- the seat has seen more, and else is as it was; it has no slot and was told nothing
pub record IsLater {M S O R : Type 0} (s t : Seat (Option M) (View S O R)) : Type 0 where
  pub table : t.table_id ≡ s.table_id
  pub id : t.id ≡ s.id
  pub seen : Extends t.me.0.seen s.me.0.seen
  pub me : t.me ≡ (record s.me.0 { seen = t.me.0.seen; told = [] }, [])

pub extends_both : {O R : Type 0} → (third second first : History O R) → Extends third second → Extends second first → Extends third first
extends_both {O} {R} third second first x y = (x.0 ++ y.0, x.1 ∙ (ap (λ (H : History O R). x.0 ++ H) y.1 ∙ sym (append_assoc x.0 y.0 first)))

abbrev Place : Type 0 → Type 0 → Type 0 → Type 0 → Type 0
Place M S O R = Seat (Option M) (View S O R)

module _ {M S O R : Type 0} where
  pub later_start : (s : Place M S O R) → s.me.1 ≡ [] → s.me.0.told ≡ [] → IsLater s s
  later_start s bare quiet = record {
    table = refl;
    id = refl;
    seen = ([], refl);
    me = λ i. (record s.me.0 { told = quiet i }, bare i);
  }

  module _ (legal : S → History O R → Type 0) (version : History O R → ℕ) where
    pub later_look : (s t u : Place M S O R) (n : ℕ) → IsLater s t → (u.table_id ≡ t.table_id) × (u.id ≡ t.id) → Looks legal version t.me n u.me → IsLater s u
    later_look s t u n later same look =
        let H : History O R = look.0 in let now : u.me.0.seen ≡ H = ap (λ m. m.0.seen) look.1 in record {
          table = same.0 ∙ later.table;
          id = same.1 ∙ later.id;
          seen = subst (λ (X : History O R). Extends X s.me.0.seen) (sym now) (extends_both H t.me.0.seen s.me.0.seen look.2.seen later.seen);
          me = look.1 ∙ (ap (λ (m : Me (Option M) (View S O R)). (record m.0 { seen = H; told = [] }, m.1)) later.me ∙ ap (λ (X : History O R). (record s.me.0 { seen = X; told = [] }, [])) (sym now));
        }

    -- a look of a seat that has seen more is one of the seat as it was
    pub look_later : (s t : Place M S O R) (n : ℕ) (m : Me (Option M) (View S O R)) → IsLater s t → s.me.1 ≡ [] → s.me.0.told ≡ [] → Looks legal version t.me n m → Looks legal version s.me n m
    look_later s t n m later bare quiet look =
        let H : History O R = look.0 in (
          H,
          look.1 ∙ ap (λ (k : Me (Option M) (View S O R)). (record k.0 { seen = H; told = [] }, k.1)) later.me ∙ ap (λ (X : List (ℕ × Option M)). (record s.me.0 { seen = H; told = [] }, X)) (sym bare),
          record {
            seen = extends_both H t.me.0.seen s.me.0.seen look.2.seen later.seen;
            told = subst (λ (X : History O R). Extends H X) (sym quiet) (H, sym (append-nil H));
            counted = look.2.counted;
            versions = look.2.versions;
            orderly = λ terms known. subst (λ (ts : List (Ticket O R)). Orderly legal terms ts H) (ap (λ k. k.0.tickets) later.me) (look.2.orderly terms (ap (λ k. k.0.terms) later.me ∙ known));
          },
        )

    module _ (stands : M → History O R → Type 0) (setting : M → S) (terms : Terms S) where
      pub later_take : (s t u : Place M S O R) (st : Step (Option M)) (n : ℕ) → IsLater s t → s.me.0.terms ≡ Some terms → st.first % 2 ≡ 0 → n ≡ st.first
          → took legal version stands setting st t.me n u.me → HasTurn stands legal setting version terms s.me.0 u.me n
      later_take s t u st n later known even hit take =
          let got = take.0 hit in let H : History O R = got.0 in let now : u.me.0.seen ≡ H = ap (λ m. m.0.seen) got.2 in
          let back : H ≡ u.me.0.seen = sym now in
          let terms_there : t.me.0.terms ≡ Some terms = ap (λ m. m.0.terms) later.me ∙ known in
          let off : got.3.counted.0 ≡ false = clear_word got.3.counted.0 (length H) (version H) n got.3.counted.1 (ap (λ k. k % 2) hit ∙ even) in
          record {
            seen = subst (λ (X : History O R). Extends X s.me.0.seen) back (extends_both H t.me.0.seen s.me.0.seen got.3.seen later.seen);
            view = ap (λ m. m.0) got.2 ∙ (ap (λ (m : Me (Option M) (View S O R)). record m.0 { seen = H; told = []; turn = true }) later.me ∙ ap (λ (X : History O R). record s.me.0 { seen = X; told = []; turn = true }) back);
            machine = (got.1, ap (λ m. m.1) got.2 ∙ ap (λ (m : Me (Option M) (View S O R)). (0, Some got.1) ∷ m.1) later.me, subst (stands got.1) back got.4, got.5 terms terms_there);
            word = (got.3.counted.1 ∙ ap (λ b. head_word b (length H) (version H)) off) ∙ ap (λ (X : History O R). head_word false (length X) (version X)) back;
            versions = subst (λ (X : History O R). version X ≤ length X) back got.3.versions;
            orderly = subst (λ (ts : List (Ticket O R)). Orderly legal terms ts u.me.0.seen) (ap (λ m. m.0.tickets) later.me)
                (subst (Orderly legal terms t.me.0.tickets) back (got.3.orderly terms terms_there));
          }
