-- What is known when the turns are open, when all seats are joined into one, and the machine is taken out.
use Rattle.std.specs.Prelude.{◌≡◌, ◌⊎◌, ℕ, ◌*◌, ◌<◌, ◌≤◌, List, [], ◌∷◌, false, Option, Some}
use mathlib.Core.Option as maybe
use lib.ListN.{get_elem?}
use Rattle.atomic_table.specs.Seated.{TableId}
use Rattle.atomic_table.specs.declared.shared.Seat.{Seat}
use Rattle.turn_gate.specs.declared.entry.Terms.{Terms}
use Rattle.turn_gate.specs.declared.entry.Ticket.{Ticket}
use Rattle.turn_gate.specs.declared.rule.View.{View}
use Rattle.turn_gate.specs.declared.rule.About.{About}
use Rattle.turn_gate.specs.History.{History, Extends, calls_of, AllBelow, WithinQuota}
use Rattle.turn_gate.specs.Callers.{Caller}

-- two words and one slot, for one seat or more, whose quotas together fit the machine's room
pub record IsOpen {M S : Type 0} (room : S → ℕ) (setting : M → S) (table : TableId) (about : About M) : Type 0 where
  pub words : table.words ≡ 2
  pub slots : table.slots ≡ 1
  pub some_seat : 0 < about.seats
  pub fits : about.seats * about.quota ≤ room (setting about.machine.value)
  pub small : about.seats * about.quota < 2147483648

-- a seat that takes others in: it has no slot and no turn, and was told nothing that it has not seen
pub record Gathering {M S O R : Type 0} (table : TableId) (terms : Terms S) (s : Seat (Option M) (View S O R)) : Type 0 where
  pub table_is : s.table_id ≡ table
  pub bare : s.me.1 ≡ []
  pub idle : s.me.0.turn ≡ false
  pub quiet : s.me.0.told ≡ []
  pub terms_are : s.me.0.terms ≡ Some terms

module _ {S O R : Type 0} where
  -- the view goes on from what the caller has seen, and has its number with its calls
  pub record IsGathered (v : View S O R) (c : Caller S O R) : Type 0 where
    pub seen : Extends v.seen c.seen
    pub ticket : (k : ℕ) × (get_elem? v.tickets k ≡ maybe.some (record { number = c.number; calls = c.own }))

  -- one of the callers has the number
  abbrev pub SomeCaller : ℕ → List (Caller S O R) → Type 0
  SomeCaller n [] = ⊥
  SomeCaller n (c ∷ cs) = (c.number ≡ n) ⊎ SomeCaller n cs

  -- What a machine that was taken out stands for: one legal history, which begins with what the callers have seen, and whose
  -- calls are the callers' and no others
  pub record OneHistory {M : Type 0} (stands : M → History O R → Type 0) (legal : S → History O R → Type 0) (setting : M → S) (terms : Terms S) (machine : M) (H : History O R) : Type 0 where
    pub stood : stands machine H
    pub set : setting machine ≡ terms.setting
    pub legal_history : legal terms.setting H
    pub below : AllBelow terms.seats H
    pub quotas : WithinQuota terms.quota H

  -- the same, of the one seat that all were joined into
  abbrev pub Closes : {M : Type 0} → (M → History O R → Type 0) → (S → History O R → Type 0) → (M → S) → Terms S → View S O R → M → Type 0
  Closes stands legal setting terms v machine =
      (H : History O R) × OneHistory stands legal setting terms machine H × Extends H v.seen
      × ((k : ℕ) (t : Ticket O R) → get_elem? v.tickets k ≡ maybe.some t → calls_of t.number H ≡ t.calls)

  -- the caller has seen a beginning of the history, and its calls are all that the history has of its number
  abbrev pub IsPartOf : History O R → Caller S O R → Type 0
  IsPartOf H c = Extends H c.seen × (calls_of c.number H ≡ c.own)
