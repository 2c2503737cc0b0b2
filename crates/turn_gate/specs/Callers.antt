-- What turns and seats are seen as, and what is known of a seat.
use Rattle.std.specs.Prelude.{◌≡◌, ℕ, ◌<◌, List, [], ◌∷◌, false, Option, Some}
use Rattle.atomic_table.specs.Table.{Me}
use Rattle.atomic_table.specs.Seated.{TableId}
use Rattle.turn_gate.specs.declared.entry.Terms.{Terms}
use Rattle.turn_gate.specs.declared.entry.Ticket.{Ticket}
use Rattle.turn_gate.specs.declared.rule.View.{View}
use Rattle.turn_gate.specs.History.{History, calls_of, AllBelow, WithinQuota}

-- which turns they are, and what was agreed when they were made
pub record Gate (S : Type 0) : Type 0 where
  pub table : TableId
  pub terms : Terms S

-- a caller: of which turns, by what was agreed, its number, the history that it has seen, and its own calls
pub record Caller (S O R : Type 0) : Type 0 where
  pub table : TableId
  pub terms : Option (Terms S)
  pub number : ℕ
  pub seen : History O R
  pub own : History O R

module _ {S O R : Type 0} where
  -- the seat is one of these turns
  abbrev pub IsSeatOf : Gate S → Caller S O R → Type 0
  IsSeatOf gate c = (c.table ≡ gate.table) × (c.terms ≡ Some gate.terms)

  -- the caller as it was before its first call
  abbrev pub first_caller : Gate S → ℕ → Caller S O R
  first_caller gate n = record { table = gate.table; terms = Some gate.terms; number = n; seen = []; own = [] }

  -- the same caller with another history seen, and these calls
  abbrev pub IsSameCaller : Caller S O R → Caller S O R → Type 0
  IsSameCaller c d = (d.table ≡ c.table) × (d.terms ≡ c.terms) × (d.number ≡ c.number)

-- What is known of a caller: what it has seen is a legal history of callers below the number of seats, none with more calls
-- than the quota; and in it the caller's calls are its own, each once
pub record InOrder {S O R : Type 0} (legal : S → History O R → Type 0) (terms : Terms S) (number : ℕ) (seen own : History O R) : Type 0 where
  pub legal_seen : legal terms.setting seen
  pub below : AllBelow terms.seats seen
  pub quotas : WithinQuota terms.quota seen
  pub own_calls : calls_of number seen ≡ own
  pub in_reach : number < terms.seats

-- the calls of the first ticket
abbrev pub own_of : {O R : Type 0} → List (Ticket O R) → History O R
own_of [] = []
own_of (t ∷ ts) = t.calls

module _ {S O R : Type 0} where
  -- what a seat with this number is seen as
  abbrev pub caller_of : TableId → ℕ → View S O R → Caller S O R
  caller_of table number v = record { table = table; terms = v.terms; number = number; seen = v.seen; own = own_of v.tickets }

-- what holds of a seat between two calls: it has no slot and no turn, was told nothing that it has not seen, and has one number
pub record Seated {M S O R : Type 0} (legal : S → History O R → Type 0) (number : ℕ) (me : Me (Option M) (View S O R)) : Type 0 where
  pub bare : me.1 ≡ []
  pub idle : me.0.turn ≡ false
  pub quiet : me.0.told ≡ []
  pub ticket : me.0.tickets ≡ record { number = number; calls = own_of me.0.tickets } ∷ []
  pub in_order : (t : Terms S) → me.0.terms ≡ Some t → InOrder legal t number me.0.seen (own_of me.0.tickets)
