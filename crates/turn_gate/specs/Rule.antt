-- The rule of the turn, in five parts, over the two words, the slot and all views; and what each step tells.
use Rattle.std.specs.Prelude.{◌≡◌, ℕ, ◌+◌, ◌*◌, ◌<◌, ◌≤◌, ◌≢◌, ◌⊎◌, List, [], ◌∷◌, ◌++◌, length, Bool, true, false, Option, Some, None}
use mathlib.Core.Option as maybe
use lib.ListN.{get_elem?}
use Rattle.atomic_table.specs.Table.{State, Me, Step, rest}
use Rattle.turn_gate.specs.declared.entry.Terms.{Terms}
use Rattle.turn_gate.specs.declared.entry.Ticket.{Ticket}
use Rattle.turn_gate.specs.declared.rule.View.{View}
use Rattle.turn_gate.specs.declared.rule.About.{About}
use Rattle.turn_gate.specs.History.{History, Extends, calls_of, AllBelow, WithinQuota}

abbrev pub terms_of : {M S : Type 0} → (M → S) → About M → Terms S
terms_of setting about = record { setting = setting about.machine.value; seats = about.seats; quota = about.quota }

-- the first word: the taken bit, the number of entries, and the version in the upper half
abbrev pub bit : Bool → ℕ
bit false = 0
bit true = 1

abbrev pub head_word : Bool → ℕ → ℕ → ℕ
head_word taken count version = bit taken + 2 * count + 4294967296 * version

module _ {S O R : Type 0} where
  -- the view of a seat that has no number and has seen nothing
  abbrev pub newcomer : Terms S → View S O R
  newcomer terms = record { terms = Some terms; tickets = []; seen = []; told = []; turn = false }

  -- what a seat that is split off knows: what was seen
  abbrev pub split_off : View S O R → View S O R
  split_off v = record v { tickets = []; told = []; turn = false }

  -- a seat with another's numbers, which was told what the other had seen
  abbrev pub joined : View S O R → View S O R → View S O R
  joined v w = record v { tickets = v.tickets ++ w.tickets; told = w.seen }

  -- what is left of a seat that was joined into another
  abbrev pub spent : View S O R
  spent = record { terms = None; tickets = []; seen = []; told = []; turn = false }

module _ {O R : Type 0} where
  -- the number is one of these
  abbrev pub HasNumber : ℕ → List (Ticket O R) → Type 0
  HasNumber n tickets = (k : ℕ) × (t : Ticket O R) × (get_elem? tickets k ≡ maybe.some t) × (t.number ≡ n)

  -- the tickets, with the calls that were made now added to those of the first
  abbrev pub written : History O R → List (Ticket O R) → List (Ticket O R)
  written made [] = []
  written made (t ∷ ts) = record t { calls = made ++ t.calls } ∷ ts

  -- nothing was made, or one call with the number, which had made fewer calls than the quota
  abbrev pub MayMake : ℕ → Ticket O R → History O R → Type 0
  MayMake quota t [] = Unit {0}
  MayMake quota t (e ∷ []) = (e.who ≡ t.number) × (length t.calls < quota)
  MayMake quota t (e ∷ f ∷ H) = ⊥

  -- a ticket with which no call was made
  abbrev pub fresh : ℕ → Ticket O R
  fresh n = record { number = n; calls = [] }

-- The rule of one view, at the place j: it has seen a beginning of the history, its numbers are its own, the history's
-- calls of each are the calls that stand with it, and if it has the turn it has seen all
pub record Fits {S O R : Type 0} (terms : Terms S) (log : History O R) (numbers : ℕ) (owner : ℕ → ℕ) (taken : Bool) (holder j : ℕ) (v : View S O R) : Type 0 where
  pub seen : Extends log v.seen
  pub told : Extends log v.told
  pub knows : (t : Terms S) → v.terms ≡ Some t → t ≡ terms
  pub tickets : (k : ℕ) (t : Ticket O R) → get_elem? v.tickets k ≡ maybe.some t → (t.number < numbers) × (owner t.number ≡ j) × (calls_of t.number log ≡ t.calls)
  pub turn : v.turn ≡ true → (taken ≡ true) × (holder ≡ j) × (v.seen ≡ log) × ((n : ℕ) × HasNumber n v.tickets)

module _ {M S O R : Type 0} (stands : M → History O R → Type 0) (legal : S → History O R → Type 0) (setting : M → S) (version : History O R → ℕ) (terms : Terms S) where
  pub record Ruled (s : State (Option M) (View S O R)) : Type 0 where
    pub log : History O R
    pub numbers : ℕ
    pub taken : Bool
    pub owner : ℕ → ℕ
    pub holder : ℕ
    -- 1: the counted history is legal, the words count it, and one view has seen all of it
    pub legal_log : legal terms.setting log
    pub words : s.words ≡ head_word taken (length log) (version log) ∷ numbers ∷ []
    pub versions : version log ≤ length log
    pub whole : (j : ℕ) × (v : View S O R) × (get_elem? s.views j ≡ maybe.some v) × ((v.seen ≡ log) ⊎ (v.told ≡ log))
    -- 2: each number stands in one view, and each entry has one of them
    pub in_reach : numbers ≤ terms.seats
    pub owned : (n : ℕ) → n < numbers → (v : View S O R) × (get_elem? s.views (owner n) ≡ maybe.some v) × HasNumber n v.tickets
    pub below : AllBelow numbers log
    -- 3: no number has more entries than the quota (each view says which)
    pub quotas : WithinQuota terms.quota log
    -- 4: the taken bit is set where one view has the turn (each view says that it is the one)
    pub held : taken ≡ true → (v : View S O R) × (get_elem? s.views holder ≡ maybe.some v) × (v.turn ≡ true)
    -- 5: the machine is at home and stands for the history, or it is out with the view that has the turn
    pub home : taken ≡ false → (m : M) × (s.homes ≡ maybe.some (Some m) ∷ []) × stands m log × (setting m ≡ terms.setting)
    pub out : taken ≡ true → s.homes ≡ maybe.none ∷ []
    -- of each view
    pub each : (j : ℕ) (v : View S O R) → get_elem? s.views j ≡ maybe.some v → Fits terms log numbers owner taken holder j v

-- what is known of a history that was seen, under the terms
pub record Orderly {S O R : Type 0} (legal : S → History O R → Type 0) (terms : Terms S) (tickets : List (Ticket O R)) (H : History O R) : Type 0 where
  pub legal_seen : legal terms.setting H
  pub below : AllBelow terms.seats H
  pub quotas : WithinQuota terms.quota H
  pub calls : (k : ℕ) (t : Ticket O R) → get_elem? tickets k ≡ maybe.some t → (t.number < terms.seats) × (calls_of t.number H ≡ t.calls)

module _ {S O R : Type 0} (legal : S → History O R → Type 0) (version : History O R → ℕ) where
  -- the counted history was seen, which goes on from what was seen or told
  pub record Sees (v : View S O R) (word : ℕ) (H : History O R) : Type 0 where
    pub seen : Extends H v.seen
    pub told : Extends H v.told
    pub counted : (taken : Bool) × (word ≡ head_word taken (length H) (version H))
    pub versions : version H ≤ length H
    pub orderly : (t : Terms S) → v.terms ≡ Some t → Orderly legal t v.tickets H

-- What a release needs: the seat has the turn and the machine, which stands for the history that was seen with what was made
pub record MayRelease {M S O R : Type 0} (stands : M → History O R → Type 0) (legal : S → History O R → Type 0) (setting : M → S) (version : History O R → ℕ) (terms : Terms S) (me : Me (Option M) (View S O R)) (made : History O R) (new : ℕ) : Type 0 where
  pub turn : me.0.turn ≡ true
  pub ticket : (t : Ticket O R) × (me.0.tickets ≡ t ∷ []) × MayMake terms.quota t made
  pub machine : (k : M) × (me.1 ≡ (0, Some k) ∷ []) × stands k (made ++ me.0.seen) × (setting k ≡ terms.setting)
  pub legal_made : legal terms.setting (made ++ me.0.seen)
  pub versions : version (made ++ me.0.seen) ≤ length (made ++ me.0.seen)
  pub word : new ≡ head_word false (length (made ++ me.0.seen)) (version (made ++ me.0.seen))

-- What a take gives: the seat has the turn and the machine, which stands for all of the history, and the word counted it
pub record HasTurn {M S O R : Type 0} (stands : M → History O R → Type 0) (legal : S → History O R → Type 0) (setting : M → S) (version : History O R → ℕ) (terms : Terms S) (before : View S O R) (me : Me (Option M) (View S O R)) (found : ℕ) : Type 0 where
  pub seen : Extends me.0.seen before.seen
  pub view : me.0 ≡ record before { seen = me.0.seen; told = []; turn = true }
  pub machine : (k : M) × (me.1 ≡ (0, Some k) ∷ []) × stands k me.0.seen × (setting k ≡ terms.setting)
  pub word : found ≡ head_word false (length me.0.seen) (version me.0.seen)
  pub versions : version me.0.seen ≤ length me.0.seen
  pub orderly : Orderly legal terms before.tickets me.0.seen

module _ {M S O R : Type 0} (legal : S → History O R → Type 0) (version : History O R → ℕ) where
  -- the seat has seen all of the history that the first word counts
  abbrev pub Looks : Me (Option M) (View S O R) → ℕ → Me (Option M) (View S O R) → Type 0
  Looks m n m' = (H : History O R) × (m' ≡ (record m.0 { seen = H; told = [] }, m.1)) × Sees legal version m.0 n H

  -- a load of the first word
  abbrev pub looked : Step (Option M) → Me (Option M) (View S O R) → ℕ → Me (Option M) (View S O R) → Type 0
  looked st = Looks

  -- an exchange that sets the taken bit: the seat has the turn and the machine; a failed one is a look
  abbrev pub took : (M → History O R → Type 0) → (M → S) → Step (Option M) → Me (Option M) (View S O R) → ℕ → Me (Option M) (View S O R) → Type 0
  took stands setting st m n m' =
      (n ≡ st.first → (H : History O R) × (k : M) × (m' ≡ (record m.0 { seen = H; told = []; turn = true }, (0, Some k) ∷ m.1))
      × Sees legal version m.0 n H × stands k H × ((t : Terms S) → m.0.terms ≡ Some t → setting k ≡ t.setting))
      × (n ≢ st.first → Looks m n m')

module _ {M S O R : Type 0} where
  -- the swap that clears the taken bit: the machine is at home, and what was made stands in the history
  abbrev pub released : History O R → Step (Option M) → Me (Option M) (View S O R) → ℕ → Me (Option M) (View S O R) → Type 0
  released made st m n m' = m' ≡ (record m.0 { tickets = written made m.0.tickets; seen = made ++ m.0.seen; turn = false }, rest m.1)

  -- an exchange on the second word: the seat has the number; a failed one tells nothing
  abbrev pub numbered : Step (Option M) → Me (Option M) (View S O R) → ℕ → Me (Option M) (View S O R) → Type 0
  numbered st m n m' = (n ≡ st.first → m' ≡ (record m.0 { tickets = fresh st.first ∷ [] }, m.1)) × (n ≢ st.first → m' ≡ m)
