-- Histories: the calls that were made, each with its reply, the newest first.
use Rattle.std.specs.Prelude.{◌≡◌, ℕ, ◌<◌, ◌≤◌, ◌==◌, if◌then◌else◌, List, [], ◌∷◌, ◌++◌, length}
use Rattle.turn_gate.specs.declared.entry.Entry.{Entry}

-- all calls, the newest first; the place of a call is the number of calls before it
abbrev pub History : Type 0 → Type 0 → Type 0
History O R = List (Entry O R)

module _ {O R : Type 0} where
  abbrev pub entry : ℕ → O → R → Entry O R
  entry who op reply = record { who = who; op = op; reply = reply }

  -- the later history goes on from the earlier one, or is the same
  abbrev pub Extends : History O R → History O R → Type 0
  Extends later earlier = (more : History O R) × (later ≡ more ++ earlier)

  -- the calls of one caller, in their order
  abbrev pub calls_of : ℕ → History O R → History O R
  calls_of who [] = []
  calls_of who (e ∷ H) = if e.who == who then e ∷ calls_of who H else calls_of who H

  -- each call is of a caller with a number below n
  abbrev pub AllBelow : ℕ → History O R → Type 0
  AllBelow n [] = Unit {0}
  AllBelow n (e ∷ H) = (e.who < n) × AllBelow n H

  -- no caller has made more calls than the quota
  abbrev pub WithinQuota : ℕ → History O R → Type 0
  WithinQuota quota H = (n : ℕ) → length (calls_of n H) ≤ quota
