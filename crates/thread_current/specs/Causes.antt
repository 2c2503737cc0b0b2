-- When a call of a thread is refused, over the history before the call. Each reason comes after the earlier ones of its call.
use Rattle.std.specs.Prelude.{◌≡◌, ℕ, Option, Some, None, Result, Ok, Err, true, false}
use Rattle.lc_base.specs.declared.handle.Named.{Named}
use Rattle.lc_base.specs.declared.handle.Named.TheVariants.{Global, Of}
use Rattle.handle_table.specs.declared.op.Refusal.{Refusal}
use Rattle.handle_table.specs.Entry.{Reply, Set, Refused, History}
use Rattle.handle_table.specs.History.{made, live, holding}
use Rattle.thread_current.specs.declared.shared.Fault.{Fault}

-- the reason of a refused call
abbrev pub refusal_in : {X : Type 0} → Result X Fault → Option Refusal
refusal_in (Ok x) = None
refusal_in (Err fault) = Some fault.refusal

-- the reply is one to a change of the global locale: what it made, or why it was refused
abbrev pub IsOfChange : Reply → Type 0
IsOfChange (Set version object) = Unit {0}
IsOfChange (Refused refusal) = Unit {0}
IsOfChange _ = ⊥

-- no entry made the handle that is named
abbrev pub IsNeverMade : History → Named → Type 0
IsNeverMade H Global = ⊥
IsNeverMade H (Of h) = made H h ≡ false

-- the handle that is named was made, and is not live
abbrev pub IsStale : History → Named → Type 0
IsStale H Global = ⊥
IsStale H (Of h) = (made H h ≡ true) × (live H h ≡ false)

-- what is named is there: the global locale, or an object that is live
abbrev pub IsThere : History → Named → Type 0
IsThere H Global = Unit {0}
IsThere H (Of h) = (made H h ≡ true) × (live H h ≡ true)

-- the object that is named is there, and the thread has an open Hold of it
abbrev pub IsHeldAlready : History → ℕ → Named → Type 0
IsHeldAlready H t Global = ⊥
IsHeldAlready H t (Of h) = IsThere H (Of h) × (holding H t h ≡ true)
