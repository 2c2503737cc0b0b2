-- What a reader answers: a value, the first fault with its place, or out of memory.
use Rattle.std.specs.Prelude.{◌≡◌, Result, Ok, Err}
use Rattle.lc_base.specs.declared.place.Place.{Place}
use Rattle.lc_base.specs.declared.reason.Reason.{Reason}
use Rattle.lc_base.specs.declared.fault.TextFault.{TextFault}
use Rattle.lc_base.specs.declared.fault.TextFault.TheVariants.{At, Memory}

-- what a definition gives for a text: a value, or the place and the reason of the first broken rule
abbrev pub Reads : Type 0 → Type 0
Reads A = Result A (Place × Reason)

-- one part after another, as of a text, up to the first fault
infixl 10 ◌>>=◌
abbrev pub ◌>>=◌ : {A B E : Type 0} → Result A E → (A → Result B E) → Result B E
(Ok x) >>= f = f x
(Err e) >>= f = Err e

-- a refusal is that of the definition, or out of memory, which says nothing
abbrev pub Fails : {Y : Type 0} → TextFault → Reads Y → Type 0
Fails Memory reads = Unit {0}
Fails (At place reason) reads = reads ≡ Err (place, reason)

-- a reader's answer, its value seen by view, is what the definition gives, unless it is out of memory
abbrev pub Gives : {X Y : Type 0} → (X → Y) → Result X TextFault → Reads Y → Type 0
Gives view (Ok x) reads = reads ≡ Ok (view x)
Gives view (Err e) reads = Fails e reads
