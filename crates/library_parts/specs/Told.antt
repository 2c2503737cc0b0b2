-- What is told of parts: a value, the first fault with the part that has it, or out of memory (our own).
use Rattle.std.specs.Prelude.{◌≡◌, ℕ, Result, Ok, Err}
use Rattle.library_parts.specs.declared.fault.Wrong.{Wrong}
use Rattle.library_parts.specs.declared.fault.PartFault.{PartFault}
use Rattle.library_parts.specs.declared.fault.PartFault.TheVariants.{At, Memory}

-- what a definition gives for parts: a value, or the number of the first part that breaks a rule, and the rule
abbrev pub Tells : Type 0 → Type 0
Tells A = Result A (ℕ × Wrong)

-- a refusal is that of the definition, or out of memory, which says nothing
abbrev pub Fails : {Y : Type 0} → PartFault → Tells Y → Type 0
Fails Memory tells = Unit {0}
Fails (At part wrong) tells = tells ≡ Err (part, wrong)

-- an answer, its value seen by view, is what the definition gives, unless it is out of memory
abbrev pub Gives : {X Y : Type 0} → (X → Y) → Result X PartFault → Tells Y → Type 0
Gives view (Ok x) tells = tells ≡ Ok (view x)
Gives view (Err e) tells = Fails e tells
