-- Faults of a source, each with what it is the fault of.
use Rattle.std.proofs.Common.{◌≡◌, ℕ, ◌<◌, Bool, true, false, List, [], ◌∷◌, All, take, drop, Option, Some, None, Err, inl, inr, refl, sym, subst, if◌then◌else◌}
use Rattle.std.specs.List.{insert}
use Rattle.std.proofs.lemmas.List.Elements.{All-cons, All-append, All-take, All-drop, All-nil}
use Rattle.lc_base.specs.declared.block.Block.{Block}
use Rattle.tool_files.specs.Library.{library}
use Rattle.tool_check.specs.Limits.{LOOK_COUNT}
use Rattle.tool_check.specs.declared.fault.Fault.{Fault}
use Rattle.tool_check.specs.Looks.{AreAlone, look_at}
use Rattle.tool_check.specs.Found.{has_line, place_of, with_fault, IsFaultAlone, IsFaultOf, IsFoundAlone}

pub first_each : (charmaps locales : List Block) (first : Fault) → All (IsFaultOf charmaps locales first) (first ∷ [])
first_each charmaps locales first =
    let P : Fault → Type 0 = IsFaultOf charmaps locales first in
    All-cons P first [] (inl refl) (All-nil P)

chosen_each : (b : Bool) (P : Fault → Type 0) (faults : List Fault) (fault : Fault) (n : ℕ) → P fault → All P faults → All P (if b then faults else insert faults n fault)
chosen_each true P faults fault n own each = each
chosen_each false P faults fault n own each =
    All-append P (take n faults) (fault ∷ drop n faults) (All-take P n faults each) (All-cons P fault (drop n faults) own (All-drop P n faults each))

with_each : (charmaps locales : List Block) (first : Fault) (faults : List Fault) (fault : Option Fault) → All (IsFaultOf charmaps locales first) faults → IsFoundAlone charmaps locales fault
    → All (IsFaultOf charmaps locales first) (with_fault faults fault)
with_each charmaps locales first faults None each found = each
with_each charmaps locales first faults (Some fault) each found =
    chosen_each (has_line fault.place.line faults) (IsFaultOf charmaps locales first) faults fault (place_of fault.place.line faults) (inr found) each

pub one_more_each : (charmaps locales : List Block) (first : Fault) (faults more : List Fault) (fault : Option Fault) → All (IsFaultOf charmaps locales first) faults
    → IsFoundAlone charmaps locales fault → more ≡ with_fault faults fault → All (IsFaultOf charmaps locales first) more
one_more_each charmaps locales first faults more fault each found e = subst (λ (fs : List Fault). All (IsFaultOf charmaps locales first) fs) (sym e) (with_each charmaps locales first faults fault each found)

pub fault_found : (charmaps locales alone : List Block) (number : ℕ) (fault : Fault) → number < LOOK_COUNT → AreAlone (look_at number) locales alone
    → library charmaps alone ≡ Err (fault.place, fault.reason) → IsFaultAlone charmaps locales fault
fault_found charmaps locales alone number fault lt is refused = record { number = number; within = lt; alone = alone; alone_is = is; refused = refused }
