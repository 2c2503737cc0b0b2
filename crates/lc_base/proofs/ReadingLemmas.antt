-- A definition that reads one part of a text after another, by its parts.
use Rattle.std.proofs.Common.{◌≡◌, Result, Ok, Err, refl, ◌∙◌, inl, inr}
use Rattle.std.specs.Prelude.{◌⊎◌}
use Rattle.lc_base.specs.declared.place.Place.{Place}
use Rattle.lc_base.specs.declared.reason.Reason.{Reason}
use Rattle.lc_base.specs.declared.fault.TextFault.{TextFault}
use Rattle.lc_base.specs.declared.fault.TextFault.TheVariants.{At, Memory}
use Rattle.lc_base.specs.Reading.{Reads, ◌>>=◌, Fails, Gives}

-- the whole fails where its first part does, with the same fault
pub fails_first : {A B : Type 0} (e : TextFault) (whole : Reads B) (first : Reads A) (f : A → Reads B) → whole ≡ (first >>= f) → Fails e first → Fails e whole
fails_first Memory whole first f is fails = tt
fails_first (At place reason) whole first f is fails = is ∙ rw fails refl

-- where its first part is there, the whole is the rest
pub gives_rest : {A X Y : Type 0} (view : X → Y) (result : Result X TextFault) (whole : Reads Y) (first : Reads A) (f : A → Reads Y) (a : A) → whole ≡ (first >>= f) → first ≡ Ok a → Gives view result (f a) → Gives view result whole
gives_rest view (Ok x) whole first f a is there gives = is ∙ rw there gives
gives_rest view (Err Memory) whole first f a is there gives = tt
gives_rest view (Err (At place reason)) whole first f a is there gives = is ∙ rw there gives

abbrev refused : {A : Type 0} → Place × Reason → Reads A
refused fault = Err fault

same_fault : {A : Type 0} (x y : Place × Reason) → refused {A = A} x ≡ Err y → x ≡ y
same_fault x y e = cc

-- where the whole fails, its first part does, or the rest
pub fault_of : {A B : Type 0} (first : Reads A) (f : A → Reads B) (fault : Place × Reason) → (first >>= f) ≡ Err fault → (first ≡ Err fault) ⊎ ((a : A) × (first ≡ Ok a) × (f a ≡ Err fault))
fault_of (Ok a) f fault e = inr (a, refl, e)
fault_of {A} {B} (Err x) f fault e = inl (rw (same_fault {A = B} x fault e) refl)

-- where the whole has a value, its first part and the rest have one
pub value_of : {A B : Type 0} (first : Reads A) (f : A → Reads B) (value : B) → (first >>= f) ≡ Ok value → (a : A) × (first ≡ Ok a) × (f a ≡ Ok value)
value_of (Ok a) f value e = (a, refl, e)
value_of (Err x) f value e = absurd cc
