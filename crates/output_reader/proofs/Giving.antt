-- What a reader answers, for another form of the same value.
use Rattle.std.proofs.Common.{◌≡◌, ℕ, ◌<◌, ◌≤◌, Bool, true, false, List, [], length, get_or, nat_lt, Option, Some, None, Result, Ok, Err, ◌∙◌, ap, refl}
use Rattle.std.proofs.lemmas.Bool.{ltb-true, ltb-false}
use Rattle.output_reader.specs.declared.unread.Unread.{Unread}
use Rattle.output_reader.specs.Reading.{Gives, GivesFor}

pub gives_for : {A : Type 0} (text : A → List ℕ) (names : List (List ℕ)) (v w : A) (r : Result A Unread) → w ≡ v → Gives w r → GivesFor text names v r
gives_for text names v w (Ok x) e g = (ap text (g ∙ e), λ distinct. g ∙ e)
gives_for text names v w (Err x) e g = g

-- just this value is given
pub given : {A : Type 0} (text : A → List ℕ) (names : List (List ℕ)) (v w : A) → w ≡ v → GivesFor text names v (Ok w)
given text names v w e = (ap text e, λ distinct. e)

-- a thread of the same name
pub gives_thread : (names : List (List ℕ)) (t v : ℕ) (r : Result ℕ Unread) → t < length names → v < length names → get_or names t [] ≡ get_or names v [] → Gives t r → GivesFor (λ u. get_or names u []) names v r
gives_thread names t v (Ok x) lt less same g = (ap (λ u. get_or names u []) g ∙ same, λ distinct. g ∙ distinct t v lt less same)
gives_thread names t v (Err x) lt less same g = g

le_by : (a b : ℕ) (t : Bool) → nat_lt b a ≡ t → (b < a → ⊥) → a ≤ b
le_by a b true e not = absurd (not (ltb-true b a e))
le_by a b false e not = ltb-false b a e

pub le_from_not : (a b : ℕ) → (b < a → ⊥) → a ≤ b
le_from_not a b not = le_by a b (nat_lt b a) refl not

pub some_none : {A : Type 0} (x : A) → ◌≡◌ {A = Option A} (Some x) None → ⊥
some_none x e = cc

pub false_true : ◌≡◌ {A = Bool} false true → ⊥
false_true e = cc
