-- The first of some reasons.
use Rattle.std.proofs.Common.{◌≡◌, List, [], ◌∷◌, Option, None, Some, refl}
use Rattle.std.specs.Option.{option_or}
use Rattle.handle_table.specs.declared.op.Refusal.{Refusal}
use Rattle.handle_table.specs.Answer.{first_reason}

-- a lone reason is the first, if it is there
pub lone_reason : (o : Option Refusal) → first_reason (o ∷ []) ≡ o
lone_reason None = refl
lone_reason (Some refusal) = refl

-- with no other reason there is this one or none
pub or_none : (o : Option Refusal) → option_or o None ≡ o
or_none None = refl
or_none (Some refusal) = refl

-- the first of a reason and some others
pub first_or : (o : Option Refusal) (others : List (Option Refusal)) → first_reason (o ∷ others) ≡ option_or o (first_reason others)
first_or None others = refl
first_or (Some refusal) others = refl
