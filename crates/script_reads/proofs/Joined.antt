-- Names that are joined.
use Rattle.std.proofs.Common.{◌≡◌, ℕ, List, [], ◌∷◌, refl}
use Rattle.script_reads.specs.Names.{joint_name}

-- equal names are joined alike
pub joint_is : (a b c d e a' b' c' d' e' : List ℕ) → a ≡ a' → b ≡ b' → c ≡ c' → d ≡ d' → e ≡ e' → joint_name (a ∷ b ∷ c ∷ d ∷ e ∷ []) ≡ joint_name (a' ∷ b' ∷ c' ∷ d' ∷ e' ∷ [])
joint_is a b c d e a' b' c' d' e' p q r s t = rw (p, q, r, s, t) refl
