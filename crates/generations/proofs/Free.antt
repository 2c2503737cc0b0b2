-- Free rows after two histories.
use Rattle.std.proofs.Common.{◌≡◌, ℕ, Bool, true, false, ◌&&◌, ◌||◌, not, List, [], ◌∷◌, length, Option, None, Some, refl, ap, ◌∙◌}
use Rattle.std.specs.Prelude.{if◌then◌else◌, nat_lt}
use Rattle.std.specs.List.{list_any}
use Rattle.generations.specs.Kind.{Kind, owner, is_in_row}
use Rattle.generations.specs.Making.{Making, with_handle, handles}
use Rattle.generations.specs.Store.{Store, makings, is_free, free_row}
use Rattle.generations.proofs.Least.{least_same}
use Rattle.generations.proofs.Numbering.{in_row_numbers}

any_if : {A : Type 0} (k : Kind A) (t : ℕ) (p q : A → Bool) (g : A) (hs : List A) (b : Bool) → (b ≡ true → owner k g ≡ t)
    → ((h : A) → owner k h ≡ t → p h ≡ q h) → list_any p hs ≡ list_any q hs
    → list_any p (if b then g ∷ hs else hs) ≡ list_any q (if b then g ∷ hs else hs)
any_if k t p q g hs false owns each same = same
any_if k t p q g hs true owns each same =
    ap (λ b. b || list_any p hs) (each g (owns refl)) ∙ ap (λ b. q g || b) same

any_with : {A : Type 0} (k : Kind A) (t r : ℕ) (p q : A → Bool) (o : Option A) (hs : List A) → ((h : A) → owner k h ≡ t → p h ≡ q h)
    → list_any p hs ≡ list_any q hs → list_any p (with_handle k t r o hs) ≡ list_any q (with_handle k t r o hs)
any_with k t r p q None hs each same = same
any_with k t r p q (Some g) hs each same = any_if k t p q g hs (is_in_row k t r g) (λ is. (in_row_numbers k t r g is).0) each same

-- two tests that agree on the handles of a thread agree on its rows
any_of_owner : {A : Type 0} (k : Kind A) (t r : ℕ) (p q : A → Bool) (M : List (Making A)) → ((h : A) → owner k h ≡ t → p h ≡ q h)
    → list_any p (handles k M t r) ≡ list_any q (handles k M t r)
any_of_owner k t r p q [] each = refl
any_of_owner k t r p q (m ∷ M) each = any_with k t r p q m.handle (handles k M t r) each (any_of_owner k t r p q M each)

-- a thread has the same least free row after two histories in which it made the same handles, and which keep the same
-- of them
pub free_row_alike : {A E : Type 0} (s : Store A E) (G H : List E) (t : ℕ)
    → ((r : ℕ) → handles s.kind (makings s G) t r ≡ handles s.kind (makings s H) t r)
    → ((h : A) → owner s.kind h ≡ t → s.is_kept G h ≡ s.is_kept H h) → free_row s G t ≡ free_row s H t
free_row_alike s G H t same kept =
    least_same s.rows (is_free s G t) (is_free s H t) (λ r below.
    ap (λ hs. not (list_any (s.is_kept G) hs) && nat_lt (length hs) s.generations) (same r)
    ∙ ap (λ b. not b && nat_lt (length (handles s.kind (makings s H) t r)) s.generations)
    (any_of_owner s.kind t r (s.is_kept G) (s.is_kept H) (makings s H) kept))
