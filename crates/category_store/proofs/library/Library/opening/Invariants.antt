use Rattle.std.proofs.Common.{◌≡◌, ◌∷◌, map, take, ℕ, List}
use Rattle.category_store.specs.Library.{offer_at, first_offer}
use Rattle.category_store.proofs.library.Library.opening.Given as goal

abbrev pub invariant-loop-i : goal.invariant-loop-i
invariant-loop-i l = l.offers.items ≡ offer_at l.self 0 ∷ map (λ (entry : List ℕ × ℕ). first_offer l.self entry.0) (take l.i l.self.names)
