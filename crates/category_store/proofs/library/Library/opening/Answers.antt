use Rattle.std.proofs.Common.{ℕ, List, [], ◌∷◌, ◌++◌, map, take, ap, sym, ◌∙◌, arith}
use Rattle.mask_compose.specs.Offer.{Offered}
use Rattle.category_store.specs.LibraryData.{LibraryData}
use Rattle.category_store.specs.Library.{offer_at, first_offer}
use Rattle.category_store.proofs.LibraryLemmas.{opening_more, opening_all}
use Rattle.category_store.proofs.library.Library.opening.Goals as goal

-- the offers of the first names
so_far : LibraryData → ℕ → List Offered
so_far library i = offer_at library 0 ∷ map (λ (entry : List ℕ × ℕ). first_offer library entry.0) (take i library.names)

pub loop-i-preserved : goal.loop-i-preserved
unfolding so_far
loop-i-preserved c =
    c.in_ok-push-2.ensures.items
    ∙ (ap (λ (xs : List Offered). xs ++ c.first_offer.result ∷ []) c.loop-i.invariant
    ∙ (ap (λ (o : Offered). so_far c.args.self.now c.loop-i.i ++ o ∷ []) (c.first_offer.ensures ∙ ap (first_offer c.args.self.now) c.name_at.ensures)
    ∙ sym (opening_more c.args.self.now c.loop-i.i (omega arith))))

pub returns : goal.returns
returns c = c.of.ensures ∙ (c.loop-i.invariant ∙ opening_all c.args.self.now c.loop-i.i (omega arith))
