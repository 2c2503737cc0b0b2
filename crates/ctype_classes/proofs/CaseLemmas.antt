-- Case maps and the first pairs of their values.
use Rattle.std.proofs.Common.{◌≡◌, ℕ, ◌<◌, Bool, true, false, cond, ◌&&◌, List, [], ◌∷◌, Option, Some, None, eqb, refl, sym, ap, ◌∙◌, arith}
use Rattle.std.specs.BTreeMap.{insert_entry, is_at}
use Rattle.std.specs.Map.{lookup}
use Rattle.std.specs.Option.{unwrap_or}
use Rattle.std.specs.Ordering.{nat_cmp, match_ordering, MatchOrdering}
use Rattle.std.specs.declared.cmp.Ordering.{Ordering}
use Rattle.std.specs.declared.cmp.Ordering.TheVariants.{Less, Equal, Greater}
use Rattle.std.proofs.lemmas.Bool.Decides.{nat_tests}
use Rattle.std.proofs.lemmas.Bool.{true≢false}
use Rattle.std.proofs.lemmas.Cmp.{ranked}
use Rattle.ctype_classes.specs.Case.{map_of, image, first_image}

nat_at : (q k : ℕ) → is_at (nat_cmp q) k ≡ eqb q k
nat_at q k = grind (arith, nat_tests)

-- a choice made twice
twice : {A : Type 0} (b : Bool) (x y z : A) → cond b x z ≡ cond b x (cond b y z)
twice true x y z = refl
twice false x y z = refl

-- choices in another order, where not both are made
crossed : {A : Type 0} (a b : Bool) (x y z : A) → (a && b) ≡ false → cond a y (cond b x z) ≡ cond b x (cond a y z)
crossed true true x y z h = absurd (true≢false h)
crossed true false x y z h = refl
crossed false b x y z h = refl

-- a value is not two others
not_both : (q a b : ℕ) → a < b → (eqb q a && eqb q b) ≡ false
not_both q a b less = grind (arith, nat_tests)

-- what a map has after an entry more
lookup-insert : (es : List (ℕ × ℕ)) (k v q : ℕ) → lookup (is_at (nat_cmp q)) (insert_entry nat_cmp es k v) ≡ cond (eqb q k) (Some v) (lookup (is_at (nat_cmp q)) es)
lookup-insert [] k v q = ap (λ (b : Bool). cond b (Some v) None) (nat_at q k)
lookup-insert (e ∷ es) k v q =
    let rest = lookup (is_at (nat_cmp q)) es in
    let Q : Ordering → Type 0 = λ r. MatchOrdering r (k < e.0) (k ≡ e.0) (e.0 < k)
    → lookup (is_at (nat_cmp q)) (match_ordering r ((k, v) ∷ e ∷ es) ((e.0, v) ∷ es) (e ∷ insert_entry nat_cmp es k v)) ≡ cond (eqb q k) (Some v) (cond (is_at (nat_cmp q) e.0) (Some e.1) rest) in
    (elim (nat_cmp k e.0) as Q [
      | Less ↦ λ less. ap (λ (b : Bool). cond b (Some v) (cond (is_at (nat_cmp q) e.0) (Some e.1) rest)) (nat_at q k)
      | Equal ↦ λ same.
          let here : is_at (nat_cmp q) e.0 ≡ eqb q k = nat_at q e.0 ∙ ap (λ (x : ℕ). eqb q x) (sym same) in
          ap (λ (b : Bool). cond b (Some v) rest) here
          ∙ twice (eqb q k) (Some v) (Some e.1) rest
          ∙ ap (λ (b : Bool). cond (eqb q k) (Some v) (cond b (Some e.1) rest)) (sym here)
      | Greater ↦ λ more.
          ap (λ (o : Option ℕ). cond (is_at (nat_cmp q) e.0) (Some e.1) o) (lookup-insert es k v q)
          ∙ crossed (is_at (nat_cmp q) e.0) (eqb q k) (Some v) (Some e.1) rest (ap (λ (b : Bool). b && eqb q k) (nat_at q e.0) ∙ not_both q e.0 k more)
    ]) (ranked k e.0 (nat_cmp k e.0) refl)

-- the map of pairs gives what the first pair of a value does
lookup-map_of : (pairs : List (ℕ × ℕ)) (w : ℕ) → lookup (is_at (nat_cmp w)) (map_of pairs) ≡ first_image pairs w
lookup-map_of [] w = refl
lookup-map_of (pair ∷ pairs) w =
    lookup-insert (map_of pairs) pair.0 pair.1 w ∙ ap (λ (o : Option ℕ). cond (eqb w pair.0) (Some pair.1) o) (lookup-map_of pairs w)

pub image-map_of : (pairs : List (ℕ × ℕ)) (w : ℕ) → image (map_of pairs) w ≡ unwrap_or (first_image pairs w) w
image-map_of pairs w = ap (λ (o : Option ℕ). unwrap_or o w) (lookup-map_of pairs w)
