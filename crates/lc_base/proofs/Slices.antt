-- Parts of lists that are longer, or cut, and lists mapped by functions that agree on them.
use Rattle.std.proofs.Common.{◌≡◌, ℕ, ◌+◌, ◌-◌, ◌≤◌, List, [], ◌∷◌, ◌++◌, length, take, drop, map, All, refl, arith, length-drop}
use Rattle.std.specs.Prelude.{slice_range}
use Rattle.std.proofs.lemmas.List.{drop-append-le, take-append-le, drop-take, take-take}
use Rattle.std.proofs.lemmas.List.Elements.{All-head, All-tail}

pub range-append : {A : Type 0} (xs ys : List A) (a b : ℕ) → a ≤ b → b ≤ length xs → slice_range (xs ++ ys) a b ≡ slice_range xs a b
range-append xs ys a b h k =
    let short : a ≤ length xs = omega arith in
    let inside : b - a ≤ length (drop a xs) = omega (arith, length-drop a xs) in
    rw (drop-append-le a xs ys short, take-append-le (b - a) (drop a xs) ys inside) refl

pub range-take : {A : Type 0} (xs : List A) (n a b : ℕ) → a ≤ b → b ≤ n → slice_range (take n xs) a b ≡ slice_range xs a b
range-take xs n a b h k =
    let e : a + (n - a) ≡ n = omega arith in
    let f = rw e at (drop-take a (n - a) xs) in
    rw f (take-take (b - a) (n - a) (drop a xs) (omega arith))

pub map_same : {A B : Type 0} (f g : A → B) (P : A → Type 0) → ((x : A) → P x → f x ≡ g x) → (xs : List A) → All P xs → map f xs ≡ map g xs
map_same f g P same [] h = refl
map_same f g P same (x ∷ xs) h =
    let one = same x (All-head P x xs h) in
    let more = map_same f g P same xs (All-tail P x xs h) in
    cc
