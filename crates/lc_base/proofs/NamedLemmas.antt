-- Names as they are kept, and as the definitions have them.
use Rattle.std.proofs.Common.{◌≡◌, ℕ, suc, ◌+◌, ltb, Bool, true, false, cond, not, List, [], ◌∷◌, ◌++◌, length, map, position, Option, Some, None, refl, sym, ◌∙◌, ap, subst, arith}
use Rattle.std.specs.List.{position_or_len}
use Rattle.std.specs.Option.{is_some, option_map}
use Rattle.std.specs.Map.{keys_of, lookup}
use Rattle.std.specs.Str.{bytes_eq}
use Rattle.std.specs.declared.vec.Vec.{Vec}
use Rattle.std.proofs.Math.Dec.{leb-zero, leb-suc-suc}
use Rattle.std.proofs.lemmas.Bool.Decides.{same_from_decides}
use Rattle.std.proofs.lemmas.List.{map-append}
use Rattle.std.proofs.lemmas.Slice.Eq.{bytes_eq-Decides}
use Rattle.lc_base.specs.Tables.{first_named}
use Rattle.lc_base.specs.Named.{with_named, place_of, pair_of}

-- a name that has no place names nothing
pub nothing_named : {A : Type 0} (es : List (List ℕ × A)) (name : List ℕ) → place_of es name ≡ None → first_named es name ≡ None
nothing_named [] name h = refl
nothing_named {A} (e ∷ es) name h =
    let P : Bool → Type 0 = λ b. cond b (Some 0) (option_map suc (place_of es name)) ≡ None → cond b (Some e.1) (first_named es name) ≡ None in
    let later : (o : Option ℕ) → place_of es name ≡ o → option_map suc o ≡ None → first_named es name ≡ None = λ o is.
    (elim o as (λ p. place_of es name ≡ p → option_map suc p ≡ None → first_named es name ≡ None) [ None ↦ λ none k. nothing_named es name none | Some i ↦ λ some k. absurd (cc) ]) is in
    (elim (bytes_eq e.0 name) as P [ true ↦ λ k. absurd (cc) | false ↦ λ k. later (place_of es name) refl k ]) h

-- bytes are the same in either order
bytes_eq-swap : (a b : List ℕ) → bytes_eq a b ≡ bytes_eq b a
bytes_eq-swap a b =
    let back = bytes_eq-Decides b a in
    same_from_decides (bytes_eq a b) (bytes_eq b a) (bytes_eq-Decides a b) (λ (e : bytes_eq b a ≡ true). sym (back.0 e), λ (e : a ≡ b). back.1 (sym e))

-- what a map finds under a name is what the list of its names gives
pub first_named-lookup : {A V : Type 0} (name : List ℕ) (es : List (Vec ℕ A × V)) → first_named (map pair_of es) name ≡ lookup (λ (k : Vec ℕ A). bytes_eq name k.items) es
first_named-lookup name [] = refl
first_named-lookup {A} {V} name (e ∷ es) =
    let P : Bool → Type 0 = λ b. cond (bytes_eq e.0.items name) (Some e.1) (first_named (map pair_of es) name) ≡ cond b (Some e.1) (lookup (λ (k : Vec ℕ A). bytes_eq name k.items) es) in
    let Q : Bool → Type 0 = λ b. cond b (Some e.1) (first_named (map pair_of es) name) ≡ cond b (Some e.1) (lookup (λ (k : Vec ℕ A). bytes_eq name k.items) es) in
    let both : Q (bytes_eq e.0.items name) = ap (λ (o : Option V). cond (bytes_eq e.0.items name) (Some e.1) o) (first_named-lookup name es) in
    subst P (bytes_eq-swap e.0.items name) both

-- where a map finds a name is its place in the list of its names
pub place_of-position : {A V : Type 0} (name : List ℕ) (es : List (Vec ℕ A × V)) → place_of (map pair_of es) name ≡ position (λ (k : Vec ℕ A). bytes_eq name k.items) (keys_of es)
place_of-position name [] = refl
place_of-position {A} {V} name (e ∷ es) =
    let n : ℕ = position_or_len (λ (k : Vec ℕ A). bytes_eq name k.items) (keys_of es) in
    let len : ℕ = length (keys_of es) in
    let P : ℕ → Bool → Bool → Type 0 = λ m a b. cond a (Some 0) (option_map suc (place_of (map pair_of es) name)) ≡ cond (ltb (cond (not b) m 0) (suc len)) (Some (cond (not b) m 0)) None in
    let moved : (c : Bool) → option_map suc (cond c (Some n) None) ≡ cond c (Some (suc n)) None = λ c. elim c as (λ c. option_map suc (cond c (Some n) None) ≡ cond c (Some (suc n)) None) [ true ↦ refl | false ↦ refl ] in
    let both : (b : Bool) → P (suc n) b b = λ b. elim b as (λ b. P (suc n) b b) [ true ↦ sym (ap (λ (c : Bool). cond c (Some 0) None) (leb-suc-suc 0 len ∙ leb-zero len)) | false ↦ ap (λ (o : Option ℕ). option_map suc o) (place_of-position name es) ∙ (moved (ltb n len) ∙ ap (λ (c : Bool). cond c (Some (suc n)) None) (sym (leb-suc-suc (suc n) len))) ] in
    let more : suc n ≡ 1 + n = omega arith in
    subst (λ (b : Bool). P (1 + n) (bytes_eq e.0.items name) b) (bytes_eq-swap e.0.items name) (subst (λ (m : ℕ). P m (bytes_eq e.0.items name) (bytes_eq e.0.items name)) more (both (bytes_eq e.0.items name)))

-- a name that a list lacks, its map lacks
pub missing-lookup : {A V : Type 0} (es : List (Vec ℕ A × V)) (name : List ℕ) → first_named (map pair_of es) name ≡ None → lookup (λ (k : Vec ℕ A). bytes_eq name k.items) es ≡ None
missing-lookup es name missing = sym (first_named-lookup name es) ∙ missing

-- a new name goes last
pub with_named-none : {A V : Type 0} (es new : List (Vec ℕ A × V)) (key : Vec ℕ A) (name : List ℕ) (x : V) → key.items ≡ name → first_named (map pair_of es) name ≡ None → new ≡ es ++ (key, x) ∷ [] → map pair_of new ≡ with_named (map pair_of es) name x
with_named-none {A} {V} es new key name x is missing last =
    ap (λ (l : List (Vec ℕ A × V)). map pair_of l) last ∙ (map-append pair_of es ((key, x) ∷ [])
    ∙ (ap (λ (n : List ℕ). map pair_of es ++ (n, x) ∷ []) is
    ∙ sym (ap (λ (o : Option V). cond (is_some o) (map pair_of es) (map pair_of es ++ (name, x) ∷ [])) missing)))
