-- The parts of handles and places.
use Rattle.std.proofs.Common.{◌≡◌, ℕ, ◌^◌, ◌<◌, List, [], ◌∷◌, ◌++◌, get_or, refl, ap, sym, subst, arith, lit<}
use Rattle.std.specs.Prelude.{codes}
use Rattle.std.specs.Fmt.{decimal}
use Rattle.std.proofs.lemmas.List.{append_assoc}
use Rattle.lc_base.specs.declared.handle.Handle.{Handle}
use Rattle.script_out.specs.Output.{handle_text}
use Rattle.output_reader.specs.Reading.{Lacks}
use Rattle.output_reader.proofs.Cuts.{never_lacks}
use Rattle.output_reader.proofs.Lacking.{lacks_append, decimal_lacks, decimal_lacks_letter}

pub handle_parts : (names : List (List ℕ)) (h : Handle) → handle_text names h ≡ get_or names h.owner [] ++ 46 ∷ (decimal h.row ++ 46 ∷ decimal h.generation)
handle_parts names h = simp append_assoc

pub handle_same : (h : Handle) (o r g : ℕ) → o ≡ h.owner → r ≡ h.row → g ≡ h.generation → ◌≡◌ {A = Handle} (record { owner = o; row = r; generation = g }) h
handle_same h o r g a b e = rw (a, b, e) refl

pub handle_text_same : (names : List (List ℕ)) (h : Handle) (o r g : ℕ) → get_or names o [] ≡ get_or names h.owner [] → r ≡ h.row → g ≡ h.generation → handle_text names (record { owner = o; row = r; generation = g }) ≡ handle_text names h
handle_text_same names h o r g a b e = rw (a, b, e) refl

-- a handle has a dot, and the name of the global locale has none
pub no_handle : (names : List (List ℕ)) (h : Handle) → handle_text names h ≡ codes "GLOBAL" → ⊥
no_handle names h is =
    let here : get_or names h.owner [] ++ 46 ∷ (decimal h.row ++ 46 ∷ decimal h.generation) ≡ codes "GLOBAL" = rw (← handle_parts names h) is in
    let none : Lacks (codes "GLOBAL") 46 = refl in
    never_lacks (get_or names h.owner []) (decimal h.row ++ 46 ∷ decimal h.generation) 46 (subst (λ (t : List ℕ). Lacks t 46) (sym here) none)

pub places_parts : (p q : ℕ) → (decimal p ++ codes "," ++ decimal q) ≡ decimal p ++ 44 ∷ decimal q
places_parts p q = append_assoc (decimal p) (codes ",") (decimal q)

pub no_number : (n : ℕ) → n < 2 ^ 64 → decimal n ≡ codes "-" → ⊥
no_number n small is =
    let lacks : Lacks (codes "-") 45 = subst (λ (t : List ℕ). Lacks t 45) is (decimal_lacks n 45 small (lit< tt)) in
    cc

pub no_places : (p q : ℕ) → decimal p ++ 44 ∷ decimal q ≡ codes "-" → ⊥
no_places p q is =
    let none : Lacks (codes "-") 44 = refl in
    never_lacks (decimal p) (decimal q) 44 (subst (λ (t : List ℕ). Lacks t 44) (sym is) none)

-- a number alone has no comma
pub no_comma : (n : ℕ) (a b : List ℕ) → n < 2 ^ 64 → decimal n ≡ a ++ 44 ∷ b → ⊥
no_comma n a b small is = never_lacks a b 44 (subst (λ (t : List ℕ). Lacks t 44) is (decimal_lacks n 44 small (lit< tt)))

-- a version has its letter
pub no_version : (digits : List ℕ) → codes "-" ≡ 103 ∷ digits → ⊥
no_version digits is =
    let head : ◌≡◌ {A = ℕ} 45 103 = ap (λ l. get_or l 0 0) is in
    omega arith

-- the letter of a catalog's place is no first byte of another form
pub dash_no_catalog : (digits : List ℕ) → codes "-" ≡ 99 ∷ digits → ⊥
dash_no_catalog digits is =
    let head : ◌≡◌ {A = ℕ} 45 99 = ap (λ l. get_or l 0 0) is in
    omega arith

pub number_no_catalog : (n : ℕ) (digits : List ℕ) → n < 2 ^ 64 → decimal n ≡ 99 ∷ digits → ⊥
number_no_catalog n digits small is = never_lacks [] digits 99 (subst (λ (t : List ℕ). Lacks t 99) is (decimal_lacks_letter n 99 small (lit< tt)))

pub places_no_catalog : (p q : ℕ) (digits : List ℕ) → p < 2 ^ 64 → q < 2 ^ 64 → (decimal p ++ codes "," ++ decimal q) ≡ 99 ∷ digits → ⊥
places_no_catalog p q digits small later is =
    let front : Lacks (decimal p ++ codes ",") 99 = lacks_append (decimal p) (codes ",") 99 (decimal_lacks_letter p 99 small (lit< tt)) refl in
    let none : Lacks (decimal p ++ codes "," ++ decimal q) 99 = lacks_append (decimal p ++ codes ",") (decimal q) 99 front (decimal_lacks_letter q 99 later (lit< tt)) in
    never_lacks [] digits 99 (subst (λ (t : List ℕ). Lacks t 99) is none)
