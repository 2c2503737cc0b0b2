-- A class by its number is the class by its name.
use Rattle.std.proofs.Common.{◌≡◌, ℕ, suc, Bool, true, false, cond, List, [], ◌∷◌, Option, Some, None, refl, sym, subst}
use Rattle.std.specs.Prelude.{slice_get, option_map, IfSome}
use Rattle.std.specs.Str.{bytes_eq}
use Rattle.lc_base.specs.Tables.{first_named}
use Rattle.charset.specs.Portable.{Name}
use Rattle.class_ranges.specs.Ranges.{Range, covers}
use Rattle.lc_base.specs.Named.{place_of}
use Rattle.ctype_classes.specs.Classes.{Classes, class_answer, numbered_answer}

-- what is answered by the number of a class is what is answered by its name
same_class : (classes : Classes) (name : Name) (number w : ℕ) → place_of classes name ≡ Some number → numbered_answer classes number w ≡ class_answer classes name w
same_class [] name number w h = absurd (cc)
same_class (e ∷ es) name number w h =
    let Alike : ℕ → Option (List Range) → Type 0 = λ n found. option_map (λ (entry : Name × List Range). covers entry.1 w) (slice_get (e ∷ es) n) ≡ option_map (λ (members : List Range). covers members w) found in
    let P : Bool → Type 0 = λ b. cond b (Some 0) (option_map suc (place_of es name)) ≡ Some number → Alike number (cond b (Some e.1) (first_named es name)) in
    let later : (o : Option ℕ) → place_of es name ≡ o → option_map suc o ≡ Some number → Alike number (first_named es name) = λ o is.
    (elim o as (λ p. place_of es name ≡ p → option_map suc p ≡ Some number → Alike number (first_named es name)) [
      | None ↦ λ none k. absurd (cc)
      | Some j ↦ λ some k. let next : suc j ≡ number = cc in subst (λ n. Alike n (first_named es name)) next (same_class es name j w some)
    ]) is in
    (elim (bytes_eq e.0 name) as P [ true ↦ λ k. let first : 0 ≡ number = cc in subst (λ n. Alike n (Some e.1)) first refl | false ↦ λ k. later (place_of es name) refl k ]) h

-- the same of a number, where there is one
pub numbered_alike : (classes : Classes) (name : Name) (number : Option ℕ) → number ≡ place_of classes name → IfSome number (λ (n : ℕ). (w : ℕ) → numbered_answer classes n w ≡ class_answer classes name w)
numbered_alike classes name None h = tt
numbered_alike classes name (Some n) h = λ w. same_class classes name n w (sym h)
