-- A name is always that of a character which the set has.
use Rattle.std.proofs.Common.{◌≡◌, ℕ, Bool, true, false, cond, ◌⊎◌, inl, inr, ⊎_elim, List, [], ◌∷◌, Option, Some, None, refl, sym, subst, arith}
use Rattle.std.specs.Option.{option_or, option_map, IfSome}
use Rattle.std.specs.List.{list_all, list_any}
use Rattle.std.specs.Str.{bytes_eq}
use Rattle.std.proofs.lemmas.Bool.Decides.{nat_tests}
use Rattle.std.proofs.lemmas.Grind.{common_steps}
use Rattle.lc_base.specs.Tables.{first_named}
use Rattle.charset.specs.Portable.{Name, letter_code, portable_names, portable_code, is_portable}
use Rattle.charset.specs.Hex.{numbered}
use Rattle.charset.specs.CodedSet.{CodedSet, utf8, posix, listed, has, has_value, only_in, named, named_beside, big_endian}

-- one of two options gives what they give together
or_cases : (a b : Option ℕ) (w : ℕ) → option_or a b ≡ Some w → (a ≡ Some w) ⊎ (b ≡ Some w)
or_cases None b w h = inr h
or_cases (Some x) b w h = inl h

-- what a list gives passes a test that each of its entries passes
first_named-all : (p : ℕ → Bool) (entries : List (Name × ℕ)) (name : Name) (x : ℕ) → list_all (λ (e : Name × ℕ). p e.1) entries ≡ true → first_named entries name ≡ Some x → p x ≡ true
first_named-all p [] name x all h = cc
first_named-all p (entry ∷ entries) name x all h =
    let P : Bool → Type 0 = λ b. cond b (Some entry.1) (first_named entries name) ≡ Some x → p x ≡ true in
    (elim (bytes_eq entry.0 name) as P [ true ↦ λ e. grind (arith, common_steps) | false ↦ λ e. first_named-all p entries name x (grind (arith, common_steps)) e ]) h

letter_code-is_portable : (name : Name) (w : ℕ) → letter_code name ≡ Some w → is_portable w ≡ true
letter_code-is_portable [] w h = cc
letter_code-is_portable (c ∷ []) w h = grind (arith, nat_tests)
letter_code-is_portable (c ∷ d ∷ cs) w h = cc

pub portable_code-is_portable : (name : Name) (w : ℕ) → portable_code name ≡ Some w → is_portable w ≡ true
unfolding portable_code
portable_code-is_portable name w h =
    ⊎_elim (λ e. letter_code-is_portable name w e) (λ e. first_named-all is_portable portable_names name w refl e)
    (or_cases (letter_code name) (first_named portable_names name) w h)

-- every set has the portable characters
pub portable-has : (set : CodedSet) (w : ℕ) → is_portable w ≡ true → has set w ≡ true
portable-has utf8 w h = grind (arith, nat_tests)
portable-has posix w h = grind (arith, nat_tests)
portable-has (listed name entries) w h = grind (arith, common_steps)

only_in-has : (set : CodedSet) (o : Option ℕ) (w : ℕ) → only_in set o ≡ Some w → has set w ≡ true
only_in-has set None w h = cc
only_in-has set (Some v) w h =
    let P : Bool → Type 0 = λ b. has set v ≡ b → cond b (Some v) None ≡ Some w → has set w ≡ true in
    (elim (has set v) as P [ true ↦ λ own e. let same : v ≡ w = cc in subst (λ (x : ℕ). has set x ≡ true) same own | false ↦ λ own e. cc ]) refl h

-- an entry's value is that of a character
entry-has : (entries : List (Name × List ℕ)) (name : Name) (w : ℕ) → option_map big_endian (first_named entries name) ≡ Some w → list_any (has_value w) entries ≡ true
entry-has [] name w h = cc
entry-has (entry ∷ entries) name w h =
    let P : Bool → Type 0 = λ b. option_map big_endian (cond b (Some entry.1) (first_named entries name)) ≡ Some w → list_any (has_value w) (entry ∷ entries) ≡ true in
    (elim (bytes_eq entry.0 name) as P [ true ↦ λ e. grind (arith, common_steps, nat_tests) | false ↦ λ e. grind (arith, common_steps, entry-has entries name w e) ]) h

named_beside-has : (set : CodedSet) (name : Name) (w : ℕ) → named_beside set name ≡ Some w → has set w ≡ true
named_beside-has utf8 name w h = only_in-has utf8 (option_or (numbered 4 name) (numbered 8 name)) w h
named_beside-has posix name w h = only_in-has posix (numbered 4 name) w h
named_beside-has (listed set_name entries) name w h = grind (arith, common_steps, entry-has entries name w h)

-- a name is that of a character of the set
pub named-has : (set : CodedSet) (name : Name) (w : ℕ) → named set name ≡ Some w → has set w ≡ true
named-has set name w h =
    ⊎_elim (λ e. portable-has set w (portable_code-is_portable name w e)) (λ e. named_beside-has set name w e)
    (or_cases (portable_code name) (named_beside set name) w h)

-- the same of an answer that may be none
pub named_is-has : (set : CodedSet) (name : Name) (r : Option ℕ) → r ≡ named set name → IfSome r (λ w. has set w ≡ true)
named_is-has set name None h = tt
named_is-has set name (Some w) h = named-has set name w (sym h)
