-- Variables as a map in the order of their names, and as bindings.
use Rattle.std.proofs.Common.{◌≡◌, ℕ, Bool, true, false, cond, List, [], ◌∷◌, map, Option, Some, None, refl, sym, subst, ◌∙◌, ap}
use Rattle.std.specs.BTreeMap.{is_at, insert_entry}
use Rattle.std.specs.Cmp.Lexicographic.{slice_cmp}
use Rattle.std.specs.Map.{lookup, set_value}
use Rattle.std.specs.Ordering.{nat_cmp, is_eq, match_ordering}
use Rattle.std.specs.declared.cmp.Ordering.{Ordering}
use Rattle.std.specs.declared.cmp.Ordering.TheVariants.{Less, Equal, Greater}
use Rattle.std.specs.Str.{bytes_eq}
use Rattle.std.specs.declared.vec.Vec.{Vec}
use Rattle.std.proofs.lemmas.Map.Text.{is_eq-slice_cmp}
use Rattle.std.proofs.lemmas.Slice.Eq.{bytes_eq-Decides}
use Rattle.std.proofs.lemmas.Cmp.{nat_list_eq_equiv}
use Rattle.lc_base.specs.declared.handle.Handle.{Handle}
use Rattle.script_wishes.specs.Variables.{bound_name, binding_of}

abbrev name_cmp : {A : Type 0} → List ℕ → Vec ℕ A → Ordering
name_cmp name key = slice_cmp nat_cmp name key.items

abbrev key_cmp : {A : Type 0} → Vec ℕ A → Vec ℕ A → Ordering
key_cmp x y = slice_cmp nat_cmp x.items y.items

-- keys that tie have the same bytes
tied_bytes : (xs ys : List ℕ) → slice_cmp nat_cmp xs ys ≡ Equal → xs ≡ ys
tied_bytes xs ys h = (bytes_eq-Decides xs ys).0 (sym (is_eq-slice_cmp xs ys) ∙ ap is_eq h)

-- a choice of two tests, of which just one may pass
swap_tests : (a b : Bool) (x y : Handle) (rest : Option Handle) → ((a ≡ true) → (b ≡ true) → ⊥) → cond a (Some x) (cond b (Some y) rest) ≡ cond b (Some y) (cond a (Some x) rest)
swap_tests true true x y rest apart = absurd (apart refl refl)
swap_tests true false x y rest apart = refl
swap_tests false b x y rest apart = refl

-- a test that passes hides the same test behind it
hides : (b : Bool) (x y : Handle) (rest : Option Handle) → cond b (Some x) rest ≡ cond b (Some x) (cond b (Some y) rest)
hides true x y rest = refl
hides false x y rest = refl

-- what a name has after one more entry
lookup_insert : {A : Type 0} (name : List ℕ) (key : Vec ℕ A) (n : Handle) (es : List (Vec ℕ A × Handle))
    → lookup (is_at (name_cmp name)) (insert_entry key_cmp es key n) ≡ cond (bytes_eq name key.items) (Some n) (lookup (is_at (name_cmp name)) es)
lookup_insert name key n [] = ap (λ b. cond b (Some n) None) (is_eq-slice_cmp name key.items)
lookup_insert {A} name key n (e ∷ es) =
    let test : Vec ℕ A → Bool = is_at (name_cmp name) in
    let here : Bool = bytes_eq name key.items in
    let P : Ordering → Type 0 = λ o. slice_cmp nat_cmp key.items e.0.items ≡ o
    → lookup test (match_ordering o ((key, n) ∷ e ∷ es) ((e.0, n) ∷ es) (e ∷ insert_entry key_cmp es key n)) ≡ cond here (Some n) (cond (test e.0) (Some e.1) (lookup test es)) in
    (
    elim (slice_cmp nat_cmp key.items e.0.items) as P [
      | Less ↦ λ own. ap (λ b. cond b (Some n) (cond (test e.0) (Some e.1) (lookup test es))) (is_eq-slice_cmp name key.items)
      | Equal ↦ λ own.
          let same : key.items ≡ e.0.items = tied_bytes key.items e.0.items own in
          let one : test e.0 ≡ here = is_eq-slice_cmp name e.0.items ∙ ap (λ (bs : List ℕ). bytes_eq name bs) (sym same) in
          rw one (hides here n e.1 (lookup test es))
      | Greater ↦ λ own.
          let apart : (test e.0 ≡ true) → (here ≡ true) → ⊥ = λ a b.
          let first : name ≡ e.0.items = (bytes_eq-Decides name e.0.items).0 (sym (is_eq-slice_cmp name e.0.items) ∙ a) in
          let second : name ≡ key.items = (bytes_eq-Decides name key.items).0 b in
          let tied : is_eq (slice_cmp nat_cmp key.items e.0.items) ≡ true = is_eq-slice_cmp key.items e.0.items ∙ (bytes_eq-Decides key.items e.0.items).1 (sym second ∙ first) in
          let other : false ≡ true = sym (ap is_eq own) ∙ tied in
          absurd (cc)
          in
          ap (λ o. cond (test e.0) (Some e.1) o) (lookup_insert name key n es) ∙ swap_tests (test e.0) here e.1 n (lookup test es) apart
    ]
    )
    refl

-- equal bytes, from either side
eq_sym : (xs ys : List ℕ) → bytes_eq xs ys ≡ bytes_eq ys xs
eq_sym xs ys = nat_list_eq_equiv.symm xs ys

-- what a map has for a name is what its entries bind it to
pub bound_lookup : {A : Type 0} (name : List ℕ) (es : List (Vec ℕ A × Handle)) → lookup (is_at (name_cmp name)) es ≡ bound_name (map binding_of es) name
bound_lookup name [] = refl
bound_lookup {A} name (e ∷ es) =
    ap (λ (b : Bool). cond b (Some e.1) (lookup (is_at (name_cmp name)) es)) (is_eq-slice_cmp name e.0.items ∙ eq_sym name e.0.items)
    ∙ ap (λ (o : Option Handle). cond (bytes_eq e.0.items name) (Some e.1) o) (bound_lookup name es)

-- one more binding
pub bound_insert : {A : Type 0} (key : Vec ℕ A) (variable : List ℕ) (h : Handle) (es after : List (Vec ℕ A × Handle))
    → key.items ≡ variable → after ≡ insert_entry key_cmp es key h
    → (name : List ℕ) → bound_name (map binding_of after) name ≡ bound_name ((variable, h) ∷ map binding_of es) name
bound_insert {A} key variable h es after own grown name =
    ap (λ (xs : List (Vec ℕ A × Handle)). bound_name (map binding_of xs) name) grown
    ∙ sym (bound_lookup name (insert_entry key_cmp es key h))
    ∙ lookup_insert name key h es
    ∙ ap (λ (bs : List ℕ). cond (bytes_eq name bs) (Some h) (lookup (is_at (name_cmp name)) es)) own
    ∙ ap (λ (b : Bool). cond b (Some h) (lookup (is_at (name_cmp name)) es)) (eq_sym name variable)
    ∙ ap (λ (o : Option Handle). cond (bytes_eq variable name) (Some h) o) (bound_lookup name es)

-- a binding is put in the place of another of the same name
set_step : {A : Type 0} (variable name : List ℕ) (h : Handle) (e : Vec ℕ A × Handle) (es : List (Vec ℕ A × Handle)) (b : Bool)
    → b ≡ bytes_eq variable e.0.items
    → (b ≡ false → bound_name (map binding_of (set_value (is_at (name_cmp variable)) es h)) name ≡ bound_name ((variable, h) ∷ map binding_of es) name)
    → bound_name (map binding_of (cond b ((e.0, h) ∷ es) (e ∷ set_value (is_at (name_cmp variable)) es h))) name ≡ bound_name ((variable, h) ∷ map binding_of (e ∷ es)) name
set_step variable name h e es true own later =
    let same : variable ≡ e.0.items = (bytes_eq-Decides variable e.0.items).0 (sym own) in
    rw same (hides (bytes_eq e.0.items name) h e.1 (bound_name (map binding_of es) name))
set_step variable name h e es false own later =
    let apart : (bytes_eq e.0.items name ≡ true) → (bytes_eq variable name ≡ true) → ⊥ = λ a b.
    let first : e.0.items ≡ name = (bytes_eq-Decides e.0.items name).0 a in
    let second : variable ≡ name = (bytes_eq-Decides variable name).0 b in
    let tied : bytes_eq variable e.0.items ≡ true = (bytes_eq-Decides variable e.0.items).1 (second ∙ sym first) in
    let other : false ≡ true = own ∙ tied in
    absurd (cc)
    in
    ap (λ (o : Option Handle). cond (bytes_eq e.0.items name) (Some e.1) o) (later refl)
    ∙ swap_tests (bytes_eq e.0.items name) (bytes_eq variable name) e.1 h (bound_name (map binding_of es) name) apart

-- another value for a name that is bound
pub bound_set : {A : Type 0} (variable : List ℕ) (h old : Handle) (es : List (Vec ℕ A × Handle))
    → lookup (is_at (name_cmp variable)) es ≡ Some old
    → (name : List ℕ) → bound_name (map binding_of (set_value (is_at (name_cmp variable)) es h)) name ≡ bound_name ((variable, h) ∷ map binding_of es) name
bound_set variable h old [] found name = absurd (cc)
bound_set variable h old (e ∷ es) found name =
    set_step variable name h e es (is_at (name_cmp variable) e.0) (is_eq-slice_cmp variable e.0.items)
    (λ miss. bound_set variable h old es (subst (λ (b : Bool). cond b (Some e.1) (lookup (is_at (name_cmp variable)) es) ≡ Some old) miss found) name)
