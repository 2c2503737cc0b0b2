-- The first lines of keywords, as they are kept.
use Rattle.std.proofs.Common.{◌≡◌, Bool, true, false, cond, List, [], ◌∷◌, ◌++◌, Option, Some, None, Bor, refl, sym, ap, ◌∙◌, ⊎_elim}
use Rattle.std.specs.Option.{option_copied, option_or, is_some}
use Rattle.std.specs.Str.{bytes_eq}
use Rattle.std.proofs.lemmas.Bool.{cases_Bool}
use Rattle.std.proofs.lemmas.Slice.Eq.{bytes_eq-Decides}
use Rattle.lc_base.specs.declared.place.Place.{Place}
use Rattle.lc_base.specs.Tables.{first_named}
use Rattle.charset.specs.Portable.{Name}
use Rattle.keywords.specs.declared.source.Value.{Value}
use Rattle.keywords.specs.declared.source.Entry.{Entry}
use Rattle.keywords.specs.Keywords.{operands}
use Rattle.lc_base.specs.Named.{with_named}
use Rattle.ctype_classes.specs.FirstLines.{AreFirstLines}

abbrev Operands : Type 0
Operands = List (Place × Value)

-- what a name has in two lists, one after another
pub first_named-append : {A : Type 0} (xs ys : List (Name × A)) (name : Name) → first_named (xs ++ ys) name ≡ option_or (first_named xs name) (first_named ys name)
first_named-append [] ys name = refl
first_named-append {A} (x ∷ xs) ys name =
    let P : Bool → Type 0 = λ b. cond b (Some x.1) (first_named (xs ++ ys) name) ≡ option_or (cond b (Some x.1) (first_named xs name)) (first_named ys name) in
    elim (bytes_eq x.0 name) as P [ true ↦ refl | false ↦ first_named-append xs ys name ]

or_none : {A : Type 0} (o : Option A) → option_or o None ≡ o
or_none None = refl
or_none (Some x) = refl

-- what a name has after one more, by what it had
with_found : {A : Type 0} (named : List (Name × A)) (name : Name) (x : A) (key : Name) (found : Option A) → found ≡ first_named named name
    → first_named (cond (is_some found) named (named ++ (name, x) ∷ [])) key ≡ option_or (first_named named key) (cond (bytes_eq name key) (Some x) None)
with_found named name x key None is = first_named-append named ((name, x) ∷ []) key
with_found {A} named name x key (Some y) is =
    ⊎_elim
    (λ same.
    let one : name ≡ key = (bytes_eq-Decides name key).0 same in
    let there : first_named named key ≡ Some y = ap (λ (n : Name). first_named named n) (sym one) ∙ sym is in
    there ∙ sym (ap (λ (o : Option A). option_or o (cond (bytes_eq name key) (Some x) None)) there))
    (λ other. sym (ap (λ (b : Bool). option_or (first_named named key) (cond b (Some x) None)) other ∙ or_none (first_named named key)))
    (cases_Bool (bytes_eq name key))

-- the same, which changes nothing where it is there
pub first_named-with_named : {A : Type 0} (named : List (Name × A)) (name : Name) (x : A) (key : Name) → first_named (with_named named name x) key ≡ option_or (first_named named key) (cond (bytes_eq name key) (Some x) None)
first_named-with_named {A} named name x key =
    with_found named name x key (first_named named name) refl

-- the operands of a keyword after one more line
operands-append : (entries : List Entry) (e : Entry) (keyword : Name) → operands (entries ++ e ∷ []) keyword ≡ option_or (operands entries keyword) (cond (bytes_eq e.keyword keyword) (Some e.values) None)
operands-append [] e keyword = refl
operands-append (x ∷ xs) e keyword =
    let P : Bool → Type 0 = λ b. cond b (Some x.values) (operands (xs ++ e ∷ []) keyword) ≡ option_or (cond b (Some x.values) (operands xs keyword)) (cond (bytes_eq e.keyword keyword) (Some e.values) None) in
    elim (bytes_eq x.keyword keyword) as P [ true ↦ refl | false ↦ operands-append xs e keyword ]

-- what is kept of a line more, and what the lines have
line_more : (o : Option (Bor Operands)) (f : Option Operands) (t : Bool) (x : Bor Operands) (e : Entry) → option_copied o ≡ f → x.now ≡ e.values
    → option_copied (option_or o (cond t (Some x) None)) ≡ option_or f (cond t (Some e.values) None)
line_more None None true x e h same = ap {B = Option Operands} (λ (v : Operands). Some v) same
line_more None None false x e h same = refl
line_more None (Some l) t x e h same = absurd (cc)
line_more (Some v) None t x e h same = absurd (cc)
line_more (Some v) (Some l) t x e h same = h

-- one more line
pub first_lines_more : (entries : List Entry) (lines : List (Name × Bor Operands)) (e : Entry) (x : Bor Operands) → x.now ≡ e.values → AreFirstLines entries lines → AreFirstLines (entries ++ e ∷ []) (with_named lines e.keyword x)
first_lines_more entries lines e x same h keyword =
    ap (λ (o : Option (Bor Operands)). option_copied o) (first_named-with_named lines e.keyword x keyword)
    ∙ line_more (first_named lines keyword) (operands entries keyword) (bytes_eq e.keyword keyword) x e (h keyword) same
    ∙ sym (operands-append entries e keyword)
