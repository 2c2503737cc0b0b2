-- The fields of a mixed name and its parts, read and written.
use Rattle.std.proofs.Common.{◌≡◌, ℕ, suc, Bool, true, false, not, ◌&&◌, ◌||◌, cond, eqb, List, [], ◌∷◌, ◌++◌, length, drop, eq-eqb, Option, Some, None, option_map, refl, sym, ◌∙◌, ap, subst, arith}
use Rattle.std.specs.List.{list_any, list_all, slice_split, onto_first, join_with_byte, starts_with}
use Rattle.std.proofs.lemmas.Bool.{eqb-true}
use Rattle.std.proofs.lemmas.Bool.Decides.{Decides-eqb}
use Rattle.std.proofs.lemmas.Slice.Eq.{starts_is}
use Rattle.std.proofs.lemmas.List.Folds.{list_any-append}
use Rattle.std.proofs.lemmas.List.Splits.{join_with_byte-slice_split}
use Rattle.lc_base.specs.declared.category.Category.{Category}
use Rattle.lc_base.specs.declared.category.Category.TheVariants.{Ctype, Numeric, Monetary, Time, Messages}
use Rattle.lc_base.specs.Lines.{after, ◌>>=◌}
use Rattle.lc_base.specs.Categories.{categories, category_name}
use Rattle.mask_compose.specs.Names.{is_separator, is_part, field, fields, mixed_name, are_parts, IsMixedName, unless_empty, part_in, parts_in, mixed_parts, spans_of}

-- ---- fields without a separator

neither : (a b : Bool) → (a || b) ≡ false → (a ≡ false) × (b ≡ false)
neither true b e = absurd cc
neither false b e = (refl, e)

pub both : (a b : Bool) → (a && b) ≡ true → (a ≡ true) × (b ≡ true)
both true b e = (refl, e)
both false b e = absurd cc

-- a field ends at the separator after it
pub split_field : (xs ys : List ℕ) → list_any is_separator xs ≡ false → slice_split is_separator (xs ++ 59 ∷ ys) ≡ xs ∷ slice_split is_separator ys
split_field [] ys none = refl
split_field (x ∷ xs) ys none =
    let n = neither (is_separator x) (list_any is_separator xs) none in
    rw (n.0, split_field xs ys n.1) refl

-- a field with nothing after it
pub split_whole : (xs : List ℕ) → list_any is_separator xs ≡ false → slice_split is_separator xs ≡ xs ∷ []
split_whole [] none = refl
split_whole (x ∷ xs) none =
    let n = neither (is_separator x) (list_any is_separator xs) none in
    rw (n.0, split_whole xs n.1) refl

-- no name of a category has a separator
plain_name : (c : Category) → list_any is_separator (category_name c) ≡ false
plain_name Ctype = refl
plain_name Numeric = refl
plain_name Monetary = refl
plain_name Time = refl
plain_name Messages = refl

plain_field : (c : Category) (part : List ℕ) → list_any is_separator part ≡ false → list_any is_separator (field c part) ≡ false
plain_field c part none = rw (list_any-append is_separator (category_name c) (61 ∷ part), plain_name c) none

-- ---- the part in a field

named_field : (c : Category) (part : List ℕ) → part_in c (field c part) ≡ unless_empty part
named_field Ctype part = refl
named_field Numeric part = refl
named_field Monetary part = refl
named_field Time part = refl
named_field Messages part = refl

not_false : (b : Bool) → not b ≡ true → b ≡ false
not_false true e = absurd cc
not_false false e = refl

pub part_in-field : (c : Category) (part : List ℕ) → is_part part ≡ true → part_in c (field c part) ≡ Some part
part_in-field c part good =
    let b = both (not (eqb (length part) 0)) (not (list_any is_separator part)) good in
    named_field c part ∙ rw (not_false _ b.0) refl

-- ---- the parts of what was joined

split_join : (f : List ℕ) (fs : List (List ℕ)) → list_any (list_any is_separator) (f ∷ fs) ≡ false → slice_split is_separator (join_with_byte 59 (f ∷ fs)) ≡ f ∷ fs
split_join f [] none = split_whole f (neither (list_any is_separator f) false none).0
split_join f (g ∷ fs) none =
    let n = neither (list_any is_separator f) (list_any (list_any is_separator) (g ∷ fs)) none in
    split_field f (join_with_byte 59 (g ∷ fs)) n.0 ∙ ap (λ (x : List (List ℕ)). f ∷ x) (split_join g fs n.1)

plain_part : (part : List ℕ) → is_part part ≡ true → list_any is_separator part ≡ false
plain_part part good = not_false _ (both (not (eqb (length part) 0)) (not (list_any is_separator part)) good).1

plain_fields : (cs : List Category) (ps : List (List ℕ)) → list_all is_part ps ≡ true → list_any (list_any is_separator) (fields cs ps) ≡ false
plain_fields [] ps good = refl
plain_fields (c ∷ cs) [] good = refl
plain_fields (c ∷ cs) (p ∷ ps) good =
    let b = both (is_part p) (list_all is_part ps) good in
    rw (plain_field c p (plain_part p b.0)) (plain_fields cs ps b.1)

parts_in-fields : (cs : List Category) (ps : List (List ℕ)) → length ps ≡ length cs → list_all is_part ps ≡ true → parts_in cs (fields cs ps) ≡ Some ps
parts_in-fields [] [] same good = refl
parts_in-fields [] (p ∷ ps) same good = absurd (omega arith)
parts_in-fields (c ∷ cs) [] same good = absurd (omega arith)
parts_in-fields (c ∷ cs) (p ∷ ps) same good =
    let b = both (is_part p) (list_all is_part ps) good in
    rw (part_in-field c p b.0, parts_in-fields cs ps (omega arith) b.1) refl

-- the parts of a mixed name are those that it was joined from
pub mixed_parts-mixed_name : (ps : List (List ℕ)) → are_parts ps ≡ true → mixed_parts (mixed_name ps) ≡ Some ps
mixed_parts-mixed_name [] good = absurd cc
mixed_parts-mixed_name (p ∷ ps) good =
    let b = both (eqb (length (p ∷ ps)) 5) (list_all is_part (p ∷ ps)) good in
    ap (parts_in categories) (split_join (field Ctype p) (fields (Numeric ∷ Monetary ∷ Time ∷ Messages ∷ []) ps) (plain_fields categories (p ∷ ps) b.1))
    ∙ parts_in-fields categories (p ∷ ps) (eqb-true (length (p ∷ ps)) 5 b.0) b.1

-- ---- a text that is read is spelled by its parts

given : {A B : Type 0} (o : Option A) (f : A → Option B) (y : B) → (o >>= f) ≡ Some y → (x : A) × ((o ≡ Some x) × (f x ≡ Some y))
given None f y e = absurd cc
given (Some x) f y e = (x, (refl, e))

chosen : (b : Bool) (x r : List ℕ) → cond b (Some x) None ≡ Some r → (b ≡ true) × (x ≡ r)
chosen true x r e = (refl, cc)
chosen false x r e = absurd cc

after_is : (front line r : List ℕ) → after front line ≡ Some r → line ≡ front ++ r
after_is front line r e =
    let s = chosen (starts_with eqb line front) (drop (length front) line) r e in
    (starts_is Decides-eqb line front (starts_with eqb line front) refl).0 s.0 ∙ ap (λ (x : List ℕ). front ++ x) s.1

not_empty : (b : Bool) (x r : List ℕ) → cond b None (Some x) ≡ Some r → (b ≡ false) × (x ≡ r)
not_empty true x r e = absurd cc
not_empty false x r e = (refl, cc)

pub field_is : (c : Category) (f p : List ℕ) → part_in c f ≡ Some p → (f ≡ field c p) × (eqb (length p) 0 ≡ false)
field_is c f p e =
    let g = given (after (category_name c) f >>= after (61 ∷ [])) unless_empty p e in
    let h = given (after (category_name c) f) (after (61 ∷ [])) g.0 g.1.0 in
    let n = not_empty (eqb (length g.0) 0) g.0 p g.1.1 in
    let named = after_is (category_name c) f h.0 h.1.0 in
    let equals = after_is (61 ∷ []) h.0 g.0 h.1.1 in
    (named ∙ ap (λ (x : List ℕ). category_name c ++ x) (equals ∙ ap (λ (x : List ℕ). 61 ∷ x) n.1), subst (λ (x : List ℕ). eqb (length x) 0 ≡ false) n.1 n.0)

pub unmapped : {A B : Type 0} (f : A → B) (o : Option A) (y : B) → option_map f o ≡ Some y → (x : A) × ((o ≡ Some x) × (f x ≡ y))
unmapped f None y e = absurd cc
unmapped f (Some x) y e = (x, (refl, cc))

pub record AreFields (cs : List Category) (fs ps : List (List ℕ)) : Type 0 where
  pub spelled : fs ≡ fields cs ps
  pub same : length ps ≡ length cs
  pub good : list_any (list_any is_separator) fs ≡ false → list_all is_part ps ≡ true

and_true : (a b : Bool) → a ≡ true → b ≡ true → (a && b) ≡ true
and_true a b x y = rw (x, y) refl

part_is : (p : List ℕ) → eqb (length p) 0 ≡ false → list_any is_separator p ≡ false → is_part p ≡ true
part_is p some none = rw (some, none) refl

no_separator : (c : Category) (p : List ℕ) → list_any is_separator (field c p) ≡ false → list_any is_separator p ≡ false
no_separator c p none =
    let n = neither (list_any is_separator (category_name c)) (list_any is_separator (61 ∷ p)) (sym (list_any-append is_separator (category_name c) (61 ∷ p)) ∙ none) in
    n.1

are_fields : (cs : List Category) (fs ps : List (List ℕ)) → parts_in cs fs ≡ Some ps → AreFields cs fs ps
are_fields [] [] ps e = let n : [] ≡ ps = cc in subst (AreFields [] []) n (record { spelled = refl; same = refl; good = λ _. refl })
are_fields [] (f ∷ fs) ps e = absurd cc
are_fields (c ∷ cs) [] ps e = absurd cc
are_fields (c ∷ cs) (f ∷ fs) ps e =
    let g = given (part_in c f) (λ part. option_map (λ parts. part ∷ parts) (parts_in cs fs)) ps e in
    let u = unmapped (λ parts. g.0 ∷ parts) (parts_in cs fs) ps g.1.1 in
    let i = field_is c f g.0 g.1.0 in
    let rest = are_fields cs fs u.0 u.1.0 in
    subst (AreFields (c ∷ cs) (f ∷ fs)) u.1.1 (record {
      spelled = ap (λ (x : List ℕ). x ∷ fs) i.0 ∙ ap (λ (xs : List (List ℕ)). field c g.0 ∷ xs) rest.spelled;
      same = ap suc rest.same;
      good = λ none.
          let n = neither (list_any is_separator f) (list_any (list_any is_separator) fs) none in
          and_true (is_part g.0) (list_all is_part u.0) (part_is g.0 i.1 (no_separator c g.0 (subst (λ (x : List ℕ). list_any is_separator x ≡ false) i.0 n.0))) (rest.good n.1);
    })

onto_plain : (x : ℕ) → is_separator x ≡ false → (ps : List (List ℕ)) → list_any (list_any is_separator) ps ≡ false → list_any (list_any is_separator) (onto_first x ps) ≡ false
onto_plain x bare [] none = rw bare refl
onto_plain x bare (p ∷ ps) none = rw bare none

split_onto : (b : Bool) (x : ℕ) → is_separator x ≡ b → (ps : List (List ℕ)) → list_any (list_any is_separator) ps ≡ false → list_any (list_any is_separator) (cond b ([] ∷ ps) (onto_first x ps)) ≡ false
split_onto true x is ps none = none
split_onto false x is ps none = onto_plain x is ps none

-- no field has a separator
plain_split : (xs : List ℕ) → list_any (list_any is_separator) (slice_split is_separator xs) ≡ false
plain_split [] = refl
plain_split (x ∷ xs) = split_onto (is_separator x) x refl (slice_split is_separator xs) (plain_split xs)

equal_test : (n m : ℕ) → n ≡ m → eqb n m ≡ true
equal_test n m e = eq-eqb n m e

-- a text with parts is spelled by them
pub spelled_by : (text : List ℕ) (ps : List (List ℕ)) → mixed_parts text ≡ Some ps → IsMixedName text ps
spelled_by text ps e =
    let f = are_fields categories (slice_split is_separator text) ps e in
    record {
      good = rw (equal_test (length ps) 5 f.same, f.good (plain_split text)) refl;
      spelled = sym (join_with_byte-slice_split 59 text) ∙ ap (join_with_byte 59) f.spelled;
    }

-- a text without parts is no mixed name
pub spelled_by_none : (text : List ℕ) → option_map spans_of (mixed_parts text) ≡ None → (ps : List (List ℕ)) → IsMixedName text ps → ⊥
spelled_by_none text none ps is =
    let some : mixed_parts text ≡ Some ps = ap mixed_parts is.spelled ∙ mixed_parts-mixed_name ps is.good in
    let both : Some (spans_of ps) ≡ None = sym (ap (option_map spans_of) some) ∙ none in cc
