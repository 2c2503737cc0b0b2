-- Where the parts of a mixed name stand.
use Rattle.std.proofs.Common.{◌≡◌, ℕ, suc, ◌+◌, ◌-◌, ◌<◌, ◌≤◌, Bool, true, false, not, cond, nat_lt, eqb, List, [], ◌∷◌, ◌++◌, length, map, take, drop, get_or, Option, Some, None, option_map, IfSome, IsNone, slice_range, refl, sym, ◌∙◌, ap, subst, arith, length-append, append_assoc, append-nil, add_assoc, add-one}
use Rattle.std.specs.List.{position_or_len, position, list_any, list_all, slice_split, onto_first, join_with_byte, All, AllByRecursion}
use Rattle.std.proofs.lemmas.Bool.{eqb-true, ltb-true, ltb-false}
use Rattle.std.proofs.Math.Seq.{drop-append_seam, take-append_seam, drop-cons}
use Rattle.std.proofs.Math.ListN.{set, drop_of_length-le}
use Rattle.std.proofs.lemmas.List.{take_more_set}
use Rattle.std.proofs.lemmas.List.Elements.{All-from_recursion}
use Rattle.std.proofs.lemmas.List.Splits.{slice_split_first}
use Rattle.lc_base.specs.declared.category.Category.{Category}
use Rattle.lc_base.specs.declared.category.Category.TheVariants.{Ctype}
use Rattle.lc_base.specs.Categories.{categories, category_name}
use Rattle.mask_compose.specs.Names.{is_separator, is_part, field, fields, are_parts, IsMixedName, part_in, parts_in, mixed_parts, spans_from, spans_of, spanned, fields_of}
use Rattle.mask_compose.proofs.NameLemmas.{both, split_whole, unmapped, field_is, spelled_by, spelled_by_none}

-- ---- the spans have the parts

piece : (pre q p post : List ℕ) → slice_range (pre ++ (q ++ (p ++ post))) (length pre + length q) (length pre + length q + length p) ≡ p
piece pre q p post =
    let start : drop (length pre + length q) (pre ++ (q ++ (p ++ post))) ≡ p ++ post =
    ap (λ n. drop n (pre ++ (q ++ (p ++ post)))) (sym (length-append pre q)) ∙ (ap (drop (length (pre ++ q))) (sym (append_assoc pre q (p ++ post))) ∙ drop-append_seam (pre ++ q) (p ++ post)) in
    let size : length pre + length q + length p - (length pre + length q) ≡ length p = omega arith in
    ap (take (length pre + length q + length p - (length pre + length q))) start ∙ (ap (λ n. take n (p ++ post)) size ∙ take-append_seam p post)

-- a field is what stands before its part, and the part
field_parts : (c : Category) (p : List ℕ) → field c p ≡ field c [] ++ p
field_parts c p = sym (append_assoc (category_name c) (61 ∷ []) p)

pub record HasSpans (text : List ℕ) (spans : List (ℕ × ℕ)) (ps : List (List ℕ)) : Type 0 where
  pub parts : map (spanned text) spans ≡ ps
  pub within : AllByRecursion (λ (span : ℕ × ℕ). span.0 + span.1 ≤ length text) spans

first_span : (text pre : List ℕ) (c : Category) (p post : List ℕ) → text ≡ pre ++ (field c p ++ post) → spanned text (length pre + length (field c []), length p) ≡ p
first_span text pre c p post e =
    let whole : text ≡ pre ++ (field c [] ++ (p ++ post)) = e ∙ ap (λ (x : List ℕ). pre ++ x) (ap (λ (x : List ℕ). x ++ post) (field_parts c p) ∙ append_assoc (field c []) p post) in
    rw whole (piece pre (field c []) p post)

span_fits : (text pre : List ℕ) (c : Category) (p post : List ℕ) → text ≡ pre ++ (field c p ++ post) → length pre + length (field c []) + length p ≤ length text
span_fits text pre c p post e =
    let size : length (field c p) ≡ length (field c []) + length p = ap length (field_parts c p) ∙ length-append (field c []) p in
    let all : length text ≡ length pre + (length (field c p) + length post) = ap length e ∙ (length-append pre (field c p ++ post) ∙ ap (λ n. length pre + n) (length-append (field c p) post)) in
    omega arith

-- the fields that begin after pre have their parts where spans_from says
has_spans : (text pre : List ℕ) (n : ℕ) (cs : List Category) (ps : List (List ℕ)) → n ≡ length pre → text ≡ pre ++ join_with_byte 59 (fields cs ps) → length ps ≡ length cs → HasSpans text (spans_from n cs ps) ps
has_spans text pre n [] [] at e same = record { parts = refl; within = tt }
has_spans text pre n [] (p ∷ ps) at e same = absurd (omega arith)
has_spans text pre n (c ∷ cs) [] at e same = absurd (omega arith)
has_spans text pre n (c ∷ []) (p ∷ []) at e same =
    let whole : text ≡ pre ++ (field c p ++ []) = e ∙ ap (λ (x : List ℕ). pre ++ x) (sym (append-nil (field c p))) in
    subst (λ m. HasSpans text (spans_from m (c ∷ []) (p ∷ [])) (p ∷ [])) (sym at)
    (record { parts = ap (λ (x : List ℕ). x ∷ []) (first_span text pre c p [] whole); within = (span_fits text pre c p [] whole, tt) })
has_spans text pre n (c ∷ []) (p ∷ q ∷ ps) at e same = absurd (omega arith)
has_spans text pre n (c ∷ d ∷ cs) (p ∷ []) at e same = absurd (omega arith)
has_spans text pre n (c ∷ d ∷ cs) (p ∷ q ∷ ps) at e same =
    let rest = join_with_byte 59 (fields (d ∷ cs) (q ∷ ps)) in
    let whole : text ≡ pre ++ (field c p ++ (59 ∷ rest)) = e in
    let later : text ≡ (pre ++ (field c p ++ 59 ∷ [])) ++ rest = whole ∙ (ap (λ (x : List ℕ). pre ++ x) (sym (append_assoc (field c p) (59 ∷ []) rest)) ∙ sym (append_assoc pre (field c p ++ 59 ∷ []) rest)) in
    let size : length pre + length (field c p) + 1 ≡ length (pre ++ (field c p ++ 59 ∷ [])) = sym (length-append pre (field c p ++ 59 ∷ []) ∙ (ap (λ m. length pre + m) (length-append (field c p) (59 ∷ [])) ∙ sym (add_assoc (length pre) (length (field c p)) 1))) in
    let more = has_spans text (pre ++ (field c p ++ 59 ∷ [])) (length pre + length (field c p) + 1) (d ∷ cs) (q ∷ ps) size later (omega arith) in
    subst (λ m. HasSpans text (spans_from m (c ∷ d ∷ cs) (p ∷ q ∷ ps)) (p ∷ q ∷ ps)) (sym at)
    (record { parts = ap (λ (x : List ℕ). x ∷ map (spanned text) (spans_from (length pre + length (field c p) + 1) (d ∷ cs) (q ∷ ps))) (first_span text pre c p (59 ∷ rest) whole) ∙ ap (λ (xs : List (List ℕ)). p ∷ xs) more.parts; within = (span_fits text pre c p (59 ∷ rest) whole, more.within) })

five_of : (ps : List (List ℕ)) → are_parts ps ≡ true → length ps ≡ 5
five_of ps good = eqb-true (length ps) 5 (both (eqb (length ps) 5) (list_all is_part ps) good).0

pub spans_have : (text : List ℕ) (ps : List (List ℕ)) → mixed_parts text ≡ Some ps → HasSpans text (spans_of ps) ps
spans_have text ps e =
    let s = spelled_by text ps e in
    has_spans text [] 0 categories ps refl s.spelled (five_of ps s.good)

-- ---- what the spans say, where they are there

pub record AreSpans (text : List ℕ) (spans : List (ℕ × ℕ)) : Type 0 where
  pub within : All (λ (span : ℕ × ℕ). span.0 + span.1 ≤ length text) spans
  pub parts : mixed_parts text ≡ Some (map (spanned text) spans)
  pub spelled : IsMixedName text (map (spanned text) spans)

-- the spans of a text have its parts
pub are_spans : (text : List ℕ) (spans : List (ℕ × ℕ)) → Some spans ≡ option_map spans_of (mixed_parts text) → AreSpans text spans
are_spans text spans e =
    let u = unmapped spans_of (mixed_parts text) spans (sym e) in
    let h = spans_have text u.0 u.1.0 in
    let all : AreSpans text (spans_of u.0) = record {
      within = All-from_recursion _ _ h.within;
      parts = u.1.0 ∙ ap Some (sym h.parts);
      spelled = subst (IsMixedName text) (sym h.parts) (spelled_by text u.0 u.1.0);
    } in
    subst (AreSpans text) u.1.1 all

pub within_if : (text : List ℕ) (o : Option (List (ℕ × ℕ))) → o ≡ option_map spans_of (mixed_parts text) → IfSome o (All (λ (span : ℕ × ℕ). span.0 + span.1 ≤ length text))
within_if text None e = tt
within_if text (Some spans) e = (are_spans text spans e).within

pub parts_if : (text : List ℕ) (o : Option (List (ℕ × ℕ))) → o ≡ option_map spans_of (mixed_parts text) → IfSome o (λ spans. mixed_parts text ≡ Some (map (spanned text) spans))
parts_if text None e = tt
parts_if text (Some spans) e = (are_spans text spans e).parts

pub spelled_if : (text : List ℕ) (o : Option (List (ℕ × ℕ))) → o ≡ option_map spans_of (mixed_parts text) → IfSome o (λ spans. IsMixedName text (map (spanned text) spans))
spelled_if text None e = tt
spelled_if text (Some spans) e = (are_spans text spans e).spelled

pub none_if : (text : List ℕ) (o : Option (List (ℕ × ℕ))) → o ≡ option_map spans_of (mixed_parts text) → IsNone o → (ps : List (List ℕ)) → IsMixedName text ps → ⊥
none_if text None e is ps good = spelled_by_none text (sym e) ps good
none_if text (Some spans) e is ps good = cc

-- ---- the first field of a text

some_at : (b : Bool) (n i : ℕ) → Some i ≡ cond b (Some n) None → (b ≡ true) × (i ≡ n)
some_at true n i e = (refl, cc)
some_at false n i e = absurd cc

none_at : (b : Bool) (n : ℕ) → None ≡ cond b (Some n) None → b ≡ false
none_at true n e = absurd cc
none_at false n e = refl

-- the first field ends where the first separator stands
pub first_ends : (text : List ℕ) (at : ℕ) → Some at ≡ position is_separator text → (slice_split is_separator text ≡ take at text ∷ slice_split is_separator (drop (at + 1) text)) × (at < length text)
first_ends text at e =
    let s = some_at (nat_lt (position_or_len is_separator text) (length text)) (position_or_len is_separator text) at e in
    let within : position_or_len is_separator text < length text = ltb-true _ _ s.0 in
    (rw s.1 (slice_split_first is_separator text 0 within), rw s.1 within)

bare_first : (b : Bool) (n m : ℕ) → suc m ≤ cond (not b) (1 + n) 0 → (b ≡ false) × (m ≤ n)
bare_first true n m le = absurd (omega arith)
bare_first false n m le = (refl, omega arith)

none_any : (xs : List ℕ) → length xs ≤ position_or_len is_separator xs → list_any is_separator xs ≡ false
none_any [] le = refl
none_any (x ∷ xs) le =
    let b = bare_first (is_separator x) (position_or_len is_separator xs) (length xs) le in
    rw b.0 (none_any xs b.1)

-- a text without a separator is one field
pub one_field : (text : List ℕ) → None ≡ position is_separator text → slice_split is_separator text ≡ text ∷ []
one_field text e = split_whole text (none_any text (ltb-false _ _ (none_at _ _ e)))

-- ---- a step of the reader

-- the spans in these fields, which begin at this byte
abbrev pub spans_in : ℕ → List Category → List (List ℕ) → Option (List (ℕ × ℕ))
spans_in at cs fs = option_map (spans_from at cs) (parts_in cs fs)

-- the spans so far, with those to come
abbrev pub with_spans : List (ℕ × ℕ) → Option (List (ℕ × ℕ)) → Option (List (ℕ × ℕ))
with_spans spans o = option_map (λ more. spans ++ more) o

no_part : (at : ℕ) (c : Category) (cs : List Category) (f : List ℕ) (fs : List (List ℕ)) → part_in c f ≡ None → spans_in at (c ∷ cs) (f ∷ fs) ≡ None
no_part at c cs f fs e = rw e refl

map_more : (spans : List (ℕ × ℕ)) (at : ℕ) (c : Category) (cs : List Category) (p : List ℕ) (o : Option (List (List ℕ))) → with_spans spans (option_map (spans_from at (c ∷ cs)) (option_map (λ ps. p ∷ ps) o)) ≡ with_spans (spans ++ (at + length (field c []), length p) ∷ []) (option_map (spans_from (at + length (field c p) + 1) cs) o)
map_more spans at c cs p None = refl
map_more spans at c cs p (Some ps) = ap Some (sym (append_assoc spans ((at + length (field c []), length p) ∷ []) (spans_from (at + length (field c p) + 1) cs ps)))

-- one more field with its part
one_more : (spans : List (ℕ × ℕ)) (at : ℕ) (c : Category) (cs : List Category) (f p : List ℕ) (fs : List (List ℕ)) → part_in c f ≡ Some p → with_spans spans (spans_in at (c ∷ cs) (f ∷ fs)) ≡ with_spans (spans ++ (at + length f - length p, length p) ∷ []) (spans_in (at + length f + 1) cs fs)
one_more spans at c cs f p fs e =
    let i = field_is c f p e in
    let parts : parts_in (c ∷ cs) (f ∷ fs) ≡ option_map (λ ps. p ∷ ps) (parts_in cs fs) = rw e refl in
    let size : length f ≡ length (field c []) + length p = ap length (i.0 ∙ field_parts c p) ∙ length-append (field c []) p in
    let start : at + length (field c []) ≡ at + length f - length p = omega arith in
    let next : at + length (field c p) + 1 ≡ at + length f + 1 = ap (λ (x : List ℕ). at + length x + 1) (sym i.0) in
    ap (λ o. with_spans spans (option_map (spans_from at (c ∷ cs)) o)) parts
    ∙ (map_more spans at c cs p (parts_in cs fs)
    ∙ (ap (λ n. with_spans (spans ++ (n, length p) ∷ []) (spans_in (at + length (field c p) + 1) cs fs)) start
    ∙ ap (λ n. with_spans (spans ++ (at + length f - length p, length p) ∷ []) (spans_in n cs fs)) next))

next_category : (i : ℕ) → i < 5 → drop i categories ≡ get_or categories i Ctype ∷ drop (i + 1) categories
next_category i h = drop-cons categories i Ctype h ∙ ap (λ n. get_or categories i Ctype ∷ drop n categories) (sym (add-one i))

-- there is no field for the next category
pub field_missing : (all : Option (List (ℕ × ℕ))) (spans : List (ℕ × ℕ)) (i at : ℕ) (o : Option (List ℕ)) → all ≡ with_spans spans (spans_in at (drop i categories) (fields_of o)) → i < 5 → o ≡ None → None ≡ all
field_missing all spans i at o whole h none =
    sym (whole ∙ (ap (λ r. with_spans spans (spans_in at (drop i categories) (fields_of r))) none ∙ ap (λ cs. with_spans spans (spans_in at cs [])) (next_category i h)))

-- the next category has no part in its field
pub part_missing : (all : Option (List (ℕ × ℕ))) (spans : List (ℕ × ℕ)) (i at : ℕ) (o : Option (List ℕ)) (r f : List ℕ) (more : Option (List ℕ)) → all ≡ with_spans spans (spans_in at (drop i categories) (fields_of o)) → i < 5 → o ≡ Some r → slice_split is_separator r ≡ f ∷ fields_of more → part_in (get_or categories i Ctype) f ≡ None → None ≡ all
part_missing all spans i at o r f more whole h some cut none =
    sym (whole ∙ (ap (λ x. with_spans spans (spans_in at (drop i categories) (fields_of x))) some
    ∙ (ap (λ fs. with_spans spans (spans_in at (drop i categories) fs)) cut
    ∙ (ap (λ cs. with_spans spans (spans_in at cs (f ∷ fields_of more))) (next_category i h)
    ∙ ap (with_spans spans) (no_part at (get_or categories i Ctype) (drop (i + 1) categories) f (fields_of more) none)))))

-- the next category has its part
pub part_there : (all : Option (List (ℕ × ℕ))) (spans : List (ℕ × ℕ)) (i at : ℕ) (o : Option (List ℕ)) (r f p : List ℕ) (more : Option (List ℕ)) → all ≡ with_spans (take i spans) (spans_in at (drop i categories) (fields_of o)) → i < 5 → length spans ≡ 5 → o ≡ Some r → slice_split is_separator r ≡ f ∷ fields_of more → part_in (get_or categories i Ctype) f ≡ Some p → all ≡ with_spans (take (i + 1) (set spans i (at + length f - length p, length p))) (spans_in (at + (length f + 1)) (drop (i + 1) categories) (fields_of more))
part_there all spans i at o r f p more whole h five some cut is =
    let filled : take (i + 1) (set spans i (at + length f - length p, length p)) ≡ take i spans ++ (at + length f - length p, length p) ∷ [] = take_more_set spans i (at + length f - length p, length p) (omega arith) in
    whole ∙ (ap (λ x. with_spans (take i spans) (spans_in at (drop i categories) (fields_of x))) some
    ∙ (ap (λ fs. with_spans (take i spans) (spans_in at (drop i categories) fs)) cut
    ∙ (ap (λ cs. with_spans (take i spans) (spans_in at cs (f ∷ fields_of more))) (next_category i h)
    ∙ (one_more (take i spans) at (get_or categories i Ctype) (drop (i + 1) categories) f p (fields_of more) is
    ∙ (ap (λ n. with_spans (take i spans ++ (at + length f - length p, length p) ∷ []) (spans_in n (drop (i + 1) categories) (fields_of more))) (add_assoc at (length f) 1)
    ∙ ap (λ ss. with_spans ss (spans_in (at + (length f + 1)) (drop (i + 1) categories) (fields_of more))) (sym filled))))))

split_some : (r : List ℕ) → (f : List ℕ) × ((fs : List (List ℕ)) × (slice_split is_separator r ≡ f ∷ fs))
split_some [] = ([], ([], refl))
split_some (x ∷ xs) = of_split (is_separator x) (slice_split is_separator xs)
  where
    of_split : (b : Bool) (ps : List (List ℕ)) → (f : List ℕ) × ((fs : List (List ℕ)) × (cond b ([] ∷ ps) (onto_first x ps) ≡ f ∷ fs))
    of_split true ps = ([], (ps, refl))
    of_split false [] = (x ∷ [], ([], refl))
    of_split false (p ∷ ps) = (x ∷ p, (ps, refl))

-- something follows the field of the last category
pub field_too_many : (all : Option (List (ℕ × ℕ))) (spans : List (ℕ × ℕ)) (i at : ℕ) (o : Option (List ℕ)) (r : List ℕ) → all ≡ with_spans spans (spans_in at (drop i categories) (fields_of o)) → 5 ≤ i → o ≡ Some r → None ≡ all
field_too_many all spans i at o r whole h some =
    let past : drop i categories ≡ [] = drop_of_length-le categories h in
    let s = split_some r in
    sym (whole ∙ (ap (λ x. with_spans spans (spans_in at (drop i categories) (fields_of x))) some ∙ (ap (λ cs. with_spans spans (spans_in at cs (slice_split is_separator r))) past ∙ ap (λ fs. with_spans spans (spans_in at [] fs)) s.1.1)))
