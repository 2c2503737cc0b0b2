-- Texts laid one behind the other.
use Rattle.std.proofs.Common.{◌≡◌, ℕ, zero, suc, ◌+◌, ◌<◌, ◌≤◌, List, [], ◌∷◌, ◌++◌, length, map, take, drop, Bool, true, false, nat_eq, Some, get_or, slice_set, refl, sym, ap, ◌∙◌, arith}
use Rattle.std.specs.Prelude.{slice_get, slice_index}
use Rattle.std.proofs.lemmas.Bool.Decides.{nat_tests}
use Rattle.std.proofs.lemmas.Grind.{get_or-set_at}
use Rattle.std.proofs.lemmas.List.{append_assoc, length-append, take-append-drop, get_or-set_other, drop_at, take_at}
use Rattle.text_buffer.specs.Written.{over}
use Rattle.text_buffer.proofs.WrittenLemmas.{over_front}
use Rattle.std.proofs.lemmas.Option.{slice_get_within, get_or_from_slice_get}
use Rattle.std.proofs.Math.Seq.{take-suc}
use Rattle.langinfo.specs.Items.{info}
use Rattle.langinfo.specs.Conv.{bare_texts}
use Rattle.langinfo.specs.declared.categories.LentCategories.{LentCategories}
use Rattle.shared_objects.specs.Shared.{Shared}
use Rattle.shared_objects.specs.Objects.{ctype_in, numeric_in, monetary_in, time_in, messages_in}
use Rattle.c_values.specs.Conv.{conv_in}
use Rattle.c_values.specs.Items.{items}
use Rattle.c_values.specs.Table.{all_texts, laid, texts_by}

-- ---- elements of two lists

pub in_front : {A : Type 0} (xs ys : List A) (i : ℕ) (x : A) → slice_get xs i ≡ Some x → slice_get (xs ++ ys) i ≡ Some x
in_front [] ys i x h = absurd (omega (arith, slice_get_within [] i x h))
in_front (y ∷ xs) ys zero x h = h
in_front (y ∷ xs) ys (suc i) x h = in_front xs ys i x h

pub behind : {A : Type 0} (xs ys : List A) (i : ℕ) → slice_get (xs ++ ys) (length xs + i) ≡ slice_get ys i
behind [] ys i =
    let here : 0 + i ≡ i = omega arith in
    ap (λ k. slice_get ys k) here
behind (x ∷ xs) ys i =
    let next : suc (length xs) + i ≡ suc (length xs + i) = omega arith in
    ap (λ k. slice_get (x ∷ (xs ++ ys)) k) next ∙ behind xs ys i

-- ---- texts

pub laid_append : (xs ys : List (List ℕ)) → laid (xs ++ ys) ≡ laid xs ++ laid ys
laid_append [] ys = refl
laid_append (x ∷ xs) ys = ap (λ t. x ++ (0 ∷ t)) (laid_append xs ys) ∙ sym (append_assoc x (0 ∷ laid xs) (laid ys))

-- one more text
pub laid_more : (texts : List (List ℕ)) (i : ℕ) (text : List ℕ) → slice_get texts i ≡ Some text → laid (take (i + 1) texts) ≡ laid (take i texts) ++ (text ++ 0 ∷ [])
laid_more texts i text found =
    let next : i + 1 ≡ suc i = omega arith in
    ap (λ k. laid (take k texts)) next
    ∙ ap (λ t. laid t) (take-suc texts i [] (slice_get_within texts i text found))
    ∙ laid_append (take i texts) (get_or texts i [] ∷ [])
    ∙ ap (λ t. laid (take i texts) ++ (t ++ 0 ∷ [])) (get_or_from_slice_get texts i text [] found)

-- how long it is
pub length_more : (texts : List (List ℕ)) (i : ℕ) (text : List ℕ) → slice_get texts i ≡ Some text → length (laid (take (i + 1) texts)) ≡ length (laid (take i texts)) + (length text + 1)
length_more texts i text found =
    ap (λ t. length t) (laid_more texts i text found)
    ∙ length-append (laid (take i texts)) (text ++ 0 ∷ [])
    ∙ ap (λ n. length (laid (take i texts)) + n) (length-append text (0 ∷ []))

-- the first texts are no longer than all
pub laid_within : (texts : List (List ℕ)) (i : ℕ) → length (laid (take i texts)) ≤ length (laid texts)
laid_within texts i =
    let whole : length (laid texts) ≡ length (laid (take i texts)) + length (laid (drop i texts)) =
    ap (λ t. length (laid t)) (sym (take-append-drop i texts)) ∙ ap (λ t. length t) (laid_append (take i texts) (drop i texts)) ∙ length-append (laid (take i texts)) (laid (drop i texts)) in
    omega (arith, whole)

-- ---- where they begin

-- one more start
pub start_more : (starts : List ℕ) (i end : ℕ) (f : ℕ → ℕ) → i < length starts → end ≡ f i → ((k : ℕ) → k < i → slice_index starts k ≡ f k) → (k : ℕ) → k < i + 1 → slice_index (slice_set starts i end) k ≡ f k
start_more starts i end f inside is before k low = one (nat_eq k i) refl where
  one : (b : Bool) → nat_eq k i ≡ b → slice_index (slice_set starts i end) k ≡ f k
  one true e =
      let same : k ≡ i = grind (arith, nat_tests, e) in
      get_or-set_at starts i k end 0 same inside ∙ is ∙ ap f (sym same)
  one false e = get_or-set_other starts i k end 0 (λ (same : k ≡ i). absurd (grind (arith, nat_tests, e, same))) ∙ before k (grind (arith, nat_tests, e, low))

-- the texts by categories that are lent
pub texts_same : (o : Shared) (g : LentCategories) → g.ctype.now ≡ ctype_in o → g.numeric.now ≡ numeric_in o → g.monetary.now ≡ monetary_in o → g.time.now ≡ time_in o → g.messages.now ≡ messages_in o → texts_by o g ≡ all_texts o
texts_same o g a b c d e =
    let rest : List (List ℕ) = bare_texts (conv_in o).texts in
    ap (λ v. map (info v g.numeric.now g.monetary.now g.time.now g.messages.now) items ++ rest) a
    ∙ ap (λ v. map (info (ctype_in o) v g.monetary.now g.time.now g.messages.now) items ++ rest) b
    ∙ ap (λ v. map (info (ctype_in o) (numeric_in o) v g.time.now g.messages.now) items ++ rest) c
    ∙ ap (λ v. map (info (ctype_in o) (numeric_in o) (monetary_in o) v g.messages.now) items ++ rest) d
    ∙ ap (λ v. map (info (ctype_in o) (numeric_in o) (monetary_in o) (time_in o) v) items ++ rest) e

-- a text stands at its start
pub text_stands : (old new : List ℕ) (texts : List (List ℕ)) (k start : ℕ) (text : List ℕ) → slice_get texts k ≡ Some text → new ≡ over old 0 (laid texts) → start ≡ length (laid (take k texts)) → take (length text + 1) (drop start new) ≡ text ++ 0 ∷ []
text_stands old new texts k start text found written begins =
    let front : List ℕ = laid (take k texts) in
    let piece : List ℕ = text ++ 0 ∷ [] in
    let back : List ℕ = laid (drop (k + 1) texts) in
    let rest : List ℕ = drop (length (laid texts)) old in
    let parts : laid texts ≡ (front ++ piece) ++ back =
    ap (λ t. laid t) (sym (take-append-drop (k + 1) texts)) ∙ laid_append (take (k + 1) texts) (drop (k + 1) texts) ∙ ap (λ t. t ++ back) (laid_more texts k text found) in
    let whole : new ≡ front ++ (piece ++ (back ++ rest)) =
    written ∙ over_front old (laid texts) ∙ ap (λ t. t ++ rest) parts ∙ append_assoc (front ++ piece) back rest ∙ append_assoc front piece (back ++ rest) in
    let size : length piece ≡ length text + 1 = length-append text (0 ∷ []) in
    ap (λ t. take (length text + 1) (drop start t)) whole
    ∙ ap (λ t. take (length text + 1) t) (drop_at front (piece ++ (back ++ rest)) start (sym begins))
    ∙ take_at piece (back ++ rest) (length text + 1) size
