-- Texts written one behind the other, and the name of a locale.
use Rattle.std.proofs.Common.{◌≡◌, ℕ, ◌+◌, ◌≤◌, List, [], ◌∷◌, ◌++◌, length, drop, ap, ◌∙◌, arith}
use Rattle.std.proofs.lemmas.List.{append_assoc, length-append}
use Rattle.text_buffer.specs.Written.{over}
use Rattle.text_buffer.proofs.WrittenLemmas.{over_front, over_then}
use Rattle.c_values.specs.Answers.{filled}

-- a text behind another
pub then_written : (old mid new : List ℕ) (at end : ℕ) (a b : List ℕ) → at ≤ length old → end ≡ at + length a → mid ≡ over old at a → new ≡ over mid end b → new ≡ over old at (a ++ b)
then_written old mid new at end a b fits ends first second = second ∙ ap (λ m. over m end b) first ∙ over_then old at end a b fits ends

-- where a text behind another ends
pub then_ends : (at end last : ℕ) (a b : List ℕ) → end ≡ at + length a → last ≡ end + length b → last ≡ at + length (a ++ b)
then_ends at end last a b first second = omega (arith, first, second, length-append a b)

-- a text and a NUL from the front on
pub filled_over : (old text : List ℕ) → over old 0 (text ++ 0 ∷ []) ≡ filled old text
filled_over old text =
    over_front old (text ++ 0 ∷ [])
    ∙ append_assoc text (0 ∷ []) (drop (length (text ++ 0 ∷ [])) old)
    ∙ ap (λ n. text ++ (0 ∷ drop n old)) (length-append text (0 ∷ []))

-- five texts one behind the other
flat : (f g h i j : List ℕ) → (((f ++ g) ++ h) ++ i) ++ j ≡ f ++ (g ++ (h ++ (i ++ j)))
flat f g h i j = append_assoc ((f ++ g) ++ h) i j ∙ append_assoc (f ++ g) h (i ++ j) ∙ append_assoc f g (h ++ (i ++ j))

-- five texts and a NUL from the front on
pub five_filled : (old b1 b2 b3 b4 b5 new : List ℕ) (n1 n2 n3 n4 n5 : ℕ) (f g h i j : List ℕ)
    → n1 ≡ 0 + length f → b1 ≡ over old 0 f
    → n2 ≡ n1 + length g → b2 ≡ over b1 n1 g
    → n3 ≡ n2 + length h → b3 ≡ over b2 n2 h
    → n4 ≡ n3 + length i → b4 ≡ over b3 n3 i
    → n5 ≡ n4 + length j → b5 ≡ over b4 n4 j
    → new ≡ over b5 n5 (0 ∷ [])
    → new ≡ filled old (f ++ (g ++ (h ++ (i ++ j))))
five_filled old b1 b2 b3 b4 b5 new n1 n2 n3 n4 n5 f g h i j e1 w1 e2 w2 e3 w3 e4 w4 e5 w5 last =
    let fits : 0 ≤ length old = omega arith in
    let f2 : List ℕ = f ++ g in
    let f3 : List ℕ = f2 ++ h in
    let f4 : List ℕ = f3 ++ i in
    let f5 : List ℕ = f4 ++ j in
    let t2 : n2 ≡ 0 + length f2 = then_ends 0 n1 n2 f g e1 e2 in
    let t3 : n3 ≡ 0 + length f3 = then_ends 0 n2 n3 f2 h t2 e3 in
    let t4 : n4 ≡ 0 + length f4 = then_ends 0 n3 n4 f3 i t3 e4 in
    let t5 : n5 ≡ 0 + length f5 = then_ends 0 n4 n5 f4 j t4 e5 in
    let v2 : b2 ≡ over old 0 f2 = then_written old b1 b2 0 n1 f g fits e1 w1 w2 in
    let v3 : b3 ≡ over old 0 f3 = then_written old b2 b3 0 n2 f2 h fits t2 v2 w3 in
    let v4 : b4 ≡ over old 0 f4 = then_written old b3 b4 0 n3 f3 i fits t3 v3 w4 in
    let v5 : b5 ≡ over old 0 f5 = then_written old b4 b5 0 n4 f4 j fits t4 v4 w5 in
    then_written old b5 new 0 n5 f5 (0 ∷ []) fits t5 v5 last
    ∙ filled_over old f5
    ∙ ap (λ t. filled old t) (flat f g h i j)

-- lists of five texts
pub five_same : (a b c d e a' b' c' d' e' : List ℕ) → a ≡ a' → b ≡ b' → c ≡ c' → d ≡ d' → e ≡ e' → a ∷ b ∷ c ∷ d ∷ e ∷ [] ≡ a' ∷ b' ∷ c' ∷ d' ∷ e' ∷ []
five_same a b c d e a' b' c' d' e' ha hb hc hd he =
    ap (λ x. x ∷ b ∷ c ∷ d ∷ e ∷ []) ha
    ∙ ap (λ x. a' ∷ x ∷ c ∷ d ∷ e ∷ []) hb
    ∙ ap (λ x. a' ∷ b' ∷ x ∷ d ∷ e ∷ []) hc
    ∙ ap (λ x. a' ∷ b' ∷ c' ∷ x ∷ e ∷ []) hd
    ∙ ap (λ x. a' ∷ b' ∷ c' ∷ d' ∷ x ∷ []) he
