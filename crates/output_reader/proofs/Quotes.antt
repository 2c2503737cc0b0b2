-- Texts in quotes, and lists behind spaces, read from the front.
use Rattle.std.proofs.Common.{◌≡◌, ℕ, ◌+◌, ◌*◌, ◌/◌, ◌%◌, ◌^◌, ◌<◌, ◌||◌, Bool, true, false, List, [], ◌∷◌, ◌++◌, length, get_or, drop, refl, ap, sym, ◌∙◌, arith, ◌⊎◌, inl, inr, lit<, nat_lt, Bor, Option, Some, None}
use Rattle.std.specs.Prelude.{◌==◌, ◌≢◌, MatchOption, if◌then◌else◌}
use Rattle.std.specs.Fmt.{decimal}
use Rattle.std.specs.List.{flat_map, AllByRecursion}
use Rattle.std.proofs.lemmas.Bool.{eqb-true, eqb-false, ltb-true}
use Rattle.std.proofs.lemmas.Fmt.{decimal_nonempty}
use Rattle.std.proofs.lemmas.List.{append_assoc, append-nil}
use Rattle.script_out.specs.Output.{hex_digit, escaped, texts_text, numbers_text}
use Rattle.output_reader.specs.Reading.{EndsTexts, IsBehindWord, Lacks}
use Rattle.output_reader.proofs.Lacking.{decimal_lacks}

-- ---- bytes of a text in quotes

or_none : (a b : Bool) → (a || b) ≡ false → (a ≡ false) × (b ≡ false)
or_none true b e = cc
or_none false b e = (refl, e)

-- the three forms of a byte: behind a backslash, as two digits, and bare
abbrev pub IsEscape : ℕ → List ℕ → Type 0
IsEscape c text = ((text ≡ 92 ∷ c ∷ []) × (c ≢ 120)) ⊎ (((c < 256) × (text ≡ 92 ∷ 120 ∷ hex_digit (c / 16) ∷ hex_digit (c % 16) ∷ [])) ⊎ ((text ≡ c ∷ []) × (c ≢ 34) × (c ≢ 92)))

bare_is : (c : ℕ) (a b : Bool) → (c == 34) ≡ a → (c == 92) ≡ b → (a || b) ≡ false → (c ≢ 34) × (c ≢ 92)
bare_is c a b ea eb none =
    let both = or_none a b none in
    let first : (c == 34) ≡ false = ea ∙ both.0 in
    let second : (c == 92) ≡ false = eb ∙ both.1 in
    (eqb-false c 34 first, eqb-false c 92 second)

quote_is : (c : ℕ) (a b : Bool) → (c == 34) ≡ a → (c == 92) ≡ b → (a || b) ≡ true → c ≢ 120
quote_is c true b ea eb some = λ e. let is : c ≡ 34 = eqb-true c 34 ea in absurd (omega arith)
quote_is c false true ea eb some = λ e. let is : c ≡ 92 = eqb-true c 92 eb in absurd (omega arith)
quote_is c false false ea eb some = cc

control_is : (c : ℕ) (a b : Bool) → nat_lt c 32 ≡ a → (c == 127) ≡ b → (a || b) ≡ true → c < 256
control_is c true b ea eb some = let low : c < 32 = ltb-true c 32 ea in omega arith
control_is c false true ea eb some = let is : c ≡ 127 = eqb-true c 127 eb in omega arith
control_is c false false ea eb some = cc

escape_of : (c : ℕ) (q k : Bool) → ((c == 34) || (c == 92)) ≡ q → (nat_lt c 32 || (c == 127)) ≡ k → IsEscape c (if q then 92 ∷ c ∷ [] else if k then 92 ∷ 120 ∷ hex_digit (c / 16) ∷ hex_digit (c % 16) ∷ [] else c ∷ [])
escape_of c true k eq ek = inl (refl, quote_is c (c == 34) (c == 92) refl refl eq)
escape_of c false true eq ek = inr (inl (control_is c (nat_lt c 32) (c == 127) refl refl ek, refl))
escape_of c false false eq ek =
    let apart = bare_is c (c == 34) (c == 92) refl refl eq in
    inr (inr (refl, apart.0, apart.1))

pub is_escape : (c : ℕ) → IsEscape c (escaped c)
is_escape c = escape_of c ((c == 34) || (c == 92)) (nat_lt c 32 || (c == 127)) refl refl

-- ---- what is read of a text, and what is left of it

abbrev pub IsTextLeft : List ℕ → List ℕ → List ℕ → List ℕ → List ℕ → Type 0
IsTextLeft text items left rest later = (text ≡ items ++ later) × (left ≡ flat_map escaped later ++ 34 ∷ rest)

pub text_step : (text items left rest later : List ℕ) (c : ℕ) (behind : List ℕ) → IsTextLeft text items left rest later → ((d : ℕ) (r : List ℕ) → left ≡ escaped d ++ r → (c ≡ d) × (behind ≡ r)) → ((r : List ℕ) → left ≡ 34 ∷ r → ⊥) → (more : List ℕ) × IsTextLeft text (items ++ c ∷ []) behind rest more
text_step text items left rest [] c behind is back quote = absurd (quote rest is.1)
text_step text items left rest (d ∷ ds) c behind is back quote =
    let both = back d (flat_map escaped ds ++ 34 ∷ rest) (is.1 ∙ append_assoc (escaped d) (flat_map escaped ds) (34 ∷ rest)) in
    (ds, (is.0 ∙ ap (λ k. items ++ k ∷ ds) (sym both.0) ∙ sym (append_assoc items (c ∷ []) ds), both.1))

pub text_over : (text items left rest later : List ℕ) → IsTextLeft text items left rest later → ((d : ℕ) (r : List ℕ) → left ≡ escaped d ++ r → ⊥) → (items ≡ text) × (left ≡ 34 ∷ rest)
text_over text items left rest [] is none = (sym (is.0 ∙ append-nil items), is.1)
text_over text items left rest (d ∷ ds) is none = absurd (none d (flat_map escaped ds ++ 34 ∷ rest) (is.1 ∙ append_assoc (escaped d) (flat_map escaped ds) (34 ∷ rest)))

-- ---- texts behind spaces

abbrev pub AreTextsLeft : List (List ℕ) → List (List ℕ) → List ℕ → List ℕ → List (List ℕ) → Type 0
AreTextsLeft all found left rest later = (all ≡ found ++ later) × (left ≡ texts_text later ++ rest)

-- a text behind its space and its quote
first_text : (t : List ℕ) (ts : List (List ℕ)) (rest : List ℕ) → texts_text (t ∷ ts) ++ rest ≡ 32 ∷ 34 ∷ (flat_map escaped t ++ 34 ∷ (texts_text ts ++ rest))
first_text t ts rest = ap (λ l. 32 ∷ 34 ∷ l) (append_assoc (flat_map escaped t ++ 34 ∷ []) (texts_text ts) rest ∙ append_assoc (flat_map escaped t) (34 ∷ []) (texts_text ts ++ rest))

no_text : (rest body : List ℕ) → EndsTexts rest → rest ≡ 32 ∷ 34 ∷ body → ⊥
no_text rest body ends is = ends (ap (λ l. get_or l 1 0) is)

-- the first of the texts that are left stands at the front
pub text_there : (all found : List (List ℕ)) (left rest body : List ℕ) (later : List (List ℕ)) → EndsTexts rest → AreTextsLeft all found left rest later → left ≡ 32 ∷ 34 ∷ body → (t : List ℕ) × (ts : List (List ℕ)) × (all ≡ found ++ t ∷ ts) × (body ≡ flat_map escaped t ++ 34 ∷ (texts_text ts ++ rest))
text_there all found left rest body [] ends is at = absurd (no_text rest body ends (sym is.1 ∙ at))
text_there all found left rest body (t ∷ ts) ends is at = (t, ts, is.0, ap (λ l. drop 2 l) (sym at ∙ is.1 ∙ first_text t ts rest))

pub texts_over : (all found : List (List ℕ)) (left rest : List ℕ) (later : List (List ℕ)) → AreTextsLeft all found left rest later → ((r : List ℕ) → left ≡ 32 ∷ 34 ∷ r → ⊥) → (found ≡ all) × (left ≡ rest)
texts_over all found left rest [] is none = (sym (is.0 ∙ append-nil found), is.1)
texts_over all found left rest (t ∷ ts) is none = absurd (none _ (is.1 ∙ first_text t ts rest))

pub push_later : {A : Type 0} (all found : List A) (t u : A) (ts : List A) → all ≡ found ++ t ∷ ts → u ≡ t → all ≡ (found ++ u ∷ []) ++ ts
push_later all found t u ts is same = is ∙ ap (λ k. found ++ k ∷ ts) (sym same) ∙ sym (append_assoc found (u ∷ []) ts)

-- ---- numbers behind spaces

abbrev pub AreNumbersLeft : List ℕ → List ℕ → List ℕ → List ℕ → Type 0
AreNumbersLeft all found left later = (all ≡ found ++ later) × (left ≡ numbers_text later) × AllByRecursion (λ n. n < 2 ^ 8) later

first_number : (n : ℕ) (ns : List ℕ) → numbers_text (n ∷ ns) ≡ 32 ∷ (decimal n ++ numbers_text ns)
first_number n ns = refl

pub numbers_behind : (ns : List ℕ) → IsBehindWord (numbers_text ns)
numbers_behind [] = refl
numbers_behind (n ∷ ns) = refl

pub number_there : (all found left more later : List ℕ) → AreNumbersLeft all found left later → left ≡ 32 ∷ more → (n : ℕ) × (ns : List ℕ) × (all ≡ found ++ n ∷ ns) × (more ≡ decimal n ++ numbers_text ns) × (n < 2 ^ 8) × AllByRecursion (λ n. n < 2 ^ 8) ns
number_there all found left more [] is at = absurd (cc (is.1, at))
number_there all found left more (n ∷ ns) is at = (n, ns, is.0, ap (λ l. drop 1 l) (sym at ∙ is.1 ∙ first_number n ns), is.2.0, is.2.1)

pub numbers_over : (all found left later : List ℕ) → AreNumbersLeft all found left later → ((r : List ℕ) → left ≡ 32 ∷ r → ⊥) → found ≡ all
numbers_over all found left [] is none = sym (is.0 ∙ append-nil found)
numbers_over all found left (n ∷ ns) is none = absurd (none (decimal n ++ numbers_text ns) (is.1 ∙ first_number n ns))

pub all_push : (found : List ℕ) (n : ℕ) → AllByRecursion (λ n. n < 2 ^ 8) found → n < 2 ^ 8 → AllByRecursion (λ n. n < 2 ^ 8) (found ++ n ∷ [])
all_push [] n all one = (one, tt)
all_push (x ∷ xs) n all one = (all.0, all_push xs n all.1 one)

-- ---- bytes behind a backslash

value_back : (c : ℕ) (rest : List ℕ) (r : Option (ℕ × Bor (List ℕ))) → MatchOption r ⊥ (λ x. (x.0 ≡ c / 16 * 16 + c % 16) × (x.1.now ≡ rest)) → MatchOption r ⊥ (λ x. (x.0 ≡ c) × (x.1.now ≡ rest))
value_back c rest None h = h
value_back c rest (Some x) h = (omega (arith, h.0), h.1)

escape_read : (behind : List ℕ) (r : Option (ℕ × Bor (List ℕ))) (c : ℕ) (text rest : List ℕ) → IsEscape c text → ((d : ℕ) (more : List ℕ) → d ≢ 120 → behind ≡ d ∷ more → MatchOption r ⊥ (λ x. (x.0 ≡ d) × (x.1.now ≡ more))) → ((high low : ℕ) (more : List ℕ) → high < 16 → low < 16 → behind ≡ 120 ∷ hex_digit high ∷ hex_digit low ∷ more → MatchOption r ⊥ (λ x. (x.0 ≡ high * 16 + low) × (x.1.now ≡ more))) → 92 ∷ behind ≡ text ++ rest → MatchOption r ⊥ (λ x. (x.0 ≡ c) × (x.1.now ≡ rest))
escape_read behind r c text rest (inl h) same value is = same c rest h.1 (ap (λ l. drop 1 l) (is ∙ ap (λ t. t ++ rest) h.0))
escape_read behind r c text rest (inr (inl h)) same value is = value_back c rest r (value (c / 16) (c % 16) rest (omega (arith, h.0)) (omega arith) (ap (λ l. drop 1 l) (is ∙ ap (λ t. t ++ rest) h.1)))
escape_read behind r c text rest (inr (inr h)) same value is = absurd (h.2 (sym (ap (λ l. get_or l 0 0) (is ∙ ap (λ t. t ++ rest) h.0))))

pub escape_back : (bytes behind : List ℕ) (r : Option (ℕ × Bor (List ℕ))) → bytes ≡ 92 ∷ behind → ((d : ℕ) (more : List ℕ) → d ≢ 120 → behind ≡ d ∷ more → MatchOption r ⊥ (λ x. (x.0 ≡ d) × (x.1.now ≡ more))) → ((high low : ℕ) (more : List ℕ) → high < 16 → low < 16 → behind ≡ 120 ∷ hex_digit high ∷ hex_digit low ∷ more → MatchOption r ⊥ (λ x. (x.0 ≡ high * 16 + low) × (x.1.now ≡ more))) → (c : ℕ) (rest : List ℕ) → bytes ≡ escaped c ++ rest → MatchOption r ⊥ (λ x. (x.0 ≡ c) × (x.1.now ≡ rest))
escape_back bytes behind r at same value c rest is = escape_read behind r c (escaped c) rest (is_escape c) same value (sym at ∙ is)

-- ---- behind the texts stand numbers or nothing

first_apart : (digits more : List ℕ) → 0 < length digits → Lacks digits 34 → get_or (digits ++ more) 0 0 ≢ 34
first_apart [] more some lacks = absurd (omega arith)
first_apart (d ∷ ds) more some lacks = eqb-false d 34 (or_none (d == 34) _ lacks).0

pub ends_texts : (ns : List ℕ) → AllByRecursion (λ n. n < 2 ^ 8) ns → EndsTexts (numbers_text ns)
ends_texts [] fit = λ e. absurd (omega arith)
ends_texts (n ∷ ns) fit = first_apart (decimal n) (numbers_text ns) (decimal_nonempty n (omega (arith, fit.0))) (decimal_lacks n 34 (omega (arith, fit.0)) (lit< tt))
