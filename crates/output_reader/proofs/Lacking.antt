-- Bytes that numbers and names lack.
use Rattle.std.proofs.Common.{◌≡◌, ℕ, ◌+◌, ◌%◌, ◌^◌, ◌<◌, ◌≤◌, ◌||◌, ◌&&◌, Bool, true, false, List, [], ◌∷◌, ◌++◌, length, get_or, refl, ◌∙◌, arith}
use Rattle.std.specs.Prelude.{◌==◌}
use Rattle.std.specs.Fmt.{decimal}
use Rattle.std.specs.List.{list_any, list_all}
use Rattle.std.proofs.lemmas.Bool.{ne_eqb}
use Rattle.std.proofs.lemmas.Bool.Decides.{nat_tests}
use Rattle.std.proofs.lemmas.Fmt.{decimal_by_steps}
use Rattle.std.proofs.lemmas.List.Folds.{list_any-append, list_all_at}
use Rattle.script_words.specs.Names.{is_letter_or_digit, is_thread_name}
use Rattle.output_reader.specs.Lines.{AreThreadNames}
use Rattle.output_reader.specs.Reading.{Lacks}

pub lacks_append : (a b : List ℕ) (s : ℕ) → Lacks a s → Lacks b s → Lacks (a ++ b) s
lacks_append a b s la lb =
    let both : (list_any (λ c. c == s) a || list_any (λ c. c == s) b) ≡ false = rw (la, lb) refl in
    list_any-append (λ c. c == s) a b ∙ both

pub lacks_one : (c s : ℕ) → (c ≡ s → ⊥) → Lacks (c ∷ []) s
lacks_one c s apart = rw (ne_eqb c s apart) refl

pub decimal_lacks : (n s : ℕ) → n < 2 ^ 64 → s < 48 → Lacks (decimal n) s
decimal_lacks n s small low =
    decimal_by_steps (λ m ds. Lacks ds s)
    (λ m lt. lacks_one (48 + m) s (λ e. omega arith))
    (λ m ds le h. lacks_append ds ((48 + m % 10) ∷ []) s h (lacks_one (48 + m % 10) s (λ e. omega arith)))
    n small

pub decimal_lacks_letter : (n s : ℕ) → n < 2 ^ 64 → 57 < s → Lacks (decimal n) s
decimal_lacks_letter n s small high =
    decimal_by_steps (λ m ds. Lacks ds s)
    (λ m lt. lacks_one (48 + m) s (λ e. omega arith))
    (λ m ds le h. lacks_append ds ((48 + m % 10) ∷ []) s h (lacks_one (48 + m % 10) s (λ e. omega arith)))
    n small

and_parts : (a b : Bool) → (a && b) ≡ true → (a ≡ true) × (b ≡ true)
and_parts true b e = (refl, e)
and_parts false b e = cc

letter_is_not : (c s : ℕ) → is_letter_or_digit c ≡ true → s < 48 → (c == s) ≡ false
letter_is_not c s letter low =
    let least : 48 ≤ c = grind (arith, nat_tests) in
    ne_eqb c s (λ e. omega arith)

letters_lack : (name : List ℕ) (s : ℕ) → list_all is_letter_or_digit name ≡ true → s < 48 → Lacks name s
letters_lack [] s all low = refl
letters_lack (c ∷ cs) s all low =
    let both = and_parts (is_letter_or_digit c) (list_all is_letter_or_digit cs) all in
    rw (letter_is_not c s both.0 low) (letters_lack cs s both.1 low)

thread_name_lacks : (name : List ℕ) (s : ℕ) → is_thread_name name ≡ true → s < 48 → Lacks name s
unfolding is_thread_name
thread_name_lacks name s formed low = letters_lack name s (and_parts _ _ (and_parts _ _ formed).0).1 low

not_false : (b : Bool) → (b ≡ false → ⊥) → b ≡ true
not_false true h = refl
not_false false h = absurd (h refl)

-- the name of a thread has no space, dot or comma
pub name_lacks : (names : List (List ℕ)) (t s : ℕ) → AreThreadNames names → t < length names → s < 48 → Lacks (get_or names t []) s
name_lacks names t s all lt low =
    thread_name_lacks (get_or names t []) s
    (not_false (is_thread_name (get_or names t [])) (λ f. cc (list_all_at is_thread_name names t [] lt f, all)))
    low
