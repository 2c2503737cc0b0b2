-- The bits of words, and of the four words of a page.
use Rattle.std.proofs.Common.{◌≡◌, ℕ, zero, suc, ◌+◌, ◌*◌, ◌/◌, ◌%◌, ◌^◌, ◌<◌, ◌≤◌, ◌≢◌, Bool, true, false, [], ◌∷◌, bit_and, bit_or, nat_eq, w64, refl, sym, ap, ◌∙◌, subst, arith}
use Rattle.std.specs.Prelude.{slice_index}
use Rattle.std.specs.Int.{bit_at}
use Rattle.std.proofs.lemmas.Bool.Decides.{nat_tests}
use Rattle.std.proofs.lemmas.Nat.Bits.{bit_at_set_same, bit_at_set_other, shr_and_one}
use Rattle.class_ranges.specs.Pages.{has_bit, in_page}

-- the bits of a word below a place are the answers of a test, and those from it on are 0
pub record IsWordTo (test : ℕ → Bool) (word k : ℕ) : Type 0 where
  pub done : (j : ℕ) → j < k → has_bit word j ≡ test j
  pub empty : (j : ℕ) → k ≤ j → bit_at word j ≡ 0

pub with_bit : (test : ℕ → Bool) (word k : ℕ) → k < 64 → test k ≡ true → IsWordTo test word k → IsWordTo test (bit_or word (1 * 2 ^ k % 2 ^ 64)) (k + 1)
with_bit test word k within here done =
    let other : (j : ℕ) → j ≢ k → bit_at (bit_or word (1 * 2 ^ k % 2 ^ 64)) j ≡ bit_at word j = λ j ne. bit_at_set_other w64 word k within j ne in
    let same : bit_at (bit_or word (1 * 2 ^ k % 2 ^ 64)) k ≡ 1 = bit_at_set_same w64 word k within in
    record {
      done = λ j below.
          let P : ℕ → Type 0 = λ i. has_bit (bit_or word (1 * 2 ^ k % 2 ^ 64)) i ≡ test i in
          elim (nat_eq j k) as (λ b. nat_eq j k ≡ b → has_bit (bit_or word (1 * 2 ^ k % 2 ^ 64)) j ≡ test j) [
            | true ↦ λ is. let eq : k ≡ j = grind (arith, nat_tests) in subst P eq (ap (λ n. nat_eq n 1) same ∙ sym here)
            | false ↦ λ is. let ne : j ≢ k = grind (arith, nat_tests) in let under : j < k = omega arith in ap (λ n. nat_eq n 1) (other j ne) ∙ done.done j under
          ] refl;
      empty = λ j above. let ne : j ≢ k = omega arith in other j ne ∙ done.empty j (omega arith);
    }

pub without_bit : (test : ℕ → Bool) (word k : ℕ) → test k ≡ false → IsWordTo test word k → IsWordTo test word (k + 1)
without_bit test word k here done = record {
  done = λ j below.
      let P : ℕ → Type 0 = λ i. has_bit word i ≡ test i in
      elim (nat_eq j k) as (λ b. nat_eq j k ≡ b → has_bit word j ≡ test j) [
        | true ↦ λ is. let eq : k ≡ j = grind (arith, nat_tests) in subst P eq (ap (λ n. nat_eq n 1) (done.empty k (omega arith)) ∙ sym here)
        | false ↦ λ is. let ne : j ≢ k = grind (arith, nat_tests) in let under : j < k = omega arith in done.done j under
      ] refl;
  empty = λ j above. done.empty j (omega arith);
}

-- the test of a bit as code makes it
pub bit_test : (word k : ℕ) → nat_eq (bit_and (word / 2 ^ k) 1) 1 ≡ has_bit word k
bit_test word k = ap (λ n. nat_eq n 1) (shr_and_one word k)

-- a bit of one of four words
four_cases : (test : ℕ → Bool) (first a b c d : ℕ)
    → ((k : ℕ) → k < 64 → has_bit a k ≡ test (first + k))
    → ((k : ℕ) → k < 64 → has_bit b k ≡ test (first + 64 + k))
    → ((k : ℕ) → k < 64 → has_bit c k ≡ test (first + 128 + k))
    → ((k : ℕ) → k < 64 → has_bit d k ≡ test (first + 192 + k))
    → (q r : ℕ) → q < 4 → r < 64 → has_bit (slice_index (a ∷ b ∷ c ∷ d ∷ []) q) r ≡ test (first + 64 * q + r)
four_cases test first a b c d in_a in_b in_c in_d zero r q_below below = let at : first + r ≡ first + 64 * zero + r = omega arith in in_a r below ∙ ap test at
four_cases test first a b c d in_a in_b in_c in_d (suc zero) r q_below below = let at : first + 64 + r ≡ first + 64 * suc zero + r = omega arith in in_b r below ∙ ap test at
four_cases test first a b c d in_a in_b in_c in_d (suc (suc zero)) r q_below below = let at : first + 128 + r ≡ first + 64 * suc (suc zero) + r = omega arith in in_c r below ∙ ap test at
four_cases test first a b c d in_a in_b in_c in_d (suc (suc (suc zero))) r q_below below = let at : first + 192 + r ≡ first + 64 * suc (suc (suc zero)) + r = omega arith in in_d r below ∙ ap test at
four_cases test first a b c d in_a in_b in_c in_d (suc (suc (suc (suc q)))) r q_below below = absurd (omega arith)

-- a page of four words
pub four_words : (test : ℕ → Bool) (first a b c d : ℕ)
    → ((k : ℕ) → k < 64 → has_bit a k ≡ test (first + k))
    → ((k : ℕ) → k < 64 → has_bit b k ≡ test (first + 64 + k))
    → ((k : ℕ) → k < 64 → has_bit c k ≡ test (first + 128 + k))
    → ((k : ℕ) → k < 64 → has_bit d k ≡ test (first + 192 + k))
    → (k : ℕ) → k < 256 → in_page (a ∷ b ∷ c ∷ d ∷ []) k ≡ test (first + k)
four_words test first a b c d in_a in_b in_c in_d k within =
    let low : k % 64 < 64 = omega arith in
    let at : first + 64 * (k / 64) + k % 64 ≡ first + k = omega arith in
    four_cases test first a b c d in_a in_b in_c in_d (k / 64) (k % 64) (omega arith) low ∙ ap test at
