-- Numbers as bytes without zeros in front.
use Rattle.std.proofs.Common.{◌≡◌, ℕ, zero, suc, ◌+◌, ◌/◌, ◌%◌, ◌<◌, ◌≤◌, Bool, true, false, cond, [], ◌∷◌, ◌++◌, length, ◌∙◌, arith, length-append}
use Rattle.std.specs.Bool.{nat_lt}
use Rattle.std.proofs.lemmas.Bool.Decides.{nat_tests}
use Rattle.std.proofs.lemmas.Int.Digits.{number_push}
use Rattle.charset.specs.CodedSet.{big_endian}
use Rattle.charset.specs.ShortBytes.{short_bytes, shortest}

-- one byte is read as itself
big_endian-one : (n : ℕ) → big_endian (n ∷ []) ≡ n
big_endian-one n = omega arith

-- the bytes of a number are read as the number
big_endian-short_bytes : (more n : ℕ) → big_endian (short_bytes more n) ≡ n
big_endian-short_bytes zero n = big_endian-one n
big_endian-short_bytes (suc more) n =
    let P : Bool → Type 0 = λ b. big_endian (cond b (n ∷ []) (short_bytes more (n / 256) ++ n % 256 ∷ [])) ≡ n in
    elim (nat_lt n 256) as P [
      | true ↦ big_endian-one n
      | false ↦ number_push 256 (short_bytes more (n / 256)) (n % 256) ∙ omega (arith, big_endian-short_bytes more (n / 256))
    ]

-- the one encoding that may have a wide value has it
pub big_endian-shortest : (n : ℕ) → big_endian (shortest n) ≡ n
big_endian-shortest n = big_endian-short_bytes 3 n

-- there are at most so many bytes and one more
length-short_bytes : (more n : ℕ) → length (short_bytes more n) ≤ more + 1
length-short_bytes zero n = omega arith
length-short_bytes (suc more) n =
    let P : Bool → Type 0 = λ b. length (cond b (n ∷ []) (short_bytes more (n / 256) ++ n % 256 ∷ [])) ≤ suc more + 1 in
    elim (nat_lt n 256) as P [
      | true ↦ omega arith
      | false ↦ omega (arith, length-append (short_bytes more (n / 256)) (n % 256 ∷ []), length-short_bytes more (n / 256))
    ]

-- an encoding has at most four bytes
pub length-shortest : (n : ℕ) → length (shortest n) ≤ 4
length-shortest n = length-short_bytes 3 n

-- a number below 256 is its own byte
pub shortest-one : (n : ℕ) → n < 256 → shortest n ≡ n ∷ []
shortest-one n small = grind (arith, nat_tests)
