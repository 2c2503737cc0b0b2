-- The bytes of a number: as many as are asked for, or as few as it needs.
use Rattle.std.specs.Int.{w32, to_be_bytes, byte_at, bytes_high_first}
use Rattle.std.specs.Int.Count.{count_leading_zeros}
use Rattle.std.proofs.Common.{◌≡◌, ℕ, zero, suc, ◌+◌, ◌-◌, min, ◌*◌, ◌/◌, ◌%◌, ◌^◌, ◌<◌, ◌≤◌, ◌⊎◌, inl, inr, ⊎_elim, List, [], ◌∷◌, ◌++◌, drop, refl, sym, ◌∙◌, ap, arith}
use Rattle.std.proofs.Math.Nat.{pow-suc, pow-le-pow_right, div-div-eq-div-mul}
use Rattle.std.proofs.lemmas.Bool.{lt-ltb, le-ltb}
use Rattle.std.proofs.lemmas.Nat.{leading_length}
use Rattle.charset.specs.ShortBytes.{short_bytes, shortest}

-- ---- as many bytes as a number needs

-- a byte of a number is a lower byte of what stands before its last
byte_before : (k n : ℕ) → byte_at (suc k) n ≡ byte_at k (n / 256)
byte_before zero n = refl
byte_before (suc k) n =
    let power : 256 ^ suc (suc k) ≡ 256 * 256 ^ suc k = omega (arith, pow-suc 256 (suc k)) in
    ap (λ (m : ℕ). n / m % 256) power ∙ ap (λ (m : ℕ). m % 256) (sym (div-div-eq-div-mul n 256 (256 ^ suc k)))

-- one byte more of a number
pub high_first-more : (k n : ℕ) → bytes_high_first (suc k) n ≡ bytes_high_first k (n / 256) ++ n % 256 ∷ []
high_first-more zero n = refl
high_first-more (suc k) n =
    let front : byte_at (suc k) n ≡ byte_at k (n / 256) = byte_before k n in
    let rest : bytes_high_first (suc k) n ≡ bytes_high_first k (n / 256) ++ n % 256 ∷ [] = high_first-more k n in
    cc

-- so many bytes of a number are its fewest, if the first is not zero or is the last
high_first-short_bytes : (more len n : ℕ) → len ≤ more → n < 256 ^ suc len → (len ≡ 0) ⊎ (256 ^ len ≤ n) → bytes_high_first (suc len) n ≡ short_bytes more n
high_first-short_bytes zero zero n few below least = ap (λ (x : ℕ). x ∷ []) (omega arith)
high_first-short_bytes zero (suc len) n few below least = absurd (omega arith)
high_first-short_bytes (suc more) zero n few below least =
    let small : n < 256 = omega arith in
    rw (lt-ltb n 256 small) (ap (λ (x : ℕ). x ∷ []) (omega arith))
high_first-short_bytes (suc more) (suc len) n few below least =
    let power : 256 ^ suc len ≡ 256 ^ len * 256 = pow-suc 256 len in
    let larger : 256 ^ suc (suc len) ≡ 256 ^ suc len * 256 = pow-suc 256 (suc len) in
    let some : 256 ^ 0 ≤ 256 ^ len = pow-le-pow_right {n = 256} (omega arith) {i = 0} {j = len} (omega arith) in
    let much : 256 ≤ n = omega arith in
    let front : bytes_high_first (suc len) (n / 256) ≡ short_bytes more (n / 256) = high_first-short_bytes more len (n / 256) (omega arith) (omega arith) (inr (omega arith)) in
    rw (le-ltb n 256 much) (high_first-more (suc len) n ∙ ap (λ (bs : List ℕ). bs ++ n % 256 ∷ []) front)

-- the same of one to four bytes
pub high_first-shortest : (len n : ℕ) → 1 ≤ len → len ≤ 4 → n < 256 ^ len → (len ≡ 1) ⊎ (256 ^ (len - 1) ≤ n) → bytes_high_first len n ≡ shortest n
high_first-shortest zero n some few below least = absurd (omega arith)
high_first-shortest (suc len) n some few below least = high_first-short_bytes 3 len n (omega arith) below (let count : suc len - 1 ≡ len = omega arith in ⊎_elim (λ e. inl (omega arith)) (λ e. inr (rw count at e)) least)

-- ---- reading bytes, one after another

-- a number of at most three bytes is below this bound
three_bytes : (n i : ℕ) → n < 256 ^ i → i < 4 → n < 16777216
three_bytes n i below few =
    let bound : 256 ^ i ≤ 256 ^ 3 = pow-le-pow_right {n = 256} (omega arith) {i = i} {j = 3} (omega arith) in
    omega arith

-- a byte more fits 32 bits
pub byte_more-fits : (n i b : ℕ) → n < 256 ^ i → i < 4 → b < 256 → n * 256 + b < 2 ^ 32
byte_more-fits n i b below few byte = omega (arith, three_bytes n i below few)

-- ---- the bytes of 32 bits without zeros in front

-- the last bytes of 32 bits
drop-to_be_bytes : (w front : ℕ) → front ≤ 4 → drop front (to_be_bytes w32 w) ≡ bytes_high_first (4 - front) w
drop-to_be_bytes w zero few = refl
drop-to_be_bytes w (suc zero) few = refl
drop-to_be_bytes w (suc (suc zero)) few = refl
drop-to_be_bytes w (suc (suc (suc zero))) few = refl
drop-to_be_bytes w (suc (suc (suc (suc zero)))) few = refl
drop-to_be_bytes w (suc (suc (suc (suc (suc more))))) few = absurd (omega arith)

-- powers of two by their places
pow-le : (i j : ℕ) → i ≤ j → 2 ^ i ≤ 2 ^ j
pow-le i j less = pow-le-pow_right {n = 2} (omega arith) {i = i} {j = j} less

-- a number with so many zero bytes in front, of which at most three count, has so many bytes
leading-bytes : (w count m front : ℕ) → count + m ≡ 32 → w < 2 ^ m → 2 ^ m ≤ 2 * w + 1 → front ≡ min (count / 8) 3 → (w < 256 ^ (4 - front)) × ((4 - front ≡ 1) ⊎ (256 ^ (4 - front - 1) ≤ w))
leading-bytes w count m zero whole below least zeros = (omega (arith, pow-le m 32 (omega arith)), inr (omega (arith, pow-le 25 m (omega arith))))
leading-bytes w count m (suc zero) whole below least zeros = (omega (arith, pow-le m 24 (omega arith)), inr (omega (arith, pow-le 17 m (omega arith))))
leading-bytes w count m (suc (suc zero)) whole below least zeros = (omega (arith, pow-le m 16 (omega arith)), inr (omega (arith, pow-le 9 m (omega arith))))
leading-bytes w count m (suc (suc (suc zero))) whole below least zeros = (omega (arith, pow-le m 8 (omega arith)), inl refl)
leading-bytes w count m (suc (suc (suc (suc more)))) whole below least zeros = absurd (omega arith)

-- the bytes of 32 bits without those zeros in front are the fewest
pub drop-to_be_bytes-shortest : (w front : ℕ) → w < 2 ^ 32 → front ≡ min (count_leading_zeros 32 w / 8) 3 → drop front (to_be_bytes w32 w) ≡ shortest w
drop-to_be_bytes-shortest w front fits zeros =
    let lead : (m : ℕ) × (count_leading_zeros 32 w + m ≡ 32) × (w < 2 ^ m) × (2 ^ m ≤ 2 * w + 1) = leading_length 32 w fits in
    let size : (w < 256 ^ (4 - front)) × ((4 - front ≡ 1) ⊎ (256 ^ (4 - front - 1) ≤ w)) = leading-bytes w (count_leading_zeros 32 w) lead.0 front lead.1 lead.2 lead.3 zeros in
    drop-to_be_bytes w front (omega arith) ∙ high_first-shortest (4 - front) w (omega arith) (omega arith) size.0 size.1
