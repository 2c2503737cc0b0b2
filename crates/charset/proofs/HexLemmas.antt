-- Numbers of at most eight hexadecimal digits fit 32 bits.
use Rattle.std.proofs.Common.{ℕ, ◌+◌, ◌*◌, ◌^◌, ◌<◌, ◌≤◌, arith}
use Rattle.std.proofs.Math.Nat.{pow-le-pow_right}

pub below_seven : (n i : ℕ) → n < 16 ^ i → i < 8 → n < 268435456
below_seven n i below few =
    let seven : i ≤ 7 = omega arith in
    let bound : 16 ^ i ≤ 16 ^ 7 = pow-le-pow_right {n = 16} (omega arith) {i = i} {j = 7} seven in
    omega arith

pub digit_fits : (n i d : ℕ) → n < 16 ^ i → i < 8 → d < 16 → n * 16 + d < 2 ^ 32
digit_fits n i d below few digit = omega (arith, below_seven n i below few)
