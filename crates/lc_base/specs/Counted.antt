-- Counts up to the last value of a u64, and streams with a count of their faults (our own rules).
use Rattle.std.specs.Prelude.{ℕ, ◌+◌, ◌-◌, ◌^◌, min}

-- one more, up to the last value
abbrev pub one_more : ℕ → ℕ
one_more n = min (n + 1) (2 ^ 64 - 1)

-- a stream of std, and how many of its calls failed
pub record Counted (A : Type 0) : Type 0 where
  pub inner : A
  pub faults : ℕ
