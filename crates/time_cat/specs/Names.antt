-- The fronts of names.
use Rattle.std.specs.Prelude.{◌≡◌, ◌≤◌, ℕ, List, length, take}

-- a front has 16 bytes, and a text that has at most so many is at its beginning
pub record IsFront (text front : List ℕ) : Type 0 where
  pub wide : length front ≡ 16
  pub short : length text ≤ 16 → take (length text) front ≡ text
