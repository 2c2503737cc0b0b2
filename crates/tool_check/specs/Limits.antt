-- Limits, as numbers (our own).
use Rattle.std.specs.Prelude.{ℕ}

-- how many looks there are: one at what stands outside of sections, and one at each category
abbrev pub LOOK_COUNT : ℕ
LOOK_COUNT = 6
