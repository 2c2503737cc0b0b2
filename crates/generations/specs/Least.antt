-- The least number that passes a test.
use Rattle.std.specs.Prelude.{ℕ, zero, suc, Bool, if◌then◌else◌, Option, None, Some}
use Rattle.std.specs.Option.{option_or}

-- the least number below n that passes the test
abbrev pub least_below : ℕ → (ℕ → Bool) → Option ℕ
least_below zero p = None
least_below (suc n) p = option_or (least_below n p) (if p n then Some n else None)
