-- Amounts of money (our own).
use Rattle.std.specs.Prelude.{ℕ, ℤ}

-- an amount: units / 10 ^ scale
pub record MoneyAmount : Type 0 where
  pub units : ℤ
  pub scale : ℕ
