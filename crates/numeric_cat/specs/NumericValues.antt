-- What a program can ask of LC_NUMERIC (XBD 7.3.4).
use Rattle.std.specs.Prelude.{ℕ, ℤ, List}

pub record NumericValues : Type 0 where
  pub decimal_point : List ℕ
  pub thousands_sep : List ℕ
  pub grouping : List ℤ
