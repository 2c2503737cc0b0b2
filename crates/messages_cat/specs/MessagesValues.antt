-- What a program can ask of LC_MESSAGES (XBD 7.3.6).
use Rattle.std.specs.Prelude.{ℕ, List}

pub record MessagesValues : Type 0 where
  pub yesexpr : List ℕ
  pub noexpr : List ℕ
