-- The global locale as data (XSH setlocale).
use Rattle.std.specs.Prelude.{ℕ}
use Rattle.mask_compose.specs.Parts.{Parts}

-- an object, and how many times it was changed
pub record Versioned : Type 0 where
  pub version : ℕ
  pub object : Parts
