-- What a locale name stands for (our own).
use Rattle.std.specs.Prelude.{ℕ, ◌<◌, List, length}
use Rattle.std.specs.List.{All}
use Rattle.mask_compose.specs.Parts.{Parts}

-- an object, and the mask of the categories that it has; in another category its part is the POSIX locale's
pub record Offered : Type 0 where
  pub object : Parts
  pub available : ℕ

-- an offer of nothing: the POSIX locale's object, with no category
abbrev pub no_offer : Offered
no_offer = record { object = record { ctype = 0; numeric = 0; monetary = 0; time = 0; messages = 0 }; available = 0 }

-- numbers of locale names that are on a shelf of offers
abbrev pub AreOnShelf : List Offered → List ℕ → Type 0
AreOnShelf offers numbers = All (λ n. n < length offers) numbers
