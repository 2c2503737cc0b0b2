-- What the charset of a charmap keeps beside its names.
use Rattle.std.specs.Prelude.{◌≡◌, ℕ, List, All}
use Rattle.charset.specs.Entries.{Entry}
use Rattle.charset.specs.CodedSet.{listed, has, big_endian}
use Rattle.charset.specs.ShortBytes.{shortest}
use Rattle.class_ranges.specs.Ranges.{covers}

-- an entry has the one encoding that its wide value may have
abbrev pub IsShort : Entry → Type 0
IsShort e = shortest (big_endian e.1) ≡ e.1

-- ranges that have just the values of the charset with these names, and encodings that their values give back
pub record IsListing (name : List ℕ) (entries : List Entry) (ranges : List (ℕ × ℕ)) : Type 0 where
  pub covered : (w : ℕ) → covers ranges w ≡ has (listed name entries) w
  pub short : All IsShort entries
