-- Values as they are kept, on small examples.
use Rattle.std.proofs.Common.{◌≡◌, ℕ, List, [], ◌∷◌, Bor, refl}
use Rattle.std.specs.Prelude.{codes, pos}
use Rattle.lc_base.specs.declared.place.Place.{Place}
use Rattle.keywords.specs.declared.source.Value.TheVariants.{Text, Number, Chars, Pair}
use Rattle.keywords.specs.declared.cells.ValueRef.TheVariants.{Text as TextRef, Pair as PairRef}
use Rattle.keywords.specs.declared.cells.Content.{Content}
use Rattle.keywords.specs.declared.cells.Content.TheVariants.{Short, Long, Number as Whole, One, Range, Pair as Two}
use Rattle.keywords.specs.declared.cells.Cell.{Cell}
use Rattle.keywords.specs.Cells.{seen, Pairs, values_in}

abbrev at : Place
at = record { line = 2; column = 7 }

abbrev cell : Content → Cell
cell content = record { place = at; content = content }

abbrev pairs : Pairs
pairs = (65, 90) ∷ (0, 4) ∷ []

-- each kind of cell, over four bytes
kinds : values_in pairs (codes "abcd") (cell (Short 2 1) ∷ cell (Long 1) ∷ cell (Whole (pos 7)) ∷ cell (One 65) ∷ cell (Range 0) ∷ cell (Two 0) ∷ [])
    ≡ (at, Text (codes "bc")) ∷ (at, Text (codes "abcd")) ∷ (at, Number (pos 7)) ∷ (at, Chars 65 65) ∷ (at, Chars 65 90) ∷ (at, Pair 65 90) ∷ []
kinds = refl

-- a borrowed text is that text, and a borrowed pair has the order of the pair
seen-text : (text : Bor (List ℕ)) → seen (TextRef text) ≡ Text text.now
seen-text text = refl

seen-pair : seen (PairRef 97 65) ≡ Pair 97 65
seen-pair = refl
