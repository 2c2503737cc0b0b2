-- The numbers of items (our own), in the order of XBD <langinfo.h>.
use Rattle.std.specs.Prelude.{ℕ, List, [], ◌∷◌, slice_get, Option}
use Rattle.lc_base.specs.declared.item.Item.{Item}
use Rattle.lc_base.specs.declared.item.Item.TheVariants.{Codeset, DTFmt, DFmt, TFmt, TFmtAmpm, AmStr, PmStr, Day1, Day2, Day3, Day4, Day5, Day6, Day7, Abday1, Abday2, Abday3, Abday4, Abday5, Abday6, Abday7, Mon1, Mon2, Mon3, Mon4, Mon5, Mon6, Mon7, Mon8, Mon9, Mon10, Mon11, Mon12, Abmon1, Abmon2, Abmon3, Abmon4, Abmon5, Abmon6, Abmon7, Abmon8, Abmon9, Abmon10, Abmon11, Abmon12, Era, EraDFmt, EraDTFmt, EraTFmt, AltDigits, Radixchar, Thousep, Yesexpr, Noexpr, Crncystr}

abbrev pub items : List Item
items =
    Codeset ∷ DTFmt ∷ DFmt ∷ TFmt ∷ TFmtAmpm ∷ AmStr ∷ PmStr ∷ Day1 ∷ Day2 ∷ Day3 ∷ Day4 ∷ Day5 ∷ Day6 ∷ Day7 ∷ Abday1 ∷ Abday2 ∷ Abday3 ∷ Abday4 ∷ Abday5 ∷ Abday6 ∷ Abday7 ∷ Mon1 ∷ Mon2 ∷ Mon3 ∷ Mon4 ∷ Mon5 ∷ Mon6 ∷ Mon7 ∷ Mon8 ∷ Mon9 ∷ Mon10 ∷ Mon11 ∷ Mon12 ∷ Abmon1 ∷ Abmon2 ∷ Abmon3 ∷ Abmon4 ∷ Abmon5 ∷ Abmon6 ∷ Abmon7 ∷ Abmon8 ∷ Abmon9 ∷ Abmon10 ∷ Abmon11 ∷ Abmon12 ∷ Era ∷ EraDFmt ∷ EraDTFmt ∷ EraTFmt ∷ AltDigits ∷ Radixchar ∷ Thousep ∷ Yesexpr ∷ Noexpr ∷ Crncystr ∷ []

-- the item with a number, from 0
unfoldable pub item_of : ℕ → Option Item
item_of number = slice_get items number
