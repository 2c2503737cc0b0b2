-- The operands of the first line of each keyword, as they are kept.
use Rattle.std.specs.Prelude.{◌≡◌, List}
use Rattle.std.specs.Option.{option_copied}
use Rattle.std.specs.Borrow.{Bor}
use Rattle.lc_base.specs.declared.place.Place.{Place}
use Rattle.lc_base.specs.Tables.{first_named}
use Rattle.charset.specs.Portable.{Name}
use Rattle.keywords.specs.declared.source.Value.{Value}
use Rattle.keywords.specs.declared.source.Entry.{Entry}
use Rattle.keywords.specs.Keywords.{operands}

-- a list of names gives the operands of the first line of each keyword
abbrev pub AreFirstLines : List Entry → List (Name × Bor (List (Place × Value))) → Type 0
AreFirstLines entries lines = (keyword : Name) → option_copied (first_named lines keyword) ≡ operands entries keyword
