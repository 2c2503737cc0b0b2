-- The keywords of LC_TIME, and what their operands are (XBD 7.3.5.2; the ranks and the number of alternative digits are our own).
use Rattle.std.specs.Prelude.{ℕ, List, Option, Some, None}
use Rattle.lc_base.specs.declared.category.Category.TheVariants as categories
use Rattle.keywords.specs.declared.row.Rule.{Rule}
use Rattle.keywords.specs.declared.row.Rule.TheVariants.{Names, Format}
use Rattle.keywords.specs.LookUp.{rule_of}

-- what the operands of a keyword are: so many names, a format of a rank, segments of eras, or alternative digits
unfoldable pub takes_of : List ℕ → Option Rule
takes_of keyword = rule_of categories.Time keyword

-- how many texts there are, where the keyword fixes it
abbrev pub fixed_count : Rule → Option ℕ
fixed_count (Names n) = Some n
fixed_count (Format rank) = Some 1
fixed_count _ = None
