-- The lines of LC_CTYPE, by the rules of their keywords.
use Rattle.std.specs.Prelude.{Option}
use Rattle.lc_base.specs.declared.category.Category.TheVariants as categories
use Rattle.keywords.specs.declared.source.Entry.{Entry}
use Rattle.keywords.specs.declared.row.Rule.{Rule}
use Rattle.keywords.specs.LookUp.{rule_of}

-- the rule of a line's operands; none where its keyword is a declared class
unfoldable pub rule_of_line : Entry → Option Rule
rule_of_line e = rule_of categories.Ctype e.keyword
