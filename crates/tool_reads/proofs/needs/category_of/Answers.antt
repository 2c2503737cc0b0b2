use Rattle.std.proofs.Common.{subst}
use Rattle.lc_base.specs.declared.category.Category.{Category}
use Rattle.tool_reads.specs.ItemCategories.{AreAlike}
use Rattle.tool_reads.proofs.ItemLemmas.{alike_item}
use Rattle.tool_reads.proofs.needs.category_of.Goals as goal

pub returns-clause-enough : goal.returns-clause-enough
returns-clause-enough c v w e = alike_item c.args.item v w (subst (λ (k : Category). AreAlike k v w) c.category_row.ensures e)
