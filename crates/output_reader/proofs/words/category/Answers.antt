use Rattle.std.proofs.Common.{ap, sym, ◌∙◌, map}
use Rattle.lc_base.specs.Tables.{first_named}
use Rattle.output_reader.specs.declared.words.TheConstants.{CATEGORY_NAMES}
use Rattle.output_reader.proofs.FirstWords.{category_found}
use Rattle.output_reader.proofs.words.category.Goals as goal

pub returns : goal.returns
returns c = λ k is. c.first_named.ensures ∙ ap (λ w. first_named (map (λ row. (row.0.now, row.1)) CATEGORY_NAMES) w) (sym is) ∙ category_found k
