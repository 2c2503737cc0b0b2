use Rattle.std.proofs.Common.{ap, sym, ◌∙◌, map}
use Rattle.lc_base.specs.Tables.{first_named}
use Rattle.output_reader.specs.declared.words.TheConstants.{FIELDS}
use Rattle.output_reader.proofs.FirstWords.{field_found}
use Rattle.output_reader.proofs.words.field.Goals as goal

pub returns : goal.returns
returns c = λ k is. c.first_named.ensures ∙ ap (λ w. first_named (map (λ row. (row.0.now, row.1)) FIELDS) w) (sym is) ∙ field_found k
