use Rattle.std.proofs.Common.{rules, FitsSigned, w32, ◌∙◌}
use Rattle.std.proofs.Math.Facts.{to_z-of_z}
use Rattle.keywords.proofs.values.number_value.Goals as goal

pub returns : goal.returns
returns c =
    let other : FitsSigned w32 c.posix_number.result = search rules in
    let fits : FitsSigned w32 c.number_or.result = search rules in
    let is = rw (to_z-of_z other) at c.number_or.ensures in
    to_z-of_z fits ∙ (rw c.posix_number.ensures at is)
