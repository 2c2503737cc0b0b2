use Rattle.std.proofs.Common.{ap, ◌∙◌, arith}
use Rattle.handle_table.specs.Entry.{Setting}
use Rattle.generations.specs.Least.{least_below}
use Rattle.generations.specs.Rows.{is_free_row}
use Rattle.handle_table.specs.Rows.{counts, row_at}
use Rattle.handle_table.specs.Kept.{KeptData}
use Rattle.handle_table.proofs.KeptSays.{free_row_is, if_free_inside, if_free_makes}
use Rattle.handle_table.proofs.kept.Kept.free_row.Goals as goal

pub returns-clause-row : goal.returns-clause-row
returns-clause-row g c = λ H k.
    c.free_row.ensures
    ∙ ap (λ (v : KeptData). least_below v.rows.width (λ r. is_free_row counts c.setting.inside.generations (row_at v.rows c.args.who r))) c.self.view_is
    ∙ ap (λ (v : Setting). least_below c.args.self.now.rows.width (λ r. is_free_row counts v.generations (row_at c.args.self.now.rows c.args.who r))) c.setting.view_is
    ∙ free_row_is c.args.setting.now H c.args.self.now c.args.who c.requires k

pub returns-clause-inside : goal.returns-clause-inside
returns-clause-inside g c =
    if_free_inside c.setting.inside.generations c.args.self.now.rows c.args.who c.free_row.result
    (c.free_row.ensures
    ∙ ap (λ (v : KeptData). least_below v.rows.width (λ r. is_free_row counts c.setting.inside.generations (row_at v.rows c.args.who r))) c.self.view_is)

pub returns-clause-makes : goal.returns-clause-makes
returns-clause-makes g c =
    if_free_makes c.setting.inside.generations 4294967295 c.args.self.now.rows c.args.who c.free_row.result (omega arith)
    (c.free_row.ensures
    ∙ ap (λ (v : KeptData). least_below v.rows.width (λ r. is_free_row counts c.setting.inside.generations (row_at v.rows c.args.who r))) c.self.view_is)
