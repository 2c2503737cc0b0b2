use Rattle.std.proofs.Common.{[], length, replicate, Option, None, refl, ap, sym, ◌∙◌, arith}
use Rattle.mask_compose.specs.Offer.{Offered}
use Rattle.handle_table.specs.Entry.{Setting}
use Rattle.handle_table.specs.Kept.{ShelfStands}
use Rattle.handle_table.proofs.Fresh.{shelf_fresh}
use Rattle.handle_table.proofs.kept.Kept.new.Given as given
use Rattle.handle_table.proofs.kept.Kept.new.Goals as goal
use Rattle.handle_table.proofs.kept.Kept.new.Goals.{After-first_global}

pub invariant_of-result : goal.invariant_of-result
invariant_of-result g c =
    let rows = c.in_ok-rows.ensures.rows.shape in
    let objects = c.in_ok-rows.ensures.objects.shape in
    let cells = c.in_ok-selections.ensures.cells.shape in record {
      object_lines = objects.lines ∙ sym rows.lines;
      object_width = objects.width ∙ sym rows.width;
      cell_lines = cells.lines ∙ sym rows.lines;
      cell_width = cells.width;
      selected = c.in_ok-selections.ensures.selections.count ∙ sym rows.lines;
    }

shelf : (g : given.Over) (c : After-first_global g) → ShelfStands c.args.setting.now [] c.in_ok-installed.installed.items
shelf g c =
    shelf_fresh _ _ (c.in_ok-installed.ensures
    ∙ ap (λ n. replicate {A = Option Offered} n None) (c.len.ensures ∙ ap (λ (v : Setting). length v.opening) c.setting.view_is))

pub returns-clause-keeps : goal.returns-clause-keeps
returns-clause-keeps g c =
    let some = ap (λ (v : Setting). length v.opening) c.setting.view_is in record {
      legal = tt;
      callers = tt;
      opening = omega (arith, c.setting.invariant);
      rows = c.in_ok-rows.ensures.rows;
      objects = c.in_ok-rows.ensures.objects;
      selections = c.in_ok-selections.ensures.selections;
      cells = c.in_ok-selections.ensures.cells;
      shelf = shelf g c;
      installs = refl;
      global = c.first_global.ensures;
    }

pub returns-clause-table : goal.returns-clause-table
returns-clause-table g c =
    let version = c.first_global.ensures.version in record {
      few = c.in_ok-rows.ensures.rows.few;
      lines = c.in_ok-rows.ensures.rows.shape.lines;
      shelf = (shelf g c).count;
      installs = omega arith;
      version = omega arith;
    }
