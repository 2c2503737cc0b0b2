use Rattle.std.proofs.Common.{◌≡◌, ℕ, List, Option, ap, sym, ◌∙◌}
use Rattle.mask_compose.specs.Parts.{Parts}
use Rattle.generations.specs.Grid.{GridData, with_cell}
use Rattle.lc_base.specs.declared.handle.Handle.{Handle}
use Rattle.lc_base.specs.declared.handle.Named.{Named}
use Rattle.handle_table.specs.declared.row.Row.{Row}
use Rattle.handle_table.specs.Kept.{IsShaped}
use Rattle.handle_table.proofs.kept.Kept.make.Goals as goal

-- another row and another object leave lines and places as they were
shape_stays : (rows made : GridData Row) (objects others : GridData Parts) (cells : GridData (Option Handle)) (selections : List Named) (t r : ℕ) (row : Row) (object : Parts)
    → made ≡ with_cell rows t r row → others ≡ with_cell objects t r object → IsShaped rows objects cells selections → IsShaped made others cells selections
shape_stays rows made objects others cells selections t r row object makes puts before =
    let lines : rows.lines ≡ made.lines = sym (ap (λ (g : GridData Row). g.lines) makes) in
    let width : rows.width ≡ made.width = sym (ap (λ (g : GridData Row). g.width) makes) in record {
      object_lines = ap (λ (g : GridData Parts). g.lines) puts ∙ before.object_lines ∙ lines;
      object_width = ap (λ (g : GridData Parts). g.width) puts ∙ before.object_width ∙ width;
      cell_lines = before.cell_lines ∙ lines;
      cell_width = before.cell_width;
      selected = before.selected ∙ lines;
    }

pub invariant_of-self : goal.invariant_of-self
invariant_of-self g c =
    shape_stays c.self.inside.rows c.make-generation.new.rows c.self.inside.objects c.put.new.self c.self.inside.cells c.self.inside.selections.items c.args.who c.args.row _
    c.args.object c.make-generation.ensures.rows c.put.ensures c.self.invariant
