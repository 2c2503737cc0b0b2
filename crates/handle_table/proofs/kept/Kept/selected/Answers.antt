use Rattle.std.proofs.Common.{◌<◌, length, ap, ◌∙◌, arith}
use Rattle.std.proofs.lemmas.List.{get_or_default}
use Rattle.std.specs.Prelude.{slice_index_or}
use Rattle.lc_base.specs.declared.handle.Named.TheVariants.{Global}
use Rattle.handle_table.specs.Kept.{KeptData}
use Rattle.handle_table.proofs.KeptSays.{selection_is}
use Rattle.handle_table.proofs.kept.Kept.selected.Goals as goal

pub returns : goal.returns
returns g c = λ s H k.
    let selections = c.self.inside.selections.items in
    let lines = ap (λ (v : KeptData). v.rows.lines) c.self.view_is in
    let count = c.self.invariant.selected in
    let within : c.args.who < length selections = omega (arith, c.requires) in
    c.index.ensures ∙ get_or_default selections c.args.who c.index.result.now Global within
    ∙ ap (λ (v : KeptData). slice_index_or v.selections c.args.who Global) c.self.view_is
    ∙ selection_is s H c.args.self.now c.args.who c.requires k
