use Rattle.std.proofs.Common.{ap, ◌∙◌, arith}
use Rattle.mask_compose.specs.Offer.{no_offer}
use Rattle.generations.specs.Grid.{cell}
use Rattle.handle_table.specs.Kept.{KeptData}
use Rattle.handle_table.proofs.KeptSays.{object_is}
use Rattle.handle_table.proofs.kept.Kept.object.Goals as goal
use Rattle.handle_table.proofs.kept.Kept.object.Goals.{else-h-lines-via-then-h-lines+else-h-width, else-h-lines-via-else-h-lines}

pub returns-then-h-width : goal.returns-then-h-width
returns-then-h-width g c = λ H k alive.
    c.share.ensures ∙ c.at.ensures no_offer.object
    ∙ ap (λ (v : KeptData). cell v.objects c.args.h.owner c.args.h.row no_offer.object) c.self.view_is
    ∙ (object_is c.args.setting.now H c.args.self.now c.args.h k alive).2

pub returns : goal.returns
returns g c = λ H k alive.
    let inside = object_is c.args.setting.now H c.args.self.now c.args.h k alive in
    let owner = inside.0 in
    let row = inside.1 in
    let lines = ap (λ (v : KeptData). v.rows.lines) c.self.view_is in
    let width = ap (λ (v : KeptData). v.rows.width) c.self.view_is in
    let shape = c.self.invariant in
    elim c.else-h-lines.branch [
      | else-h-lines-via-then-h-lines+else-h-width w ↦ absurd (omega arith)
      | else-h-lines-via-else-h-lines w ↦ absurd (omega arith)
    ]
