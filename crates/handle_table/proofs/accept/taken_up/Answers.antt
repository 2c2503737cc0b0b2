use Rattle.std.proofs.Common.{Some, ap, sym, ◌∙◌}
use Rattle.mask_compose.specs.Parts.{Parts}
use Rattle.handle_table.specs.Entry.{Use}
use Rattle.handle_table.specs.Answer.{target_object, first_reason, reasons}
use Rattle.handle_table.proofs.AcceptsOf.{live_of_use}
use Rattle.handle_table.proofs.accept.taken_up.Goals as goal

pub returns-in-Of : goal.returns-in-Of
returns-in-Of g c = λ H w k none.
    let s = c.args.setting.now in
    ap (λ (o : Parts). Some o) (c.object.ensures H k (live_of_use s H w c.in-Of.h (sym (ap (λ n. first_reason (reasons s H w (Use n))) c.in-Of.is) ∙ none)))
    ∙ sym (ap (target_object s H) c.in-Of.is)
