use Rattle.std.proofs.Common.{◌∷◌, [], Option, ap, sym, ◌∙◌}
use Rattle.std.specs.Option.{option_or}
use Rattle.handle_table.specs.declared.op.Refusal.{Refusal}
use Rattle.handle_table.specs.History.{free_row}
use Rattle.handle_table.specs.Answer.{no_data, global_handle, never_made, stale, too_many}
use Rattle.handle_table.specs.Seen.{reason_of}
use Rattle.handle_table.proofs.Reasons.{lone_reason, or_none, first_or}
use Rattle.handle_table.proofs.checks.has_place.Goals as goal

pub returns-in-None : goal.returns-in-None
returns-in-None g c = λ H mask names k.
    let row : Option Refusal = too_many (free_row c.args.setting.now H c.args.who) in
    let lacks : Option Refusal = no_data c.args.setting.now H mask names in
    rw c.in-None.is (first_or lacks (row ∷ []) ∙ ap (option_or lacks) (lone_reason row ∙ sym (c.has_row.ensures H k)))

pub returns-in-Some : goal.returns-in-Some
returns-in-Some g c = λ H mask names k.
    let n = c.in-Some.base in
    let lacks : Option Refusal = no_data c.args.setting.now H mask names in
    rw c.in-Some.is (first_or lacks (global_handle n ∷ never_made H n ∷ stale H n ∷ [])
    ∙ ap (option_or lacks) (c.is_object.ensures c.args.setting.now H [] k ∙ or_none (reason_of c.is_object.result)))
