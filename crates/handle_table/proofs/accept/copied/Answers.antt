use Rattle.std.proofs.Common.{ap, sym, ◌∙◌}
use Rattle.global_locale.specs.Versioned.{Versioned}
use Rattle.handle_table.specs.Entry.{Dup}
use Rattle.handle_table.specs.History.{object_named, object, global}
use Rattle.handle_table.specs.Answer.{first_reason, reasons}
use Rattle.handle_table.proofs.AcceptsOf.{live_of_dup}
use Rattle.handle_table.proofs.accept.copied.Goals as goal

pub returns-in-Global : goal.returns-in-Global
returns-in-Global g c = λ H w k none.
    let s = c.args.setting.now in
    c.share.ensures ∙ c.peek.ensures ∙ ap (λ (v : Versioned). v.object) c.global.ensures ∙ k.global.object
    ∙ sym (ap (object_named (object s H) (global s H)) c.in-Global.is)

pub returns-in-Of : goal.returns-in-Of
returns-in-Of g c = λ H w k none.
    let s = c.args.setting.now in
    c.object.ensures H k (live_of_dup s H w c.in-Of.h (sym (ap (λ n. first_reason (reasons s H w (Dup n))) c.in-Of.is) ∙ none))
    ∙ sym (ap (object_named (object s H) (global s H)) c.in-Of.is)
