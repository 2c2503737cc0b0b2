use Rattle.std.proofs.Common.{Some, sym, ap, ◌∙◌, subst}
use Rattle.handle_table.specs.declared.op.Reply.{Reply as ReplyOf}
use Rattle.handle_table.specs.Entry.{New}
use Rattle.handle_table.specs.Seen.{reply_of}
use Rattle.thread_current.specs.Thread.{before}
use Rattle.thread_current.proofs.Refusals.{OnNew, on_new, reason_is}
use Rattle.thread_current.proofs.shared.Shared.newlocale.Given as given
use Rattle.thread_current.proofs.shared.Shared.newlocale.Goals as goal
use Rattle.thread_current.proofs.shared.Shared.newlocale.Goals.{In-Refused}

against : (g : given.Over) (c : In-Refused g) → OnNew c.args.self.now.terms.setting (before c.enter-place.new.mine) c.args.mine.now.number c.args.mask c.args.names c.args.base (Some c.in-Refused.refusal)
against g c =
    let C = c.args.self.now.terms.setting in
    let H = before c.enter-place.new.mine in
    let n = c.args.mine.now.number in
    let op = New c.args.mask c.args.names c.args.base in
    let is = ap (λ (r : ReplyOf g.row.P.Denot). reply_of r) (sym c.in-Refused.is) ∙ c.enter-place.ensures.answered.reply_is in
    subst (OnNew C H n c.args.mask c.args.names c.args.base) (reason_is C H n op _ is) (on_new C H n c.args.mask c.args.names c.args.base)

pub returns-in-Refused-clause-no_data : goal.returns-in-Refused-clause-no_data
returns-in-Refused-clause-no_data g c = (against g c).no_data

pub returns-in-Refused-clause-global_handle : goal.returns-in-Refused-clause-global_handle
returns-in-Refused-clause-global_handle g c = (against g c).global_handle

pub returns-in-Refused-clause-never_made : goal.returns-in-Refused-clause-never_made
returns-in-Refused-clause-never_made g c = (against g c).never_made

pub returns-in-Refused-clause-stale : goal.returns-in-Refused-clause-stale
returns-in-Refused-clause-stale g c = (against g c).stale

pub returns-in-Refused-clause-too_many : goal.returns-in-Refused-clause-too_many
returns-in-Refused-clause-too_many g c = (against g c).too_many
