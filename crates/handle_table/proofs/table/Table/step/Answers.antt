use Rattle.std.proofs.Common.{◌≡◌, ap, refl, sym, subst, ◌∙◌, arith}
use Rattle.handle_table.specs.Entry.{is_accepted}
use Rattle.handle_table.specs.Answer.{answer, entry, own_after, own}
use Rattle.handle_table.specs.Seen.{op_of, reply_of}
use Rattle.handle_table.specs.Kept.{Keeps}
use Rattle.handle_table.specs.Table.{TableData}
use Rattle.handle_table.proofs.Changes.{own_of_caller}
use Rattle.handle_table.proofs.Unchanged.{refused_changes_nothing}
use Rattle.handle_table.proofs.Isolated.{answer_apart}
use Rattle.handle_table.proofs.table.Table.step.Goals as goal

pub answer-reply-requires-clause-few : goal.answer-reply-requires-clause-few
answer-reply-requires-clause-few g c =
    let setting_is = ap (λ (v : TableData). v.setting.threads) c.self.view_is in
    let few = c.self.invariant.few in
    omega (arith, c.requires.who)

pub returns-clause-refused : goal.returns-clause-refused
returns-clause-refused g c = λ H s refused.
    let op = op_of c.args.op in
    let keeps = subst (λ (v : TableData). Keeps v.setting H v.kept) (sym c.self.view_is) s.keeps in
    let answered : reply_of c.answer-reply.result ≡ answer c.args.self.now.setting H c.args.who op =
    c.answer-reply.ensures.replies H keeps ∙ ap (λ (v : TableData). answer v.setting H c.args.who op) c.self.view_is
    in
    refused_changes_nothing c.args.self.now.setting (entry c.args.self.now.setting H c.args.who op) H (sym (ap is_accepted answered) ∙ refused)

pub returns-clause-own_taken : goal.returns-clause-own_taken
returns-clause-own_taken g c = λ H s.
    let op = op_of c.args.op in
    let keeps = subst (λ (v : TableData). Keeps v.setting H v.kept) (sym c.self.view_is) s.keeps in
    let answered : reply_of c.answer-reply.result ≡ answer c.args.self.now.setting H c.args.who op =
    c.answer-reply.ensures.replies H keeps ∙ ap (λ (v : TableData). answer v.setting H c.args.who op) c.self.view_is
    in
    own_of_caller (entry c.args.self.now.setting H c.args.who op) H c.args.who refl ∙ ap (λ r. own_after r (own H c.args.who)) (sym answered)

pub returns-clause-isolated : goal.returns-clause-isolated
returns-clause-isolated g c = λ H S s inside closed.
    let op = op_of c.args.op in
    let keeps = subst (λ (v : TableData). Keeps v.setting H v.kept) (sym c.self.view_is) s.keeps in
    c.answer-reply.ensures.replies H keeps
    ∙ ap (λ (v : TableData). answer v.setting H c.args.who op) c.self.view_is
    ∙ answer_apart c.args.self.now.setting S H c.args.who op s.keeps.legal inside closed
