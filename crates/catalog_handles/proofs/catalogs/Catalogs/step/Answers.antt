use Rattle.std.proofs.Common.{ap, sym, ◌∙◌}
use Rattle.catalog_handles.specs.declared.op.CatalogRefusal.TheVariants.{NeverMade, Stale, TooMany}
use Rattle.catalog_handles.specs.Entry.{Refused, is_accepted}
use Rattle.catalog_handles.specs.Answer.{answer, entry}
use Rattle.catalog_handles.specs.Seen.{op_of, reply_of}
use Rattle.catalog_handles.proofs.Refused.{unmade_is, closed_is, full_is, caused, refused_changes_nothing}
use Rattle.catalog_handles.proofs.Apart.{answer_apart}
use Rattle.catalog_handles.proofs.After.{any_stamp}
use Rattle.catalog_handles.proofs.catalogs.Catalogs.step.Goals as goal

pub returns-clause-never_made : goal.returns-clause-never_made
returns-clause-never_made g c = λ H s.
    let op = op_of g.B.Part.number c.args.op in
    caused (reply_of g.B.Part.number c.answered.result) (answer c.args.self.now.setting H c.args.who op) (Refused NeverMade)
    (c.answered.ensures.answers H s) (unmade_is c.args.self.now.setting H c.args.who op)

pub returns-clause-stale : goal.returns-clause-stale
returns-clause-stale g c = λ H s.
    let op = op_of g.B.Part.number c.args.op in
    caused (reply_of g.B.Part.number c.answered.result) (answer c.args.self.now.setting H c.args.who op) (Refused Stale)
    (c.answered.ensures.answers H s) (closed_is c.args.self.now.setting H c.args.who op)

pub returns-clause-too_many : goal.returns-clause-too_many
returns-clause-too_many g c = λ H s.
    let op = op_of g.B.Part.number c.args.op in
    caused (reply_of g.B.Part.number c.answered.result) (answer c.args.self.now.setting H c.args.who op) (Refused TooMany)
    (c.answered.ensures.answers H s) (full_is c.args.self.now.setting H c.args.who op)

pub returns-clause-refused : goal.returns-clause-refused
returns-clause-refused g c = λ H stamp s refused.
    let op = op_of g.B.Part.number c.args.op in
    refused_changes_nothing c.args.self.now.setting (entry c.args.self.now.setting H c.args.who op stamp) H
    (sym (ap is_accepted (c.answered.ensures.answers H s)) ∙ refused)

pub returns-clause-isolated : goal.returns-clause-isolated
returns-clause-isolated g c = λ H S stamp s inside closed.
    let op = op_of g.B.Part.number c.args.op in
    c.answered.ensures.answers H s ∙ answer_apart c.args.self.now.setting S H c.args.who op stamp s.legal inside closed

pub returns-clause-stands : goal.returns-clause-stands
returns-clause-stands g c = λ H stamp s. any_stamp c.answered.new.self.setting c.args.self.now.setting H c.args.who (op_of g.B.Part.number c.args.op) stamp c.answered.new.self.rows (c.answered.ensures.stands H s)
