use Rattle.std.proofs.Common.{ap, sym, ◌∙◌, arith}
use Rattle.handle_table.specs.Seen.{op_of, reason_of}
use Rattle.handle_table.proofs.KeepsOf.{keeps_refused}
use Rattle.handle_table.proofs.accept.answer.Goals as goal

pub returns-in-Err-clause-keeps : goal.returns-in-Err-clause-keeps
returns-in-Err-clause-keeps g c = λ H k.
    keeps_refused c.args.setting.now H c.args.who (op_of c.args.op) c.in-Err.refusal c.args.kept.now
    (let lines = c.requires.lines in omega (arith, c.requires.who))
    (sym (c.first_reason.ensures H k) ∙ ap reason_of c.in-Err.is) k
