use Rattle.std.proofs.lemmas.Result.{IfOk-weaker}
use Rattle.script_run.proofs.WorkLemmas.{closes}
use Rattle.script_seats.specs.Seated.{gates}
use Rattle.script_run.specs.Beside.{library_and_books}
use Rattle.script_run.proofs.worker.Worker.close.Goals as goal

pub returns-clause-closes : goal.returns-clause-closes
returns-clause-closes g c =
    IfOk-weaker c.end.result _ _
    (λ r e plan made same worker.
    closes (gates c.args.common.now.shared.now c.args.common.now.catalogs.now) (library_and_books c.args.common.now.library.now c.args.common.now.books.now) plan c.args.round c.args.self.thread c.release_all.new.self.thread r.1 made c.args.self.lines.items c.release_all.new.self.lines.items r.0.items same worker c.in_ok-release_all.ensures e)
    c.end.ensures.ends
