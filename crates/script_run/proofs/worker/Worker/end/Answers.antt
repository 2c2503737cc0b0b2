use Rattle.std.proofs.Common.{ap, ◌∙◌}
use Rattle.thread_current.specs.Thread.{holds}
use Rattle.script_lines.specs.declared.thread.Thread.{Thread}
use Rattle.script_seats.specs.declared.seated.Seated.{Seated}
use Rattle.script_run.proofs.WorkLemmas.{holds_nothing}
use Rattle.script_seats.specs.Seated.{gates}
use Rattle.script_run.specs.Beside.{library_and_books}
use Rattle.script_run.proofs.worker.Worker.end.Goals as goal

pub end-place-requires-clause-no_hold : goal.end-place-requires-clause-no_hold
end-place-requires-clause-no_hold g c = λ h.
    ap (λ (t : Thread Seated). holds t.side.mine h) c.next_caller-at.ensures.counted
    ∙ holds_nothing (gates c.args.common.now.shared.now c.args.common.now.catalogs.now) (library_and_books c.args.common.now.library.now c.args.common.now.books.now) c.args.self.thread c.requires.can c.requires.empty h
