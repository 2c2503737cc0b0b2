use Rattle.std.proofs.Common.{length}
use Rattle.script_seats.specs.Seated.{gates}
use Rattle.script_run.specs.Beside.{library_and_books}
use Rattle.script_run.proofs.WorkLemmas.{Releasing}
use Rattle.script_run.proofs.worker.Worker.release_all.Given as goal

-- what the Releases so far have left
abbrev pub invariant-loop-handle : goal.invariant-loop-handle
invariant-loop-handle g l = Releasing (gates l.common.shared.now l.common.catalogs.now) (library_and_books l.common.library.now l.common.books.now) l.round l.initial.self.thread l.self.thread l.initial.self.lines.items l.self.lines.items

abbrev pub decreases-loop-handle : goal.decreases-loop-handle
decreases-loop-handle g l = length l.self.thread.side.holds.items
