use Rattle.std.proofs.Common.{◌≡◌, length}
use Rattle.std.specs.Vec.Iter.{into_iter_items, into_iter_len}
use Rattle.script_seats.specs.Seated.{gates}
use Rattle.script_run.specs.Rounds.{AreClosing, plan_made}
use Rattle.script_run.proofs.rounds.close_all.Given as goal

-- the threads of the seats so far have closed
abbrev pub invariant-loop-worker : goal.invariant-loop-worker
invariant-loop-worker g l = record {
  closing : AreClosing (gates l.common.shared.now l.common.catalogs.now) (plan_made l.bundle l.common.library.now l.common.books.now) l.seats.items (into_iter_items l.worker-iterator) l.lines.items;
  left : into_iter_len l.worker-iterator ≡ length (into_iter_items l.worker-iterator);
}
