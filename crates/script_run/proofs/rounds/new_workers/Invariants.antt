use Rattle.std.proofs.Common.{◌≡◌, length}
use Rattle.std.specs.Vec.Iter.{into_iter_items, into_iter_len}
use Rattle.script_run.proofs.Beginning.{FirstSoFar}
use Rattle.script_run.proofs.rounds.new_workers.Given as goal

-- the workers so far, and the threads and the readers that are left
abbrev pub invariant-loop-mine : goal.invariant-loop-mine
invariant-loop-mine l = record {
  so_far : FirstSoFar l.fn.all l.fn.readers l.workers.items (into_iter_items l.mine-iterator) (into_iter_items l.left);
  left : into_iter_len l.mine-iterator ≡ length (into_iter_items l.mine-iterator);
  readers_left : into_iter_len l.left ≡ length (into_iter_items l.left);
}
