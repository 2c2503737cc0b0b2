use Rattle.std.proofs.Common.{◌≡◌, ℕ, ◌<◌, ◌≤◌, ◌++◌, take}
use Rattle.std.specs.Prelude.{flat_map, slice_index_or}
use Rattle.script_run.specs.declared.worker.Worker.{Worker}
use Rattle.script_run.specs.Rounds.{HasGiven}
use Rattle.script_run.proofs.rounds.gather.Given as goal

-- the workers so far have given their lines away, and the others are as they were
abbrev pub invariant-loop-worker : goal.invariant-loop-worker
invariant-loop-worker l = record {
  lines : l.lines.items ≡ l.initial.lines.items ++ flat_map (λ (w : Worker). w.lines.items) (take l.worker-index l.initial.worker-items);
  given : (i : ℕ) (d : Worker) → i < l.worker-index → HasGiven (slice_index_or l.initial.worker-items i d) (slice_index_or l.worker-items i d);
  left : (i : ℕ) (d : Worker) → l.worker-index ≤ i → slice_index_or l.worker-items i d ≡ slice_index_or l.initial.worker-items i d;
}
