-- The threads of the tests: each call takes one entry of those that are left.
use Rattle.std.proofs.Common.{ℕ, ◌+◌, ◌≤◌, length, refl, ap, ◌∙◌, arith}
use Rattle.turn_gate.specs.Callers.{Gate}
use Rattle.handle_table.specs.Entry.{Op, Reply, Setting}
use Rattle.thread_current.specs.Thread.{Thread, Answered, SawMore, KeepsHolds, first_thread}
use Rattle.thread_tests.specs.Rounds.{MayMake}

pub starts : (gate : Gate Setting) (n left : ℕ) → left ≤ gate.terms.quota → MayMake gate left (first_thread gate n)
starts gate n left fits = record { thread = (refl, refl); quota = omega arith; empty = λ h. refl }

pub made_one : (gate : Gate Setting) (old new : Thread) (op : Op) (place : ℕ) (reply : Reply) (n : ℕ)
    → Answered gate old new op place reply → KeepsHolds old new → MayMake gate (n + 1) old → MayMake gate n new
made_one gate old new op place reply n made holds may =
    let quota = may.quota in
    let more = ap length made.calls in record {
      thread = (made.same.table ∙ may.thread.0, made.same.terms ∙ may.thread.1);
      quota = omega arith;
      empty = λ h. holds h ∙ may.empty h;
    }

pub made_none : (gate : Gate Setting) (old new : Thread) (n : ℕ) → SawMore old new → KeepsHolds old new → MayMake gate n old → MayMake gate n new
made_none gate old new n saw holds may =
    let quota = may.quota in
    let same = ap length saw.calls in record {
      thread = (saw.same.table ∙ may.thread.0, saw.same.terms ∙ may.thread.1);
      quota = omega arith;
      empty = λ h. holds h ∙ may.empty h;
    }

-- who may make more may make fewer
pub makes_fewer : (gate : Gate Setting) (t : Thread) (more fewer : ℕ) → fewer ≤ more → MayMake gate more t → MayMake gate fewer t
makes_fewer gate t more fewer low may = let quota = may.quota in record { thread = may.thread; quota = omega arith; empty = may.empty }
