-- The threads of the tests: they hold nothing, and make so many entries more.
use Rattle.std.specs.Prelude.{◌≡◌, ℕ, ◌+◌, ◌≤◌, length, false}
use Rattle.turn_gate.specs.Callers.{Gate}
use Rattle.lc_base.specs.declared.handle.Handle.{Handle}
use Rattle.handle_table.specs.Entry.{Setting}
use Rattle.thread_current.specs.Thread.{Thread, IsThreadOf, holds}

-- the thread is one of the table, has so many entries left, and holds nothing
pub record MayMake (gate : Gate Setting) (left : ℕ) (t : Thread) : Type 0 where
  pub thread : IsThreadOf gate t
  pub quota : length t.calls + left ≤ gate.terms.quota
  pub empty : (h : Handle) → holds t h ≡ false
