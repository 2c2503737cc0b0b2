use Rattle.std.proofs.Common.{subst}
use Rattle.turn_gate.specs.Callers.{Gate}
use Rattle.handle_table.specs.Entry.{Setting}
use Rattle.thread_current.specs.Thread.{thread_of, IsInOrder}
use Rattle.thread_current.proofs.Calls.{in_order}
use Rattle.thread_current.proofs.shared.Shared.end.Goals as goal

pub returns-clause-in_order : goal.returns-clause-in_order
returns-clause-in_order g c = subst (λ (x : Gate Setting). IsInOrder x.terms (thread_of c.args.mine.cached c.turn-place.new.seat)) c.self.view_is (in_order c.self.inside.turns.terms c.args.mine.cached c.turn-place.new.seat c.turn-place.ensures.in_order)
