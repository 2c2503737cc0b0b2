-- Laws of a thread at a table that threads share.
use Rattle.std.proofs.Common.{ℕ, ◌+◌, [], refl, subst, arith}
use Rattle.turn_gate.specs.Callers.{Gate}
use Rattle.handle_table.specs.Entry.{History, Setting}
use Rattle.handle_table.specs.Answer.{IsLegal}
use Rattle.script_seats.specs.declared.seated.Seated.{Seated}
use Rattle.script_seats.specs.Seated.{KnowsSeated, IsSeatedAt, MayFollow, Gates, CanCall}

-- what a thread is at is what it knows
pub seated_known : (gate : Gate Setting) (s : Seated) (H : History) → IsSeatedAt gate s H → KnowsSeated s H
seated_known gate s H at = at.knows

-- nobody needs to have called since
pub seated_stays : (gate : Gate Setting) (s : Seated) (H : History) → IsSeatedAt gate s H → MayFollow gate.terms.setting s.number H H
seated_stays gate s H at = record {
  later = ([], refl);
  legal = subst (IsLegal gate.terms.setting) at.knows.seen at.in_order.legal;
  others = refl;
}

-- one that may make so many calls may make fewer
pub calls_fewer : (n : ℕ) (g : Gates) (s : Seated) → CanCall (n + 1) g s → CanCall n g s
calls_fewer n g s may =
    let calls = may.calls.quota in
    let asks = may.asks.quota in
    record {
      calls = record { seated = may.calls.seated; quota = omega arith };
      asks = record { seated = may.asks.seated; quota = omega arith };
      agree = may.agree;
    }
