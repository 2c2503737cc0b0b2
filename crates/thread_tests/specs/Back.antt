-- The seats, once all threads are joined.
use Rattle.std.specs.Prelude.{ℕ, ◌<◌, List}
use Rattle.std.specs.List.{All}
use Rattle.turn_gate.specs.Callers.{Gate, Caller, IsSeatOf}
use Rattle.turn_gate.specs.Ends.{SomeCaller}

-- each is a seat of these turns, and each number is that of one of them
pub record AreBack {S O R : Type 0} (gate : Gate S) (seats : List (Caller S O R)) : Type 0 where
  pub all : All (IsSeatOf gate) seats
  pub numbers : (n : ℕ) → n < gate.terms.seats → SomeCaller n seats
