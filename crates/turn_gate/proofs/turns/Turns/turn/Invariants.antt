use Rattle.std.specs.Prelude.{[], ◌∷◌}
use Rattle.turn_gate.specs.History.{entry}
use Rattle.turn_gate.proofs.turns.Turns.turn.Given as goal

abbrev pub ghosts-enter : goal.ghosts-enter
ghosts-enter g a = record { made = entry a.who a.asked.now.value a.reply.now ∷ [] }
