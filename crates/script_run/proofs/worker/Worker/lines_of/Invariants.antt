use Rattle.std.proofs.Common.{map}
use Rattle.script_wishes.specs.Seen.{turn_seen}
use Rattle.script_seats.specs.Seated.{gates}
use Rattle.script_run.specs.Beside.{library_and_books}
use Rattle.script_run.proofs.WorkLemmas.{Going}
use Rattle.script_run.proofs.worker.Worker.lines_of.Given as goal

-- what the turns so far have left, and that the others can be taken
abbrev pub invariant-loop-turn : goal.invariant-loop-turn
invariant-loop-turn g l = Going (gates l.common.shared.now l.common.catalogs.now) (library_and_books l.common.library.now l.common.books.now) (map turn_seen l.turns) l.initial.self.thread l.self.thread l.initial.self.lines.items l.self.lines.items l.turn-index
