use Rattle.std.proofs.Common.{Some, ap, ◌∙◌}
use Rattle.time_cat.specs.declared.conversion.Shows.{Shows}
use Rattle.strftime_fields.proofs.expand.put_piece.Goals as goal
use Rattle.strftime_fields.proofs.expand.put_piece.Goals.{in-Byte, in-Plain+in-Name, in-Plain+in-Number, in-Plain+in-ShortTime, in-Plain+in-FullTime, in-Plain+in-Sign}

pub returns-then-added-clause-piece : goal.returns-then-added-clause-piece
returns-then-added-clause-piece g c = elim c.match-short.branch [
  | in-Byte w ↦ rw w.short-is (rw w.in-Byte.is at c.in-Some.ensures)
  | in-Plain+in-Name w ↦ rw w.short-is (rw w.in-Plain.is at c.in-Some.ensures)
  | in-Plain+in-Number w ↦ rw w.short-is (rw w.in-Plain.is at c.in-Some.ensures)
  | in-Plain+in-ShortTime w ↦ rw w.short-is (rw w.in-Plain.is at c.in-Some.ensures)
  | in-Plain+in-FullTime w ↦ rw w.short-is (rw w.in-Plain.is at c.in-Some.ensures)
  | in-Plain+in-Sign w ↦ rw w.short-is (rw w.in-Plain.is at c.in-Some.ensures)
]

pub returns-in-Format-clause-piece : goal.returns-in-Format-clause-piece
returns-in-Format-clause-piece g c =
    λ k. let piece = (rw c.in-Plain.is at c.in-Some.ensures) k in
    (c.in-Plain.letter, c.in-Plain.found.rank, piece.0, piece.1 ∙ ap (λ (s : Shows). Some (record { rank = c.in-Plain.found.rank; shows = s })) c.in-Format.is)
