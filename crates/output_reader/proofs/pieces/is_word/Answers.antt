use Rattle.std.proofs.lemmas.Bool.Decides.{Decides-eqb}
use Rattle.std.proofs.lemmas.Slice.Eq.{slice_eq-Decides}
use Rattle.output_reader.proofs.pieces.is_word.Goals as goal

pub returns-clause-is : goal.returns-clause-is
returns-clause-is c = (slice_eq-Decides Decides-eqb _ _ _ c.eq.ensures).0

pub returns-clause-back : goal.returns-clause-back
returns-clause-back c = (slice_eq-Decides Decides-eqb _ _ _ c.eq.ensures).1
