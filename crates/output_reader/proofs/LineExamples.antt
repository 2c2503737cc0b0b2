-- The lines of a text with their newlines.
use Rattle.std.proofs.Common.{◌≡◌, [], ◌∷◌, refl}
use Rattle.std.specs.Prelude.{codes}
use Rattle.output_reader.specs.Lines.{whole_lines}

-- an empty line is a line, and the last may lack its newline
last_lacks : whole_lines (codes "1 A\n\n2") ≡ codes "1 A\n" ∷ codes "\n" ∷ codes "2" ∷ []
last_lacks = refl

-- nothing stands behind the last newline
all_ended : whole_lines (codes "1 A\n2 B\n") ≡ codes "1 A\n" ∷ codes "2 B\n" ∷ []
all_ended = refl

no_lines : whole_lines [] ≡ []
no_lines = refl
