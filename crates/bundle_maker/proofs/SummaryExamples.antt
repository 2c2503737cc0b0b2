-- What lines come to.
use Rattle.std.proofs.Common.{◌≡◌, ℕ, List, [], ◌∷◌, None, refl}
use Rattle.std.specs.Prelude.{codes}
use Rattle.std.specs.Fmt.{digits}
use Rattle.script_out.specs.declared.output.OutLine.{OutLine}
use Rattle.script_out.specs.declared.output.Places.TheVariants as places
use Rattle.script_out.specs.declared.output.Said.{Said}
use Rattle.script_out.specs.declared.output.Said.TheVariants as said
use Rattle.script_out.specs.declared.output.Why.TheVariants as whys
use Rattle.bundle_maker.specs.Summary.{summary}

abbrev names : List (List ℕ)
names = codes "T0" ∷ codes "T1" ∷ []

abbrev line_in : ℕ → Said → OutLine
line_in round reply = record { round = round; thread = 1; index = 1; places = places.None; global = None; reply = reply }

-- a refusal counts, a text that tells of one does not; what closes a thread behind the one round has no part in it
one_refusal : summary 3 1 names (
    line_in 1 (said.Handle (record { owner = 1; row = 0; generation = 1 })) ∷
    line_in 1 (said.Refused whys.Unset) ∷
    line_in 1 (said.Text (codes "refused")) ∷
    line_in 2 said.Ended ∷
    line_in 2 (said.Refused whys.Unset) ∷
    []) ≡ codes "made: threads 4 commands 3 refused 1 bytes 40\n"
unfolding digits
one_refusal = refl

no_lines : summary 1 1 names [] ≡ codes "made: threads 4 commands 1 refused 0 bytes 0\n"
unfolding digits
no_lines = refl
