use Rattle.std.proofs.Common.{◌≡◌, ℕ, ◌≤◌, List, ◌∷◌, ◌++◌, length}
use Rattle.std.specs.List.{flat_map}
use Rattle.script_out.specs.Output.{escaped}
use Rattle.output_reader.proofs.Quotes.{IsTextLeft}
use Rattle.output_reader.proofs.texts.unquoted.Given as goal

abbrev pub invariant-loop-c : goal.invariant-loop-c
invariant-loop-c l = record {
  on : (text rest : List ℕ) → l.body ≡ flat_map escaped text ++ 34 ∷ rest → (later : List ℕ) × IsTextLeft text l.text.items l.left rest later;
  within : length l.left ≤ length l.body;
}

abbrev pub decreases-loop-c : goal.decreases-loop-c
decreases-loop-c l = length l.left
