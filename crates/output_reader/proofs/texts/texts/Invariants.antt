use Rattle.std.proofs.Common.{◌≡◌, ℕ, List, ◌++◌, length}
use Rattle.script_out.specs.Output.{texts_text}
use Rattle.output_reader.specs.Reading.{EndsTexts}
use Rattle.output_reader.proofs.Quotes.{AreTextsLeft}
use Rattle.output_reader.proofs.texts.texts.Given as goal

abbrev pub invariant-loop-body : goal.invariant-loop-body
invariant-loop-body l = (all : List (List ℕ)) (rest : List ℕ) → EndsTexts rest → l.bytes ≡ texts_text all ++ rest → (later : List (List ℕ)) × AreTextsLeft all l.found l.left rest later

abbrev pub decreases-loop-body : goal.decreases-loop-body
decreases-loop-body l = length l.left
