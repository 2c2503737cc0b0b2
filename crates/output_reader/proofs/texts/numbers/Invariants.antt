use Rattle.std.proofs.Common.{◌≡◌, ℕ, ◌^◌, ◌<◌, List, length}
use Rattle.std.specs.List.{AllByRecursion}
use Rattle.script_out.specs.Output.{numbers_text}
use Rattle.output_reader.proofs.Quotes.{AreNumbersLeft}
use Rattle.output_reader.proofs.texts.numbers.Given as goal

abbrev pub invariant-loop-more : goal.invariant-loop-more
invariant-loop-more l = record {
  on : (all : List ℕ) → AllByRecursion (λ n. n < 2 ^ 8) all → numbers_text all ≡ l.bytes → (later : List ℕ) × AreNumbersLeft all l.found.items l.left later;
  fit : AllByRecursion (λ n. n < 2 ^ 8) l.found.items;
}

abbrev pub decreases-loop-more : goal.decreases-loop-more
decreases-loop-more l = length l.left
