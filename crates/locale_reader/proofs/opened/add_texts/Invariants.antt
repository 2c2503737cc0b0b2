use Rattle.std.proofs.Common.{◌≡◌, ◌||◌, ℕ, List, length}
use Rattle.std.specs.List.{list_any}
use Rattle.locale_reader.specs.Opened.{is_text}
use Rattle.locale_reader.specs.Words.{has_word}
use Rattle.locale_reader.proofs.opened.add_texts.Given as goal

abbrev pub invariant-loop-value : goal.invariant-loop-value
invariant-loop-value l = (word : List ℕ) → (has_word l.words word || list_any (λ v. is_text word v.1) l.walk) ≡ (has_word l.fn.words word || list_any (λ v. is_text word v.1) l.fn.values)

abbrev pub decreases-loop-value : goal.decreases-loop-value
decreases-loop-value l = length l.walk
