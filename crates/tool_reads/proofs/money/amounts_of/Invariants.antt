use Rattle.std.proofs.Common.{◌≡◌, drop, map}
use Rattle.tool_reads.specs.Answers.{all_of, beside}
use Rattle.script_words.specs.Numbers.{amount_of_word}
use Rattle.tool_reads.proofs.money.amounts_of.Given as goal

-- the amounts so far, and those of the words that are left
abbrev pub invariant-loop-word : goal.invariant-loop-word
invariant-loop-word l = beside l.amounts.items (all_of amount_of_word (map (λ w. w.now) (drop l.word-index l.words))) ≡ all_of amount_of_word (map (λ w. w.now) l.words)
