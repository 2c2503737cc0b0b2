use Rattle.std.proofs.Common.{◌≡◌, true, drop, map}
use Rattle.std.specs.List.{list_all}
use Rattle.int_format.specs.Ints.{is_number}
use Rattle.script_words.specs.Numbers.{number_of_word}
use Rattle.tool_reads.specs.Answers.{all_of, beside}
use Rattle.tool_reads.proofs.number.numbers_of.Given as goal

-- the numbers so far, which are in their range, and those of the words that are left
abbrev pub invariant-loop-word : goal.invariant-loop-word
invariant-loop-word l = record {
  so_far : beside l.numbers.items (all_of number_of_word (map (λ w. w.now) (drop l.word-index l.words))) ≡ all_of number_of_word (map (λ w. w.now) l.words);
  in_range : list_all is_number l.numbers.items ≡ true;
}
