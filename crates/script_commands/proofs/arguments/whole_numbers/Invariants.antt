use Rattle.std.proofs.Common.{◌≡◌, ◌-◌, ◌≤◌, length}
use Rattle.lc_base.specs.declared.reason.Limit.TheVariants as limits
use Rattle.script_words.specs.Limits.{NUMBER_LIMIT}
use Rattle.script_words.specs.Numbers.{number_of_word}
use Rattle.script_words.specs.Spans.{span}
use Rattle.script_commands.specs.Commands.{all_read_as}
use Rattle.script_commands.proofs.ArgumentLemmas.{behind}
use Rattle.script_commands.proofs.arguments.whole_numbers.Given as goal

-- the numbers so far, and those that are left
abbrev pub invariant-loop-word : goal.invariant-loop-word
invariant-loop-word l = record {
  so_far : behind l.numbers.items (all_read_as number_of_word limits.Numbers (NUMBER_LIMIT - length l.numbers.items) (span l.left)) ≡ all_read_as number_of_word limits.Numbers NUMBER_LIMIT (span l.rest);
  few : length l.numbers.items ≤ NUMBER_LIMIT;
}

abbrev pub decreases-loop-word : goal.decreases-loop-word
decreases-loop-word l = length l.left.bytes.now
