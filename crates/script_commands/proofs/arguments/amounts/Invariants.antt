use Rattle.std.proofs.Common.{◌≡◌, ◌-◌, ◌≤◌, length}
use Rattle.lc_base.specs.declared.reason.Limit.TheVariants as limits
use Rattle.script_words.specs.Limits.{AMOUNT_LIMIT}
use Rattle.script_words.specs.Numbers.{amount_of_word}
use Rattle.script_words.specs.Spans.{span}
use Rattle.script_commands.specs.Commands.{all_read_as}
use Rattle.script_commands.proofs.ArgumentLemmas.{behind}
use Rattle.script_commands.proofs.arguments.amounts.Given as goal

-- the amounts so far, and those that are left
abbrev pub invariant-loop-word : goal.invariant-loop-word
invariant-loop-word l = record {
  so_far : behind l.amounts.items (all_read_as amount_of_word limits.Amounts (AMOUNT_LIMIT - length l.amounts.items) (span l.left)) ≡ all_read_as amount_of_word limits.Amounts AMOUNT_LIMIT (span l.rest);
  few : length l.amounts.items ≤ AMOUNT_LIMIT;
}

abbrev pub decreases-loop-word : goal.decreases-loop-word
decreases-loop-word l = length l.left.bytes.now
