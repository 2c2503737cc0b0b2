use Rattle.std.proofs.Common.{◌-◌, length, arith}
use Rattle.lc_base.specs.declared.reason.Limit.TheVariants as limits
use Rattle.script_words.specs.Limits.{AMOUNT_LIMIT}
use Rattle.script_words.specs.Numbers.{amount_of_word}
use Rattle.script_words.specs.Spans.{span}
use Rattle.script_commands.specs.Commands.{amounts}
use Rattle.script_commands.proofs.ArgumentLemmas.{one_more, no_more_values}
use Rattle.script_commands.proofs.arguments.amounts.Goals as goal

pub loop-word-preserved : goal.loop-word-preserved
loop-word-preserved c = record {
  so_far = one_more amount_of_word limits.Amounts (AMOUNT_LIMIT - length c.loop-word.amounts.items) (AMOUNT_LIMIT - length c.push.new.self.items) (span c.loop-word.left) (span c.in-Some.word) (span c.in-Some.behind) _ c.loop-word.amounts.items c.push.new.self.items _ (omega (arith, c.loop-word.invariant.few, c.in_ok-push.ensures.len)) c.in-Some.ensures.is c.in-Some-amount_of_word.ensures c.in_ok-push.ensures.items c.loop-word.invariant.so_far;
  few = omega (arith, c.loop-word.invariant.few, c.in_ok-push.ensures.len);
}

pub returns : goal.returns
unfolding amounts
returns c = rw c.of.ensures (no_more_values amount_of_word limits.Amounts (AMOUNT_LIMIT - length c.loop-word.amounts.items) (span c.loop-word.left) c.loop-word.amounts.items _ c.in_default.ensures.is c.loop-word.invariant.so_far)
