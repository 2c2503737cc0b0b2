use Rattle.std.proofs.Common.{◌∙◌}
use Rattle.script_words.proofs.WordLemmas.{bits_more, bits_wrong, bits_last}
use Rattle.script_words.proofs.word.named_bits.Goals as goal

pub returns-in_err-bits : goal.returns-in_err-bits
returns-in_err-bits c = c.from_residual.ensures ∙ bits_wrong c.loop-name.bits c.loop-name.rest.now c.in-Some.name.now c.in-Some.more.now _ c.in-Some.ensures.is c.in_err-bits.ensures c.loop-name.invariant

pub loop-name-preserved : goal.loop-name-preserved
loop-name-preserved c = bits_more c.loop-name.bits c.in_ok-bits.bits c.loop-name.rest.now c.in-Some.name.now c.in-Some.more.now _ c.in-Some.ensures.is c.in_ok-bits.ensures c.loop-name.invariant

pub returns : goal.returns
returns c = c.with_name-2.ensures ∙ bits_last c.loop-name.bits c.loop-name.rest.now _ c.in_default.ensures.is c.loop-name.invariant
