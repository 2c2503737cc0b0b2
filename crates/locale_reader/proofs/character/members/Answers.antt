use Rattle.std.proofs.Common.{sym, ◌∙◌, arith}
use Rattle.std.proofs.lemmas.Result.{err_from_is_err_and}
use Rattle.lc_base.proofs.ReadingLemmas.{fails_first}
use Rattle.locale_reader.specs.Values.{members}
use Rattle.locale_reader.proofs.Lists.{after_none, members_more, members_step, first_and_rest}
use Rattle.locale_reader.proofs.character.members.Goals as goal

pub returns-in_err-value : goal.returns-in_err-value
returns-in_err-value c =
    let p = err_from_is_err_and c.from_residual-in_err-value.result c.from_residual-in_err-value.ensures.1 in
    let first = first_and_rest c.loop-left.left.now c.operand-item.result (omega (arith, c.in-len1-up.len_at_least)) c.operand-item.is in
    rw (p.1, p.2) (fails_first c.in_err-value.field-0.0 _ _ _ (sym c.loop-left.invariant ∙ members_more c.args.charset.now _ _ _ c.loop-left.values first) c.in_err-value.ensures.is)

pub loop-left-init : goal.loop-left-init
loop-left-init c = after_none c.in_ok-values.values (members c.args.charset.now c.args.operands.now) c.in_ok-values.ensures

pub loop-left-preserved : goal.loop-left-preserved
loop-left-preserved c =
    let first = first_and_rest c.loop-left.left.now c.operand-item.result (omega (arith, c.in-len1-up.len_at_least)) c.operand-item.is in
    members_step c.args.charset.now _ _ _ _ _ _ _ _ first c.in_ok-value.ensures.is c.in_ok-values-2.ensures c.loop-left.invariant
