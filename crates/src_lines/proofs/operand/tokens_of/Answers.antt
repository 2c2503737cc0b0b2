use Rattle.std.proofs.Common.{refl}
use Rattle.std.proofs.lemmas.Result.{err_from_is_err_and}
use Rattle.src_lines.specs.Tokens.{tokens}
use Rattle.lc_base.proofs.ReadingLemmas.{fails_first}
use Rattle.src_lines.proofs.operand.tokens_of.Goals as goal

pub returns-in_err-operands_after : goal.returns-in_err-operands_after
unfolding tokens
returns-in_err-operands_after c =
    let p = err_from_is_err_and c.from_residual.result c.from_residual.ensures.1 in
    let e = rw (c.next_word-keyword.ensures.skipped, c.next_word-keyword.ensures.text) at c.in_err-operands_after.ensures in
    rw (p.1, p.2) (fails_first c.in_err-operands_after.field-0.0 _ _ _ refl e)

pub returns : goal.returns
unfolding tokens
returns c =
    let e = rw (c.next_word-keyword.ensures.skipped, c.next_word-keyword.ensures.text) at c.in_ok-operands_after.ensures in
    rw (e, c.place_at.ensures, c.in_ok-of.ensures, c.of-operands.ensures, c.next_word-keyword.ensures.skipped, c.next_word-keyword.ensures.text) refl
