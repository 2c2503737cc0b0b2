use Rattle.std.proofs.Common.{refl}
use Rattle.std.proofs.lemmas.Result.{err_from_is_err_and}
use Rattle.lc_base.proofs.ReadingLemmas.{fails_first}
use Rattle.script_commands.specs.Commands.{catalog_word}
use Rattle.script_commands.proofs.arguments.catalog_word.Goals as goal

pub returns-in_err-word-clause-is : goal.returns-in_err-word-clause-is
unfolding catalog_word
returns-in_err-word-clause-is c =
    let p = err_from_is_err_and c.from_residual.result c.from_residual.ensures.1 in
    rw (p.1, p.2) (fails_first c.in_err-word.field-0.0 _ _ _ refl c.in_err-word.ensures)

pub returns-in_err-word-clause-owned : goal.returns-in_err-word-clause-owned
returns-in_err-word-clause-owned c =
    let p = err_from_is_err_and c.from_residual.result c.from_residual.ensures.1 in
    rw p.1 tt

pub returns-in_err-named-clause-is : goal.returns-in_err-named-clause-is
unfolding catalog_word
returns-in_err-named-clause-is c =
    let p = err_from_is_err_and c.from_residual-in_err-named.result c.from_residual-in_err-named.ensures.1 in
    rw (p.1, p.2, c.in_ok-word.ensures) (fails_first c.in_err-named.field-0.0 _ _ _ refl c.in_err-named.ensures.is)

pub returns-in_err-named-clause-owned : goal.returns-in_err-named-clause-owned
returns-in_err-named-clause-owned c =
    let p = err_from_is_err_and c.from_residual-in_err-named.result c.from_residual-in_err-named.ensures.1 in
    rw p.1 tt
