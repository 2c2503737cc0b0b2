use Rattle.std.proofs.Common.{◌≡◌, false, refl, rules}
use Rattle.std.specs.Prelude.{codes}
use Rattle.std.specs.Str.{bytes_eq}
use Rattle.std.proofs.lemmas.Result.{err_from_is_err_and}
use Rattle.lc_base.proofs.ReadingLemmas.{fails_first}
use Rattle.script_commands.proofs.commands.selection.Goals as goal

pub returns-in_err-target-clause-is : goal.returns-in_err-target-clause-is
returns-in_err-target-clause-is c =
    let p = err_from_is_err_and c.from_residual.result c.from_residual.ensures.1 in
    let other : bytes_eq c.args.word.bytes.now (codes "?") ≡ false = search rules in
    rw (p.1, p.2, other) (fails_first c.in_err-target.field-0.0 _ _ _ refl c.in_err-target.ensures.is)

pub returns-in_err-target-clause-in_range : goal.returns-in_err-target-clause-in_range
returns-in_err-target-clause-in_range c =
    let p = err_from_is_err_and c.from_residual.result c.from_residual.ensures.1 in
    rw p.1 tt

pub returns-clause-is : goal.returns-clause-is
returns-clause-is c =
    let other : bytes_eq c.args.word.bytes.now (codes "?") ≡ false = search rules in
    rw (other, c.in_ok-target.ensures.is) refl

pub returns-clause-in_range : goal.returns-clause-in_range
returns-clause-in_range c = c.in_ok-target.ensures.owned
