use Rattle.std.proofs.Common.{length, arith}
use Rattle.digit_groups.proofs.FormatLemmas.{refusal_copied, refusal_there, refusal_none_left}
use Rattle.digit_groups.proofs.format.values_behind.Goals as goal

pub returns-in-Literal-default-clause-same : goal.returns-in-Literal-default-clause-same
returns-in-Literal-default-clause-same g c = λ lacks at rest.
    rw c.in-Literal-default.is-0 (refusal_copied lacks at c.in-Literal-default.field-0-0 (length c.args.values.now) rest)

pub returns-in-Convert-empty-clause-none : goal.returns-in-Convert-empty-clause-none
returns-in-Convert-empty-clause-none g c = λ none lacks at rest e.
    refusal_none_left lacks at c.in-Convert-empty.field-0-0 rest c.args.values.now (omega (arith, c.in-Convert-empty.len_below)) (rw c.in-Convert-empty.is-0 at e)

pub returns-in-Convert-len1-up-clause-same : goal.returns-in-Convert-len1-up-clause-same
returns-in-Convert-len1-up-clause-same g c = λ lacks at rest.
    rw c.in-Convert-len1-up.is-0 (refusal_there lacks at c.in-Convert-len1-up.field-0-0 rest c.args.values.now (omega (arith, c.in-Convert-len1-up.len_at_least)))
