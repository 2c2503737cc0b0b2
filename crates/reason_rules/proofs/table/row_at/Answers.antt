use Rattle.std.proofs.Common.{sym, arith}
use Rattle.std.proofs.lemmas.Option.{slice_get_past}
use Rattle.reason_rules.specs.Table.{rule_table}
use Rattle.reason_rules.proofs.table.row_at.Goals as goal

pub returns-in_default-clause-said : goal.returns-in_default-clause-said
unfolding rule_table
returns-in_default-clause-said c = sym (slice_get_past rule_table c.args.number (omega arith))
