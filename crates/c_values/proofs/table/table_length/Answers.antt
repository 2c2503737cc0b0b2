use Rattle.std.proofs.Common.{rules, ◌+◌, length, sym, ap, ◌∙◌}
use Rattle.c_values.specs.Table.{texts_by}
use Rattle.c_values.proofs.TableLemmas.{length_more}
use Rattle.c_values.proofs.table.table_length.Goals as goal

pub loop-i-preserved : goal.loop-i-preserved
loop-i-preserved c = (
  ap (λ n. n + (length c.text_at.result.now + 1)) c.loop-i.invariant.0 ∙ sym (length_more (texts_by c.args.view.now c.args.given.now) c.loop-i.i c.text_at.result.now c.text_at.ensures),
  search rules,
)
