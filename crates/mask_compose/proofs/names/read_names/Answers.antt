-- The spans of a mixed name have its parts, which spell it.
use Rattle.mask_compose.proofs.SpanLemmas.{within_if, parts_if, spelled_if, none_if}
use Rattle.mask_compose.proofs.names.read_names.Goals as goal

pub returns-clause-within : goal.returns-clause-within
returns-clause-within c = within_if c.args.text.now c.part_spans.result c.part_spans.ensures

pub returns-clause-parts : goal.returns-clause-parts
returns-clause-parts c = parts_if c.args.text.now c.part_spans.result c.part_spans.ensures

pub returns-clause-spelled : goal.returns-clause-spelled
returns-clause-spelled c = spelled_if c.args.text.now c.part_spans.result c.part_spans.ensures

pub returns-clause-none : goal.returns-clause-none
returns-clause-none c = none_if c.args.text.now c.part_spans.result c.part_spans.ensures
