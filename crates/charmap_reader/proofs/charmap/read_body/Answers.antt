use Rattle.std.proofs.Common.{sym, ◌∙◌, arith}
use Rattle.std.proofs.lemmas.Result.{err_from_is_err_and}
use Rattle.lc_base.proofs.ReadingLemmas.{fails_first}
use Rattle.src_lines.proofs.Positions.{part_more}
use Rattle.charmap_reader.proofs.Bodies.{mappings_more, mappings_step}
use Rattle.charmap_reader.proofs.charmap.read_body.Goals as goal

pub returns-in_err-read_line : goal.returns-in_err-read_line
returns-in_err-read_line c =
    let p = err_from_is_err_and c.from_residual.result c.from_residual.ensures.1 in
    let more = part_more c.args.lines.now c.args.start c.args.«end» c.loop-i.i _ (omega arith) (omega arith) c.requires.within in
    rw (p.1, p.2) (fails_first c.in_err-read_line.field-0.0 _ _ _ (sym c.loop-i.invariant ∙ mappings_more _ _ _ _ more) c.in_err-read_line.ensures)

pub loop-i-preserved : goal.loop-i-preserved
loop-i-preserved c =
    let more = part_more c.args.lines.now c.args.start c.args.«end» c.loop-i.i _ (omega arith) (omega arith) c.requires.within in
    mappings_step _ _ _ _ _ _ more c.in_ok-read_line.ensures c.loop-i.invariant
