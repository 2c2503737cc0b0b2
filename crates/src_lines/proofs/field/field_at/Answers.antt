use Rattle.std.proofs.Common.{◌≡◌, length, sym, ◌∙◌}
use Rattle.std.proofs.lemmas.Result.{err_from_is_err_and}
use Rattle.src_lines.specs.Rows.{line_of}
use Rattle.src_lines.specs.Places.{place_at}
use Rattle.src_lines.specs.Atoms.{items_from}
use Rattle.src_lines.specs.Tokens.{next_place}
use Rattle.src_lines.proofs.Operands.{next_place_is}
use Rattle.src_lines.proofs.Fielding.{field_fails, field_is}
use Rattle.src_lines.proofs.field.field_at.Goals as goal

pub returns-in_err-atoms-clause-is : goal.returns-in_err-atoms-clause-is
returns-in_err-atoms-clause-is c =
    let p = err_from_is_err_and c.from_residual.result c.from_residual.ensures.1 in
    rw (p.1, p.2) (field_fails c.in_err-atoms.field-0.0 _ _ _ c.skip_blanks-start.ensures.is c.in_err-atoms.ensures.is)

pub returns-clause-is : goal.returns-clause-is
returns-clause-is c =
    let l = line_of c.args.row.now in
    let start = c.skip_blanks-start.result in
    let at : next_place (place_at l (length l.bytes)) (items_from l start) ≡ c.place_at.result = next_place_is l start c.skip_blanks-start.ensures.within ∙ sym c.place_at.ensures in
    (field_is l _ _ _ _ _ c.skip_blanks-start.ensures.is at c.in_ok-atoms.ensures.is)
