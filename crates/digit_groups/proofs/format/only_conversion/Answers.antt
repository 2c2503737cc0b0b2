use Rattle.std.proofs.Common.{◌+◌, Some, ap, sym, ◌∙◌, arith}
use Rattle.digit_groups.specs.declared.piece.Piece.TheVariants.{Convert}
use Rattle.digit_groups.specs.Formats.{followed}
use Rattle.digit_groups.proofs.FormatLemmas.{piece_more, pieces_over}
use Rattle.digit_groups.proofs.format.only_conversion.Goals as goal

pub returns-in-Some-Convert-default : goal.returns-in-Some-Convert-default
returns-in-Some-Convert-default g c =
    let read = g.C.FormatConversion.conversion in
    let used = c.in-Some-Convert-default.used in
    let here = piece_more read c.args.format.now 0 used (Convert c.in-Some-Convert-default.c) (omega arith)
    (sym c.piece_of.ensures.is ∙ c.in-Some-Convert-default.is ∙ ap (λ p. Some (p, used)) c.in-Some-Convert-default.field-0-0-is) in
    here ∙ ap (λ r. followed (0, Convert c.in-Some-Convert-default.c) r) (pieces_over read c.args.format.now (0 + (1 + used)) (omega (arith, c.if-used-format.true)))
