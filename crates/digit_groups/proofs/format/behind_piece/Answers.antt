use Rattle.std.proofs.Common.{◌≡◌, None, arith, ap, ◌∙◌}
use Rattle.digit_groups.specs.declared.piece.Piece.TheVariants.{Convert}
use Rattle.digit_groups.specs.Formats.{followed, refusal_behind}
use Rattle.digit_groups.proofs.FormatLemmas.{refusal_missing}
use Rattle.digit_groups.proofs.format.behind_piece.Goals as goal

pub returns-in-Convert-None-2 : goal.returns-in-Convert-None-2
returns-in-Convert-None-2 g c = λ lacks r.
    let none : c.args.values ≡ 0 = omega arith in
    ap (λ p. refusal_behind lacks c.args.lacking (followed (c.args.at, p) r) c.args.values) c.in-Convert-None-2.is-0
    ∙ ap (λ l. refusal_behind lacks l (followed (c.args.at, Convert c.in-Convert-None-2.field-0-0) r) c.args.values) c.in-Convert-None-2.is-1
    ∙ ap (λ n. refusal_behind lacks None (followed (c.args.at, Convert c.in-Convert-None-2.field-0-0) r) n) none
    ∙ refusal_missing lacks c.args.at c.in-Convert-None-2.field-0-0 r 0
