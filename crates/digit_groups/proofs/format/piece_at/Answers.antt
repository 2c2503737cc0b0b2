use Rattle.std.proofs.Common.{◌≡◌, Some, None, length, ap, sym, ◌∙◌}
use Rattle.lc_base.specs.declared.refusal.FormatRefusal.TheVariants.{BadFormat}
use Rattle.digit_groups.specs.Formats.{refusal}
use Rattle.digit_groups.proofs.FormatLemmas.{piece_bad, piece_more}
use Rattle.digit_groups.proofs.format.piece_at.Goals as goal

pub returns-in_err-piece-clause-none : goal.returns-in_err-piece-clause-none
returns-in_err-piece-clause-none g c = λ none e.
    let bad = piece_bad g.C.FormatConversion.conversion c.args.format.now c.args.at c.requires (sym c.piece_of.ensures.is ∙ c.in_err-piece.was) in
    let some : Some (BadFormat c.args.at) ≡ None = sym (ap (λ r. refusal g.C.FormatConversion.lacks r (length c.args.values.now)) bad) ∙ e in
    cc

pub returns-in_err-behind-clause-none : goal.returns-in_err-behind-clause-none
returns-in_err-behind-clause-none g c = λ none e.
    let here = piece_more g.C.FormatConversion.conversion c.args.format.now c.args.at c.in_ok-piece.used c.in_ok-piece.piece c.requires (sym c.piece_of.ensures.is ∙ c.in_ok-piece.was) in
    c.values_behind.ensures.none c.in_err-behind.was g.C.FormatConversion.lacks c.args.at _ (sym (ap (λ r. refusal g.C.FormatConversion.lacks r (length c.args.values.now)) here) ∙ e)

pub returns-clause-pieces : goal.returns-clause-pieces
returns-clause-pieces g c = piece_more g.C.FormatConversion.conversion c.args.format.now c.args.at c.in_ok-piece.used c.in_ok-piece.piece c.requires (sym c.piece_of.ensures.is ∙ c.in_ok-piece.was)

pub returns-clause-same : goal.returns-clause-same
returns-clause-same g c =
    let here = piece_more g.C.FormatConversion.conversion c.args.format.now c.args.at c.in_ok-piece.used c.in_ok-piece.piece c.requires (sym c.piece_of.ensures.is ∙ c.in_ok-piece.was) in
    ap (λ r. refusal g.C.FormatConversion.lacks r (length c.args.values.now)) here ∙ c.in_ok-behind.ensures.same g.C.FormatConversion.lacks c.args.at _
