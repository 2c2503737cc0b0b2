use Rattle.std.proofs.Common.{◌≡◌, List, ℕ, length, arith}
use Rattle.text_buffer.proofs.WrittenLemmas.{written_over}
use Rattle.digit_groups.specs.Formats.{pieces, good_pieces, pieces_text}
use Rattle.digit_groups.proofs.TextLemmas.{accepted}
use Rattle.digit_groups.proofs.text.write_measured.Goals as goal

pub returns : goal.returns
returns g c =
    let text : List ℕ = pieces_text (g.C.FormatConversion.text c.args.category.now) (good_pieces (pieces g.C.FormatConversion.conversion 0 0 c.args.format.now)) c.args.values.now in
    let size : c.in-Some.length ≡ length text = omega (arith, c.in-Some.ensures.length, c.if-length-buffer.false) in
    written_over c.args.buffer.now c.write_pieces.new.buffer text c.in-Some.length _ (accepted _ text c.in-Some.ensures.some) (omega (arith, size, c.if-length-buffer.false)) size c.write_pieces.ensures
