use Rattle.std.proofs.Common.{◌≡◌, ◌∙◌, sym, ap}
use Rattle.msg_catalog.specs.Cursors.{line_of}
use Rattle.msg_catalog.specs.declared.text.TextUnit.{TextUnit}
use Rattle.msg_catalog.specs.Texts.{Said, said, joined, piece_of, decoded, read_text}
use Rattle.msg_catalog.proofs.Decoding.{decoded_more}
use Rattle.msg_catalog.proofs.text.decoded.Goals as goal

pub loop-spot-preserved : goal.loop-spot-preserved
loop-spot-preserved c =
    let old = read_text c.loop-spot.text in
    let spot = c.in-Some.spot in
    let rest = line_of c.in-Some.next in
    let added : read_text c.add.new.self ≡ joined old (said (piece_of spot rest).0) =
    c.in_ok-add.ensures ∙ ap (λ (p : TextUnit). joined old (said p)) c.piece_of-piece.ensures.piece in
    ap (λ (t : Said). joined t (decoded c.args.end 0 (line_of c.piece_of-piece.result.1))) added
    ∙ decoded_more old c.args.end spot rest _ _ c.in-Some.ensures.line (sym c.is_quote.ensures ∙ c.if-is_quote.false) c.piece_of-piece.ensures.rest
    ∙ c.loop-spot.invariant
