use Rattle.std.proofs.Common.{◌≡◌, ◌∷◌}
use Rattle.output_reader.proofs.Quotes.{escape_back}
use Rattle.output_reader.proofs.texts.unescaped.Goals as goal

pub returns-in-92-clause-back : goal.returns-in-92-clause-back
returns-in-92-clause-back c =
    let at : c.args.bytes.now ≡ 92 ∷ c.in_ok-c.rest.now = cc (c.in_ok-c.ensures.read) in
    escape_back c.args.bytes.now c.in_ok-c.rest.now c.escape.result at c.escape.ensures.same c.escape.ensures.value
