use Rattle.std.proofs.Common.{◌≡◌, ℕ, List, Ok, subst, sym, ◌∙◌}
use Rattle.std.specs.Fmt.{decimal}
use Rattle.std.specs.Str.{IsUtf8}
use Rattle.std.proofs.lemmas.Fmt.{parse-decimal, IsAscii-decimal}
use Rattle.std.proofs.lemmas.Str.{IsUtf8-from_ascii}
use Rattle.output_reader.proofs.pieces.number.Goals as goal

pub returns-in_default-clause-back : goal.returns-in_default-clause-back
returns-in_default-clause-back c = λ n small is.
    let text : IsUtf8 c.args.bytes.now = subst (λ (t : List ℕ). IsUtf8 t) is (IsUtf8-from_ascii (decimal n) (IsAscii-decimal n small)) in
    absurd (c.in_default.ensures.cases.0 text)

pub returns-in-Ok-parse-clause-back : goal.returns-in-Ok-parse-clause-back
returns-in-Ok-parse-clause-back c = λ n small is.
    let parsed : c.parse.result ≡ Ok n = parse-decimal 64 n c.in-Ok.text.now c.parse.result small small (c.in-Ok.ensures.cases.0 ∙ sym is) c.parse.ensures.value.0 in
    cc (parsed, c.in-Ok-parse.is)

pub returns-in-Err-clause-back : goal.returns-in-Err-clause-back
returns-in-Err-clause-back c = λ n small is.
    let parsed : c.parse.result ≡ Ok n = parse-decimal 64 n c.in-Ok.text.now c.parse.result small small (c.in-Ok.ensures.cases.0 ∙ sym is) c.parse.ensures.value.0 in
    cc (parsed, c.in-Err.is)
