use Rattle.charset.proofs.Encodings.{encoded-not_utf8}
use Rattle.charset.proofs.unicode.decode.Goals as goal

pub returns-in-Err : goal.returns-in-Err
returns-in-Err c = encoded-not_utf8 _ c.in-Err.ensures.cases.0
