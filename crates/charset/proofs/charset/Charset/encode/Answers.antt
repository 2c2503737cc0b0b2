use Rattle.charset.proofs.Encodings.{is_some-code}
use Rattle.charset.proofs.charset.Charset.encode.Goals as goal

pub returns-in-Listed-clause-has : goal.returns-in-Listed-clause-has
returns-in-Listed-clause-has c = rw (← c.self.view_is, c.in-Listed.is) (is_some-code c.in-Listed.set c.args.w _ c.encode-in-Listed.ensures.bytes)
