use Rattle.charset.specs.CodedSet.{utf8, posix}
use Rattle.charset.proofs.Encodings.{valued_is, decoded-has}
use Rattle.charset.proofs.charset.Charset.value_of_bytes.Goals as goal

pub returns-in-Utf8-clause-value : goal.returns-in-Utf8-clause-value
returns-in-Utf8-clause-value c = rw (← c.self.view_is, c.in-Utf8.is) (valued_is utf8 _ _ c.decode.ensures)

pub returns-in-Posix-clause-value : goal.returns-in-Posix-clause-value
returns-in-Posix-clause-value c = rw (← c.self.view_is, c.in-Posix.is) (valued_is posix _ _ c.decode-in-Posix.ensures)

pub returns-in-Listed-clause-value : goal.returns-in-Listed-clause-value
returns-in-Listed-clause-value c = rw (← c.self.view_is, c.in-Listed.is) (valued_is _ _ _ c.decode-in-Listed.ensures)

pub returns-in-Listed-clause-has : goal.returns-in-Listed-clause-has
returns-in-Listed-clause-has c = rw (← c.self.view_is, c.in-Listed.is) (decoded-has _ _ _ c.decode-in-Listed.ensures)
