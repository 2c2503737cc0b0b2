use Rattle.std.proofs.Common.{◌≡◌, drop}
use Rattle.msg_catalog.specs.Cursors.{line_of}
use Rattle.msg_catalog.specs.Words.{after_word}
use Rattle.msg_catalog.proofs.words.after_word.Given as goal

abbrev pub invariant-loop-byte : goal.invariant-loop-byte
invariant-loop-byte l = after_word (drop l.byte-index l.word) (line_of l.rest) ≡ after_word l.word (line_of l.fn.cursor)
