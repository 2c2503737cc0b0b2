use Rattle.std.proofs.Common.{rules, ◌≡◌, ◌∙◌, sym, false, eqb, get_or}
use Rattle.msg_catalog.proofs.Reading.{word_ends, word_differs}
use Rattle.msg_catalog.proofs.words.after_word.Goals as goal
use Rattle.msg_catalog.proofs.words.after_word.Goals.{in_default-via-in-Some+else-spot-byte, in_default-via-in_default}

pub returns-in_default : goal.returns-in_default
returns-in_default c =
    elim c.in_default.branch [
      | in_default-via-in-Some+else-spot-byte w ↦
          let differs : eqb w.in-Some.spot.byte (get_or c.args.word.now c.loop-byte.byte-index 0) ≡ false = search rules in
          sym (word_differs c.args.word.now c.loop-byte.byte-index w.in-Some.spot _ _ c.loop-byte-test.true w.in-Some.ensures.line differs) ∙ c.loop-byte.invariant
      | in_default-via-in_default w ↦
          sym (word_ends c.args.word.now c.loop-byte.byte-index _ c.loop-byte-test.true (rw w.in_default.is at c.next.ensures.line)) ∙ c.loop-byte.invariant
    ]
