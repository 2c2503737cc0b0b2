use Rattle.std.proofs.Common.{arith, refl}
use Rattle.charset.specs.CodedSet.{has}
use Rattle.ctype_classes.proofs.CharacterLemmas.{added_run, added_last}
use Rattle.ctype_classes.proofs.characters.add_characters.Goals as goal

pub returns-then-last-end-clause-values : goal.returns-then-last-end-clause-values
returns-then-last-end-clause-values c = λ w.
    rw (c.in_ok-push.ensures.items, c.min.ensures)
    (added_last (has c.args.charset.now) c.args.parts.items c.loop-first.parts.items c.args.range.0 c.args.range.1 c.loop-first.from c.in-Some.first c.in-Some.end c.in-Some.ensures (omega arith) (omega arith) c.loop-first.invariant w)

pub loop-first-preserved : goal.loop-first-preserved
loop-first-preserved c =
    rw (c.in_ok-push.ensures.items, c.min.ensures)
    (added_run (has c.args.charset.now) c.args.parts.items c.loop-first.parts.items c.args.range.0 c.args.range.1 c.loop-first.from c.in-Some.first c.in-Some.end _ c.in-Some.ensures (omega arith) (omega arith) refl c.loop-first.invariant)
