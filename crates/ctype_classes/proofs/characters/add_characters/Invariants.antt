use Rattle.std.proofs.Common.{◌+◌, ◌-◌}
use Rattle.charset.specs.CodedSet.{has}
use Rattle.ctype_classes.proofs.CharacterLemmas.{AreAdded}
use Rattle.ctype_classes.proofs.characters.add_characters.Given as goal

abbrev pub invariant-loop-first : goal.invariant-loop-first
invariant-loop-first l = AreAdded (has l.charset) l.fn.parts.items l.fn.range.0 l.fn.range.1 l.from l.last l.parts.items

abbrev pub decreases-loop-first : goal.decreases-loop-first
decreases-loop-first l = l.last + 1 - l.from
