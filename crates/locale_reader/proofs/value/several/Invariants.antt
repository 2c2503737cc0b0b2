use Rattle.std.proofs.Common.{◌≡◌, drop}
use Rattle.locale_reader.specs.Values.{several}
use Rattle.locale_reader.proofs.Lists.{after}
use Rattle.locale_reader.proofs.value.several.Given as goal

abbrev pub invariant-loop-operand : goal.invariant-loop-operand
invariant-loop-operand l = after l.values (several l.charset l.kind (drop l.operand-index l.operands)) ≡ several l.charset l.kind l.operands
