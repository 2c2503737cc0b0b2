use Rattle.std.proofs.Common.{◌≡◌, drop, false}
use Rattle.src_lines.specs.Atoms.{name}
use Rattle.src_lines.proofs.Naming.{name_after}
use Rattle.src_lines.proofs.atom.name.Given as goal

abbrev pub invariant-loop-i : goal.invariant-loop-i
invariant-loop-i l = name_after l.text.items l.i (name l.escape l.taken (drop l.i l.bytes)) ≡ name l.escape false l.bytes
