use Rattle.std.proofs.Common.{◌≡◌, ◌∷◌, drop}
use Rattle.std.specs.Hash.DefaultHasher as sip
use Rattle.shared_objects.specs.Marks.{fed, parts_bytes}
use Rattle.shared_objects.proofs.mark.parts_mark.Given as goal

-- what is left of the parts leads to what is fed in all
abbrev pub invariant-loop-part : goal.invariant-loop-part
invariant-loop-part l = fed l.hasher (parts_bytes (drop l.part-index l.parts)) ≡ fed sip.initial (1 ∷ parts_bytes l.parts)
