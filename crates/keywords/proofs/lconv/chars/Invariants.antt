use Rattle.std.proofs.Common.{◌≡◌, map, take}
use Rattle.keywords.specs.LconvChars.{encoded}
use Rattle.keywords.proofs.lconv.chars.Given as goal

-- the sizes so far
abbrev pub invariant-loop-size : goal.invariant-loop-size
invariant-loop-size l = l.chars.items ≡ map encoded (take l.size-index l.sizes)
