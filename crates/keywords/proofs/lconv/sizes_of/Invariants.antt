use Rattle.std.proofs.Common.{◌≡◌, ◌++◌, map, take, drop}
use Rattle.keywords.specs.LconvChars.{encoded, sizes_of}
use Rattle.keywords.proofs.lconv.sizes_of.Given as goal

-- those before, and what counts of those to come
abbrev pub invariant-loop-i : goal.invariant-loop-i
invariant-loop-i l = map encoded (take l.i l.sizes) ++ sizes_of (drop l.i l.sizes) ≡ sizes_of l.sizes
