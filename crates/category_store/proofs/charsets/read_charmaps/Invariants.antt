use Rattle.std.proofs.Common.{◌≡◌, drop}
use Rattle.category_store.specs.Sources.{charsets, charsets_after}
use Rattle.category_store.proofs.charsets.read_charmaps.Given as goal

abbrev pub invariant-loop-block : goal.invariant-loop-block
invariant-loop-block l = charsets l.charmaps ≡ charsets_after l.listed (drop l.block-index l.charmaps)
