use Rattle.std.proofs.Common.{◌≡◌, ◌++◌, ◌+◌, length, map}
use Rattle.category_store.specs.Blocks.{by_place}
use Rattle.category_store.specs.Seen.{placed}
use Rattle.category_store.proofs.blocks.by_place.Given as goal

abbrev pub invariant-loop-block : goal.invariant-loop-block
invariant-loop-block l = map placed l.blocks.items ++ by_place l.locales l.later ≡ by_place l.fn.locales l.fn.later

abbrev pub decreases-loop-block : goal.decreases-loop-block
decreases-loop-block l = length l.locales + length l.later
