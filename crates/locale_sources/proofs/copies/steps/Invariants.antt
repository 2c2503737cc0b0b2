use Rattle.std.proofs.Common.{◌≡◌, map}
use Rattle.std.specs.List.{range_with_len}
use Rattle.locale_sources.specs.Seen.{source}
use Rattle.locale_sources.specs.Copies.{step}
use Rattle.locale_sources.proofs.copies.steps.Given as goal

abbrev pub invariant-loop-number : goal.invariant-loop-number
invariant-loop-number l = l.all.items ≡ map (step (map source l.sources) l.category) (range_with_len 0 l.number)
