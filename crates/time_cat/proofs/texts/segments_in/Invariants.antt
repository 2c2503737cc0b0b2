use Rattle.std.proofs.Common.{◌≡◌, take}
use Rattle.std.specs.List.{flat_map}
use Rattle.time_cat.specs.Values.{spelled}
use Rattle.time_cat.proofs.texts.segments_in.Given as goal

abbrev pub invariant-loop-text : goal.invariant-loop-text
invariant-loop-text l = l.segments.items ≡ flat_map spelled (take l.text-index l.texts)
