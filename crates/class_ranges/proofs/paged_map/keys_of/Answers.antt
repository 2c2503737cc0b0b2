use Rattle.std.proofs.Common.{ap, ◌∙◌}
use Rattle.class_ranges.specs.Ranges.{covers}
use Rattle.class_ranges.proofs.Blocks.{keys_forward, fixed_outside}
use Rattle.class_ranges.proofs.paged_map.keys_of.Goals as goal

pub of_pairs-requires : goal.of_pairs-requires
of_pairs-requires c = rw (c.deref.ensures.value, c.in_ok-ranges.ensures) (keys_forward c.args.entries.now.entries)

pub returns : goal.returns
returns c =
    fixed_outside c.in_ok-keys.keys c.args.entries.now.entries
    (λ w. c.in_ok-keys.ensures.values w ∙ ap (λ ranges. covers ranges w) (c.deref.ensures.value ∙ c.in_ok-ranges.ensures))
