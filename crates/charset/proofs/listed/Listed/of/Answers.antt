use Rattle.charset.proofs.ListedLemmas.{ranges_covered, forward_more}
use Rattle.charset.proofs.listed.Listed.of.Goals as goal

pub of_pairs-requires : goal.of_pairs-requires
of_pairs-requires c = rw (c.deref.ensures.value, c.in_ok-extend_from_slice.ensures.items) (forward_more c.in_ok-pairs.pairs.items c.in_ok-pairs.ensures.forward)

pub invariant_of-result : goal.invariant_of-result
invariant_of-result c = record {
  covered = ranges_covered c.args.name c.args.names c.in_ok-pairs.pairs.items c.in_ok-ranges.ranges c.in_ok-pairs.ensures.covered (rw (c.deref.ensures.value, c.in_ok-extend_from_slice.ensures.items) at c.in_ok-ranges.ensures.values);
  short = c.in_ok-pairs.ensures.short;
}
