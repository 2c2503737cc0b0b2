use Rattle.std.proofs.Common.{◌≡◌, ◌+◌, ◌-◌, ◌≤◌, ◌||◌, length, count_by}
use Rattle.std.specs.List.{list_any}
use Rattle.time_cat.specs.Formats.{pieces, rest_of, is_conversion, has_rank, bad_place}
use Rattle.time_cat.proofs.faults.surveyed.Given as goal

abbrev pub invariant-reading : goal.invariant-reading
invariant-reading l = record {
  within : l.at ≤ length l.format;
  fits : l.conversions ≤ l.at;
  bad : bad_place (rest_of l.format l.at) ≡ bad_place (pieces l.format);
  count : l.conversions + count_by is_conversion (rest_of l.format l.at) ≡ count_by is_conversion (pieces l.format);
  ranked : (l.ranked || list_any (has_rank l.rank) (rest_of l.format l.at)) ≡ list_any (has_rank l.rank) (pieces l.format);
}

abbrev pub decreases-reading : goal.decreases-reading
decreases-reading l = length l.format - l.at
