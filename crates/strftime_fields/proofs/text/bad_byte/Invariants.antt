use Rattle.std.proofs.Common.{◌≡◌, ◌+◌, ◌-◌, ◌≤◌, length, count_by}
use Rattle.time_cat.specs.Formats.{pieces, rest_of, is_conversion, bad_place}
use Rattle.strftime_fields.proofs.text.bad_byte.Given as goal

abbrev pub invariant-reading : goal.invariant-reading
invariant-reading g l = record {
  within : l.at ≤ length l.format;
  bad : bad_place (rest_of l.format l.at) ≡ bad_place (pieces l.format);
  steps : l.steps + count_by is_conversion (rest_of l.format l.at) ≡ l.initial.steps + count_by is_conversion (pieces l.format);
}

abbrev pub decreases-reading : goal.decreases-reading
decreases-reading g l = length l.format - l.at
