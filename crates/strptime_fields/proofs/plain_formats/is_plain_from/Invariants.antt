use Rattle.std.proofs.Common.{◌≡◌, ◌-◌, ◌≤◌, length, false}
use Rattle.time_cat.specs.Formats.{pieces, rest_of}
use Rattle.strptime_fields.specs.Plain.{are_plain}
use Rattle.strptime_fields.proofs.plain_formats.is_plain_from.Given as goal

abbrev pub invariant-reading : goal.invariant-reading
invariant-reading g l = record {
  within : l.at ≤ length l.format;
  plain : are_plain l.number (rest_of l.format l.at) ≡ are_plain false (pieces l.format);
}

abbrev pub decreases-reading : goal.decreases-reading
decreases-reading g l = length l.format - l.at
