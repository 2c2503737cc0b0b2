use Rattle.std.proofs.Common.{◌≡◌, ◌+◌, ◌-◌, ◌≤◌, length, Ok}
use Rattle.time_cat.specs.Formats.{pieces, rest_of}
use Rattle.strptime_fields.specs.Keeping.{nothing}
use Rattle.strptime_fields.specs.Scans.{bad_from, followed, through, reads}
use Rattle.strptime_fields.specs.Seen.{seen}
use Rattle.strptime_fields.proofs.Through.{followed_left}
use Rattle.strptime_fields.proofs.scan.strptime_counted.Given as goal

abbrev pub invariant-reading : goal.invariant-reading
invariant-reading g l = record {
  within : l.at ≤ length l.format;
  bad : bad_from l.t l.at (rest_of l.format l.at) ≡ bad_from l.t 0 (pieces l.format);
  progress : through l.t (followed_left 5 l.t l.format l.at) (seen l.progress) ≡ through l.t (followed 5 l.t l.format) (Ok (l.text, nothing));
  steps : l.steps + reads (followed_left 5 l.t l.format l.at) ≡ l.initial.steps + reads (followed 5 l.t l.format);
}

abbrev pub decreases-reading : goal.decreases-reading
decreases-reading g l = length l.format - l.at
