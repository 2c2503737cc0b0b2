use Rattle.std.proofs.Common.{◌≡◌, ◌+◌, ◌-◌, ◌*◌, ◌≤◌, ◌<◌, length}
use Rattle.strptime_fields.specs.Scans.{followed, through, reads}
use Rattle.strptime_fields.specs.Seen.{seen}
use Rattle.strptime_fields.proofs.Through.{followed_left}
use Rattle.strptime_fields.proofs.follow.+follow.Given as goal

-- what the pieces that are left give from here is what the whole format gives, and so it is with what they cost
abbrev pub invariant-follow_format-reading : goal.invariant-follow_format-reading
invariant-follow_format-reading g l = record {
  within : l.at ≤ length l.format;
  some : 0 < l.levels;
  progress : through l.t (followed_left l.levels l.t l.format l.at) (seen l.progress) ≡ through l.t (followed l.levels l.t l.format) (seen l.fn.progress);
  steps : l.steps + reads (followed_left l.levels l.t l.format l.at) ≡ l.initial.steps + reads (followed l.levels l.t l.format);
}

abbrev pub decreases-follow_format-reading : goal.decreases-follow_format-reading
decreases-follow_format-reading g l = length l.format - l.at

abbrev pub decreases-follow_format : goal.decreases-follow_format
decreases-follow_format g l = 2 * l.levels

abbrev pub decreases-follow_conversion : goal.decreases-follow_conversion
decreases-follow_conversion g l = 2 * l.levels + 1
