use Rattle.std.proofs.Common.{◌≡◌, ◌+◌, ◌++◌, ◌≤◌, length, drop}
use Rattle.digit_groups.specs.Digits.{last_digits, without_last}
use Rattle.digit_groups.proofs.write_last.Given as goal

-- the digits from here on are written
abbrev pub invariant-loop-missing : goal.invariant-loop-missing
invariant-loop-missing l = record {
  written : last_digits l.count l.n ++ drop l.end l.initial.target ≡ last_digits l.missing l.left ++ drop l.at l.target;
  before : without_last l.count l.n ≡ without_last l.missing l.left;
  place : l.at + l.count ≡ l.end + l.missing;
  within : l.at ≤ length l.target;
}

abbrev pub decreases-loop-missing : goal.decreases-loop-missing
decreases-loop-missing l = l.missing
