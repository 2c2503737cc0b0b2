use Rattle.std.proofs.Common.{◌≡◌, ◌≤◌, ◌-◌, length, drop}
use Rattle.tool_decimals.specs.Limits.{DIGITS_OF_A_NUMBER}
use Rattle.tool_decimals.specs.Scans.{behind_digits, digits_at}
use Rattle.tool_decimals.proofs.read.digits_at.Given as goal

-- the digits so far, and those that are read behind them
abbrev pub invariant-loop-digit : goal.invariant-loop-digit
invariant-loop-digit l = record {
  so_far : behind_digits l.digits.items (digits_at l.separator (DIGITS_OF_A_NUMBER - length l.digits.items) 0 l.at (drop l.at l.text)) ≡ digits_at l.separator DIGITS_OF_A_NUMBER 0 l.start (drop l.start l.text);
  few : length l.digits.items ≤ DIGITS_OF_A_NUMBER;
  behind : l.start ≤ l.at;
  within : l.at ≤ length l.text;
}

abbrev pub decreases-loop-digit : goal.decreases-loop-digit
decreases-loop-digit l = length l.text - l.at
