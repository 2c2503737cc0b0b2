use Rattle.std.proofs.Common.{◌≡◌, ◌++◌, drop}
use Rattle.tool_decimals.specs.Decimals.{carried}
use Rattle.tool_decimals.proofs.rounding.carried.Given as goal

-- the digits so far, and those that are left
abbrev pub invariant-loop-digit : goal.invariant-loop-digit
invariant-loop-digit l = l.raised.items ++ carried l.carry (drop l.digit-index l.digits) ≡ carried l.is_up l.digits
