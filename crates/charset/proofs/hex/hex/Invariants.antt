use Rattle.std.proofs.Common.{◌≡◌, ◌<◌, ◌^◌, drop}
use Rattle.charset.specs.Hex.{hex_after}
use Rattle.charset.proofs.hex.hex.Given as goal

abbrev pub invariant-loop-digit : goal.invariant-loop-digit
invariant-loop-digit l = (hex_after l.number (drop l.digit-index l.digits) ≡ hex_after 0 l.digits) × (l.number < 16 ^ l.digit-index)
