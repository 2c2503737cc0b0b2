use Rattle.std.proofs.Common.{◌≡◌, length, arith, ap}
use Rattle.digit_groups.specs.Digits.{last_digits}
use Rattle.digit_groups.specs.Groups.{separated, grouped}
use Rattle.digit_groups.proofs.DigitLemmas.{length-separated_digits}
use Rattle.digit_groups.proofs.write_grouped.Goals as goal

pub write_number-requires-clause-room : goal.write_number-requires-clause-room
write_number-requires-clause-room c =
    let same : separated (last_digits c.args.count c.args.n) c.sizes_used.result.now c.args.sep.now ≡ grouped (last_digits c.args.count c.args.n) c.args.sizes.now c.args.sep.now = ap (λ s. separated (last_digits c.args.count c.args.n) s c.args.sep.now) c.sizes_used.ensures.is in
    omega (arith, c.requires.room, length-separated_digits c.args.count c.args.n c.sizes_used.result.now c.args.sep.now, ap length same)

pub returns-clause-begins : goal.returns-clause-begins
returns-clause-begins c =
    let same : separated (last_digits c.args.count c.args.n) c.sizes_used.result.now c.args.sep.now ≡ grouped (last_digits c.args.count c.args.n) c.args.sizes.now c.args.sep.now = ap (λ s. separated (last_digits c.args.count c.args.n) s c.args.sep.now) c.sizes_used.ensures.is in
    omega (arith, c.write_number.ensures.begins, length-separated_digits c.args.count c.args.n c.sizes_used.result.now c.args.sep.now, ap length same)
