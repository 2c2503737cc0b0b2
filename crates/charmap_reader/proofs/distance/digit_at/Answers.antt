use Rattle.std.proofs.Common.{◌-◌, length, arith}
use Rattle.std.proofs.lemmas.Str.Parse.{digit_at}
use Rattle.charmap_reader.proofs.distance.digit_at.Goals as goal

pub overflow_sub-digits-then-place-digits : goal.overflow_sub-digits-then-place-digits
overflow_sub-digits-then-place-digits c = (digit_at c.args.digits.now _ c.requires.all_digits (omega arith)).0

pub returns-then-place-digits-clause-small : goal.returns-then-place-digits-clause-small
returns-then-place-digits-clause-small c =
    let digits = c.args.digits.now in
    let range = digit_at digits (length digits - c.args.place) c.requires.all_digits (omega arith) in
    omega (arith, range.0, range.1)
