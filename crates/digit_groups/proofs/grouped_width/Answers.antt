use Rattle.std.proofs.Common.{◌-◌, ◌*◌, ◌≤◌, length, arith}
use Rattle.std.proofs.Math.Nat.{mul-le-mul_right}
use Rattle.digit_groups.proofs.grouped_width.Goals as goal

pub returns-clause-fits : goal.returns-clause-fits
returns-clause-fits c =
    let few : c.width_of.result - c.args.n ≤ 255 = omega (arith, c.width_of.ensures.most) in
    let most : (c.width_of.result - c.args.n) * length c.args.sep.now ≤ 255 * length c.args.sep.now = mul-le-mul_right (length c.args.sep.now) few in
    omega arith
