use Rattle.std.proofs.Common.{◌*◌, ◌≤◌, arith}
use Rattle.std.proofs.Math.Nat.{mul-le-mul_right}
use Rattle.digit_groups.specs.Groups.{sizes_used}
use Rattle.digit_groups.proofs.GroupLemmas.{length-separated}
use Rattle.digit_groups.proofs.width_of.Goals as goal

pub returns-clause-length : goal.returns-clause-length
returns-clause-length c = λ digits sep n. let w = length-separated digits (sizes_used c.args.sizes.now) sep in cc

pub returns-clause-most : goal.returns-clause-most
returns-clause-most c =
    let most : c.separators.result * c.args.sep_len ≤ c.args.n * c.args.sep_len = mul-le-mul_right c.args.sep_len c.separators.ensures.few in
    omega arith
