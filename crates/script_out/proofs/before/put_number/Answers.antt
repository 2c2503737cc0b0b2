use Rattle.std.proofs.Common.{◌≤◌, length, decimal, arith, rules}
use Rattle.std.proofs.lemmas.Fmt.{length-decimal-le}
use Rattle.script_out.proofs.before.put_number.Goals as goal

pub write_digits-requires : goal.write_digits-requires
write_digits-requires c = search (rules, arith, length-decimal-le 20)

pub returns-clause-start : goal.returns-clause-start
returns-clause-start c =
    let short : length (decimal c.args.n) ≤ 20 = search (rules, arith, length-decimal-le 20) in
    omega (arith, short)
