use Rattle.std.proofs.Common.{◌≡◌, rules, arith}
use Rattle.std.proofs.lemmas.Grind.{common_steps}
use Rattle.charset.specs.CodedSet.{named}
use Rattle.charset.proofs.Named.{named_is-has}
use Rattle.charset.proofs.charset.Charset.value_of.Goals as goal

pub returns-clause-has : goal.returns-clause-has
returns-clause-has c =
    let value : c.or_else.result ≡ named c.args.self.now c.args.name.now = first_of (search rules, grind (arith, common_steps)) in
    named_is-has c.args.self.now c.args.name.now c.or_else.result value
