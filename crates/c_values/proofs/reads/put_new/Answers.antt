use Rattle.std.proofs.Common.{◌<◌, ap, ◌∙◌, arith}
use Rattle.c_values.specs.Answers.{locale_told}
use Rattle.c_values.proofs.TextLemmas.{new_known}
use Rattle.c_values.proofs.reads.put_new.Goals as goal

-- src/reads.rt:57:1
pub returns-in-Some : goal.returns-in-Some
returns-in-Some c =
    let few : c.args.bits < 32 = omega (arith, c.if-bits-lt32.true) in
    c.put_locale.ensures
    ∙ ap (λ made. locale_told c.args.out.now made) c.new_locale.ensures
    ∙ new_known c.args.out.now c.args.library.now c.args.bits c.in-Some.mask c.args.name.now c.args.base.now few c.in-Some.ensures.mask
