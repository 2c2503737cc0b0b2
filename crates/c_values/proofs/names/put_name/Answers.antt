use Rattle.std.proofs.Common.{◌≡◌, Bool, true, sym, ap, ◌∙◌, arith}
use Rattle.std.specs.Prelude.{nat_eq, if◌then◌else◌}
use Rattle.std.proofs.lemmas.Bool.Decides.{nat_tests}
use Rattle.shared_objects.specs.Objects.{names_in}
use Rattle.c_values.specs.Answers.{told, joint_name, one_told, category_with}
use Rattle.c_values.proofs.NameLemmas.{five_same}
use Rattle.c_values.proofs.names.put_name.Goals as goal

pub returns-then-mask-eq-ALL : goal.returns-then-mask-eq-ALL
returns-then-mask-eq-ALL c =
    let is_all : nat_eq c.args.mask 31 ≡ true = grind (arith, nat_tests, c.if-mask-eq-ALL.true) in
    c.put_joint.ensures
    ∙ ap (λ names. told c.args.buffer.now (joint_name names)) (five_same _ _ _ _ _ _ _ _ _ _ c.name-ctype.ensures c.name-numeric.ensures c.name-monetary.ensures c.name-time.ensures c.name-messages.ensures)
    ∙ sym (ap (λ (b : Bool). if b then told c.args.buffer.now (joint_name (names_in c.args.view.now)) else one_told c.args.buffer.now c.args.view.now (category_with c.args.mask)) is_all)
