use Rattle.std.proofs.Common.{◌≡◌, ◌++◌, [], length, drop, arith, ap, ◌∙◌}
use Rattle.std.proofs.lemmas.List.{append-nil, drop_all}
use Rattle.digit_groups.specs.Groups.{separated}
use Rattle.digit_groups.proofs.fill_groups.Goals as goal

pub returns : goal.returns
returns c =
    let begin : c.write_groups.result ≡ 0 = omega (arith, c.requires.room, c.write_groups.ensures.begins) in
    let written : c.write_groups.new.target ≡ separated c.args.digits.now c.args.sizes.now c.args.sep.now ++ drop (length c.args.target.now) c.args.target.now = rw begin at c.write_groups.ensures.written in
    let over : drop (length c.args.target.now) c.args.target.now ≡ [] = drop_all (length c.args.target.now) c.args.target.now (omega arith) in
    written ∙ ap (λ t. separated c.args.digits.now c.args.sizes.now c.args.sep.now ++ t) over ∙ append-nil (separated c.args.digits.now c.args.sizes.now c.args.sep.now)
