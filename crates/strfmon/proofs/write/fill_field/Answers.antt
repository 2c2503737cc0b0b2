use Rattle.std.proofs.Common.{◌≡◌, ℕ, List, ◌++◌, [], length, drop, arith, ap, ◌∙◌}
use Rattle.std.proofs.lemmas.List.{append-nil, drop_all}
use Rattle.strfmon.specs.Money.{with_spaces}
use Rattle.strfmon.specs.Shown.{shown_parts}
use Rattle.strfmon.specs.Seen.{seen}
use Rattle.strfmon.proofs.write.fill_field.Goals as goal

pub returns : goal.returns
returns c =
    let text : List ℕ = with_spaces c.args.c.now.flags.left c.args.spread.field (shown_parts c.args.m.now c.args.c.now c.args.decimal (seen c.args.look.now) c.args.spread.before c.args.spread.fill c.args.spread.after) in
    let begin : c.write_in_field.result ≡ 0 = omega (arith, c.requires.room, c.write_in_field.ensures.begins) in
    let written : c.write_in_field.new.target ≡ text ++ drop (length c.args.target.now) c.args.target.now = rw begin at c.write_in_field.ensures.written in
    let over : drop (length c.args.target.now) c.args.target.now ≡ [] = drop_all (length c.args.target.now) c.args.target.now (omega arith) in
    written ∙ ap (λ t. text ++ t) over ∙ append-nil text
