use Rattle.std.proofs.Common.{◌≡◌, ◌++◌, drop, replicate, arith, ap, ◌∙◌}
use Rattle.std.specs.Prelude.{unwrap_or}
use Rattle.strfmon.specs.Looks.{parts_text}
use Rattle.strfmon.specs.Money.{spaces}
use Rattle.strfmon.specs.Shown.{shown_number}
use Rattle.strfmon.specs.Seen.{seen}
use Rattle.strfmon.proofs.MoneyLemmas.{length-shown_parts, six_before}
use Rattle.strfmon.proofs.write.write_text.Goals as goal

pub write_repeated-behind-requires-clause-room : goal.write_repeated-behind-requires-clause-room
write_repeated-behind-requires-clause-room c = omega (arith, c.requires.room, length-shown_parts c.args.m.now c.args.c.now c.args.decimal (seen c.args.look.now) c.args.spread.before c.args.spread.fill c.args.spread.after)

pub write-after-requires-clause-room : goal.write-after-requires-clause-room
write-after-requires-clause-room c = omega (arith, c.requires.room, c.write_repeated-behind.ensures.begins, length-shown_parts c.args.m.now c.args.c.now c.args.decimal (seen c.args.look.now) c.args.spread.before c.args.spread.fill c.args.spread.after)

pub write_number-number-requires-clause-room : goal.write_number-number-requires-clause-room
write_number-number-requires-clause-room c = omega (arith, c.requires.room, c.write_repeated-behind.ensures.begins, c.write-after.ensures.begins, length-shown_parts c.args.m.now c.args.c.now c.args.decimal (seen c.args.look.now) c.args.spread.before c.args.spread.fill c.args.spread.after)

pub write_repeated-fill-requires-clause-room : goal.write_repeated-fill-requires-clause-room
write_repeated-fill-requires-clause-room c = omega (arith, c.requires.room, c.write_repeated-behind.ensures.begins, c.write-after.ensures.begins, c.write_number-number.ensures.begins, length-shown_parts c.args.m.now c.args.c.now c.args.decimal (seen c.args.look.now) c.args.spread.before c.args.spread.fill c.args.spread.after)

pub write-before-requires-clause-room : goal.write-before-requires-clause-room
write-before-requires-clause-room c = omega (arith, c.requires.room, c.write_repeated-behind.ensures.begins, c.write-after.ensures.begins, c.write_number-number.ensures.begins, c.write_repeated-fill.ensures.begins, length-shown_parts c.args.m.now c.args.c.now c.args.decimal (seen c.args.look.now) c.args.spread.before c.args.spread.fill c.args.spread.after)

pub write_repeated-requires-clause-room : goal.write_repeated-requires-clause-room
write_repeated-requires-clause-room c = omega (arith, c.requires.room, c.write_repeated-behind.ensures.begins, c.write-after.ensures.begins, c.write_number-number.ensures.begins, c.write_repeated-fill.ensures.begins, c.write-before.ensures.begins, length-shown_parts c.args.m.now c.args.c.now c.args.decimal (seen c.args.look.now) c.args.spread.before c.args.spread.fill c.args.spread.after)

pub returns-clause-begins : goal.returns-clause-begins
returns-clause-begins c = omega (arith, c.write_repeated-behind.ensures.begins, c.write-after.ensures.begins, c.write_number-number.ensures.begins, c.write_repeated-fill.ensures.begins, c.write-before.ensures.begins, c.write_repeated.ensures.begins, length-shown_parts c.args.m.now c.args.c.now c.args.decimal (seen c.args.look.now) c.args.spread.before c.args.spread.fill c.args.spread.after)

pub returns-clause-written : goal.returns-clause-written
returns-clause-written c =
    let whole = six_before (spaces c.args.spread.before) (parts_text (seen c.args.look.now) c.args.look.now.before.now) (replicate c.args.spread.fill (unwrap_or c.args.c.now.flags.fill 32)) (shown_number c.args.m.now c.args.c.now c.args.decimal) (parts_text (seen c.args.look.now) c.args.look.now.after.now) (spaces c.args.spread.after) (drop c.args.end c.args.target.now) in
    let fill : replicate c.args.spread.fill c.unwrap_or.result ≡ replicate c.args.spread.fill (unwrap_or c.args.c.now.flags.fill 32) = ap (λ b. replicate c.args.spread.fill b) c.unwrap_or.ensures in
    c.write_repeated.ensures.written
    ∙ ap (λ t. spaces c.args.spread.before ++ t) (c.write-before.ensures.written
    ∙ ap (λ t. parts_text (seen c.args.look.now) c.args.look.now.before.now ++ t) (c.write_repeated-fill.ensures.written
    ∙ ap (λ t. t ++ drop c.write_number-number.result c.write_number-number.new.target) fill
    ∙ ap (λ t. replicate c.args.spread.fill (unwrap_or c.args.c.now.flags.fill 32) ++ t) (c.write_number-number.ensures.written
    ∙ ap (λ t. shown_number c.args.m.now c.args.c.now c.args.decimal ++ t) (c.write-after.ensures.written
    ∙ ap (λ t. parts_text (seen c.args.look.now) c.args.look.now.after.now ++ t) c.write_repeated-behind.ensures.written))))
    ∙ whole
