use Rattle.std.proofs.Common.{length, arith, ap}
use Rattle.strfmon.proofs.MoneyLemmas.{length-shown_fraction}
use Rattle.strfmon.proofs.write.write_fraction.Goals as goal

pub write_digits-digits-requires-clause-room : goal.write_digits-digits-requires-clause-room
write_digits-digits-requires-clause-room c =
    let wide = length-shown_fraction c.args.m.now c.args.decimal (omega arith) c.requires.short in
    omega (arith, wide, c.requires.short, c.requires.room, c.write_repeated-zeros.ensures.begins)

pub write_before-requires-clause-room : goal.write_before-requires-clause-room
write_before-requires-clause-room c =
    let wide = length-shown_fraction c.args.m.now c.args.decimal (omega arith) c.requires.short in
    omega (arith, wide, c.requires.short, c.requires.room, c.write_repeated-zeros.ensures.begins, c.write_digits-digits.ensures.begins, ap length c.radix_of.ensures)

pub returns-clause-begins : goal.returns-clause-begins
returns-clause-begins c =
    let wide = length-shown_fraction c.args.m.now c.args.decimal (omega arith) c.requires.short in
    omega (arith, wide, c.requires.short, c.requires.room, c.write_repeated-zeros.ensures.begins, c.write_digits-digits.ensures.begins, c.write_before.ensures.begins, ap length c.radix_of.ensures)
