use Rattle.std.proofs.Common.{sym}
use Rattle.strfmon.specs.Decimals.{whole_digits}
use Rattle.std.specs.Prelude.{not}
use Rattle.strfmon.specs.Looks.{look_of, parts_text}
use Rattle.strfmon.specs.Money.{precision_of}
use Rattle.strfmon.specs.Seen.{seen}
use Rattle.strfmon.proofs.MoneyLemmas.{length-text_with}
use Rattle.strfmon.proofs.layout.layout_of.Goals as goal

pub returns-clause-width : goal.returns-clause-width
returns-clause-width c = λ a e.
    let text = length-text_with c.args.m.now c.args.c.now a (seen c.args.own.now) (look_of c.args.m.now c.args.c.now (not c.args.negative)) c.args.decimal.digits e in
    let before = c.pads_of-before.ensures.before (parts_text (seen c.args.own.now) c.args.own.now.before.now) (sym c.width-own_before.ensures.is) in
    let after = c.pads_of-before.ensures.after (parts_text (seen c.args.own.now) c.args.own.now.after.now) (sym c.width-own_after.ensures.is) in
    let whole = c.grouped_width-whole.ensures.length (whole_digits (precision_of c.args.m.now c.args.c.now) a) e in
    let fraction = c.fraction_width-fraction.ensures.is a in
    cc (c.requires.precision, c.aligned_digits-aligned.ensures.is, c.fill_count-fill.ensures.is, c.width-own_before.ensures.is, c.width-own_after.ensures.is, c.text-sep.ensures)
