use Rattle.std.proofs.Common.{◌<◌, length, Some, sym, ap, ◌∙◌, arith}
use Rattle.std.specs.Prelude.{slice_index}
use Rattle.class_ranges.proofs.Words.{bit_test}
use Rattle.ctype_classes.proofs.ClassBits.{some_below}
use Rattle.ctype_classes.proofs.class_bits.low_answer.Goals as goal

pub returns-then-w-words : goal.returns-then-w-words
returns-then-w-words c =
    let class : c.args.number < length c.args.classes.now = omega (arith, c.if-number-min.true, c.min.ensures, c.len.ensures) in
    let bit : c.args.number < 64 = omega (arith, c.if-number-min.true, c.min.ensures) in
    some_below c.args.classes.now c.args.number c.args.w class
    ∙ ap Some (sym (bit_test (slice_index c.args.words.now c.args.w) c.args.number ∙ c.requires c.args.w c.if-w-words.true c.args.number bit))
