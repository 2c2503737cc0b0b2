use Rattle.std.proofs.Common.{◌∷◌}
use Rattle.lc_base.specs.declared.category.Category.TheVariants.{Ctype, Numeric, Monetary, Time, Messages}
use Rattle.mask_compose.specs.Names.{field}
use Rattle.c_values.proofs.NameLemmas.{five_filled}
use Rattle.c_values.proofs.names.write_mixed.Goals as goal

pub returns : goal.returns
returns c =
    five_filled c.args.buffer.now c.put_field-first.new.buffer c.put_next-second.new.buffer c.put_next-third.new.buffer c.put_next-fourth.new.buffer c.put_next-end.new.buffer c.put_byte.new.target
    c.put_field-first.result c.put_next-second.result c.put_next-third.result c.put_next-fourth.result c.put_next-end.result
    (field Ctype c.args.ctype.now) (59 ∷ field Numeric c.args.numeric.now) (59 ∷ field Monetary c.args.monetary.now) (59 ∷ field Time c.args.time.now) (59 ∷ field Messages c.args.messages.now)
    c.put_field-first.ensures.ends c.put_field-first.ensures.written c.put_next-second.ensures.ends c.put_next-second.ensures.written
    c.put_next-third.ensures.ends c.put_next-third.ensures.written c.put_next-fourth.ensures.ends c.put_next-fourth.ensures.written
    c.put_next-end.ensures.ends c.put_next-end.ensures.written c.put_byte.ensures.written
