use Rattle.std.proofs.Common.{◌≤◌, ◌∷◌, [], length, arith}
use Rattle.mask_compose.specs.Names.{field}
use Rattle.c_values.proofs.NameLemmas.{then_written}
use Rattle.c_values.proofs.names.put_next.Goals as goal

pub returns-clause-written : goal.returns-clause-written
returns-clause-written c =
    let fits : c.args.at ≤ length c.args.buffer.now = omega (arith, c.requires) in
    then_written c.args.buffer.now c.put_byte-separated.new.target c.put_field.new.buffer c.args.at c.put_byte-separated.result (59 ∷ []) (field c.args.category c.args.part.now) fits c.put_byte-separated.ensures.ends c.put_byte-separated.ensures.written c.put_field.ensures.written
