use Rattle.strptime_fields.proofs.NumberLemmas.{number_is}
use Rattle.strptime_fields.proofs.number.number.Goals as goal

pub returns-clause-is : goal.returns-clause-is
returns-clause-is c =
    let counted = rw (c.most.ensures.is, c.behind_white-left.ensures) at c.digit_count.ensures.is in
    let cut = rw (c.behind_white-left.ensures) at c.split_at.ensures.front in
    let behind = rw (c.behind_white-left.ensures) at c.split_at.ensures.back in
    number_is c.args.digits c.args.low c.args.high c.args.left.now _ _ _ _ counted cut behind c.within.ensures.is
