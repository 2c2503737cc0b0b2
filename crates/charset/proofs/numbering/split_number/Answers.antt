use Rattle.charset.proofs.DigitLemmas.{digits-all_digits}
use Rattle.charset.proofs.numbering.split_number.Goals as goal

pub returns-clause-all_digits : goal.returns-clause-all_digits
returns-clause-all_digits c =
    let name = c.args.name.now in
    rw c.split_at.ensures.back (rw c.digit_count.ensures (digits-all_digits name))
