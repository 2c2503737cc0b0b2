use Rattle.charset.proofs.TailLemmas.{tail-all_digits, length-tail}
use Rattle.charset.proofs.tail.split_tail.Goals as goal

pub returns-clause-all_digits : goal.returns-clause-all_digits
returns-clause-all_digits c = rw (c.split_at.ensures.back, c.min-width.ensures, c.digit_count.ensures) (tail-all_digits c.args.name.now)

pub returns-clause-width : goal.returns-clause-width
returns-clause-width c = rw (c.split_at.ensures.back, c.min-width.ensures, c.digit_count.ensures) (length-tail c.args.name.now)
