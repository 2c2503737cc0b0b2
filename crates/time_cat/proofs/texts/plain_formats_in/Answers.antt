use Rattle.std.proofs.Common.{refl}
use Rattle.time_cat.proofs.texts.plain_formats_in.Goals as goal

pub returns : goal.returns
returns c = rw (c.in_ok-d_t_fmt.ensures, c.in_ok-d_fmt.ensures, c.in_ok-t_fmt.ensures, c.in_ok-t_fmt_ampm.ensures) refl
