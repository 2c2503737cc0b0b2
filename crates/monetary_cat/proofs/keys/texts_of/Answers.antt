use Rattle.std.proofs.Common.{refl}
use Rattle.monetary_cat.proofs.keys.texts_of.Goals as goal

pub returns : goal.returns
returns c = rw (c.in_ok-text.ensures, c.in_ok-text-2.ensures, c.in_ok-text-3.ensures, c.in_ok-text-4.ensures, c.in_ok-text-5.ensures, c.in_ok-text-6.ensures) refl
