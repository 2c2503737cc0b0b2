use Rattle.std.proofs.Common.{inl, inr, refl}
use Rattle.locale_cli.proofs.top.run.Goals as goal

pub returns-in-Err-TooLarge-clause-ran : goal.returns-in-Err-TooLarge-clause-ran
returns-in-Err-TooLarge-clause-ran g c =
    let came = rw c.in-Err-TooLarge.field-0-is at c.in-Err-TooLarge.ensures.too_large in
    let sound = rw c.in-Err-TooLarge.field-0-is at c.in-Err-TooLarge.ensures.sound in
    inl (inr (came refl, sound (λ e. cc), c.written_status.ensures))
