use Rattle.std.proofs.Common.{◌≡◌, ◌<◌, ◌≤◌, [], get_or, length, refl, sym, ap, ◌∙◌, arith}
use Rattle.output_reader.proofs.Giving.{gives_thread, le_from_not}
use Rattle.output_reader.proofs.items.thread.Goals as goal

pub returns-in_default-clause-back : goal.returns-in_default-clause-back
returns-in_default-clause-back c = λ t fits is.
    absurd (c.in_default.ensures.none refl t (omega (arith, ap length c.as_slice.ensures, fits.0)) (ap (λ l. get_or l t []) c.as_slice.ensures ∙ is))

pub returns-clause-back : goal.returns-clause-back
returns-clause-back c = λ t fits is.
    let named : get_or c.args.threads.now c.in-Some.t [] ≡ c.args.name.now = ap (λ l. get_or l c.in-Some.t []) (sym c.as_slice.ensures) ∙ c.in-Some.ensures.there.1 in
    let there : c.in-Some.t < length c.args.threads.now = omega (arith, ap length c.as_slice.ensures, c.in-Some.ensures.there.0) in
    let least : c.in-Some.t ≤ t = le_from_not c.in-Some.t t (λ lt. c.in-Some.ensures.first t lt (ap (λ l. get_or l t []) c.as_slice.ensures ∙ is)) in
    gives_thread c.args.threads.now c.in-Some.t t c.small.result there fits.0 (named ∙ sym is) (c.small.ensures.back (omega (arith, least, fits.1)))
