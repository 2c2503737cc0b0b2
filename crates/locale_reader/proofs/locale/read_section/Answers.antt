use Rattle.std.proofs.Common.{◌≡◌, ◌+◌, ◌-◌, ap, ◌∙◌, arith, Ok}
use Rattle.std.proofs.lemmas.Result.{err_from_is_err_and}
use Rattle.lc_base.proofs.ReadingLemmas.{fails_first}
use Rattle.locale_reader.proofs.Sections.{section_open, section_closed}
use Rattle.locale_reader.proofs.locale.read_section.Goals as goal

pub returns-in_default-clause-is : goal.returns-in_default-clause-is
returns-in_default-clause-is c =
    rw c.place.ensures (section_open c.args.charset.now c.args.sections.items _ _ _ (c.args.i + 1) c.first_words.ensures.first c.in_default.ensures.is)

pub returns-in_err-sections-clause-is : goal.returns-in_err-sections-clause-is
returns-in_err-sections-clause-is c =
    let p = err_from_is_err_and c.from_residual.result c.from_residual.ensures.1 in
    let closed = section_closed c.args.charset.now c.args.sections.items _ _ _ (c.args.i + 1) c.in-Some.«end» c.first_words.ensures.first c.in-Some.ensures.is in
    rw (p.1, p.2) (fails_first c.in_err-sections.field-0.0 _ _ _ closed (rw (c.place-2.ensures, c.category_named-category.ensures) at c.in_err-sections.ensures))

pub returns-clause-is : goal.returns-clause-is
returns-clause-is c =
    let count : c.in-Some.«end» - (c.args.i + 1) + 1 ≡ c.in-Some.«end» + 1 - (c.args.i + 1) = omega (arith, c.in-Some.ensures.within.0) in
    let closed = section_closed c.args.charset.now c.args.sections.items _ _ _ (c.args.i + 1) c.in-Some.«end» c.first_words.ensures.first c.in-Some.ensures.is in
    let read = rw (c.place-2.ensures, c.category_named-category.ensures) at c.in_ok-sections.ensures in
    closed ∙ rw read (ap (λ n. Ok (c.in_ok-sections.sections.items, n)) count)
