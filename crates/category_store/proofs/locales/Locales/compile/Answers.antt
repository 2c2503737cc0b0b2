use Rattle.std.proofs.Common.{◌∙◌, ap, map, subst, sym}
use Rattle.lc_base.specs.Reading.{Gives}
use Rattle.locale_sources.specs.Seen.{source}
use Rattle.locale_sources.specs.Rows.{given_unless}
use Rattle.category_store.specs.Kept.{rows_fault, locale_in}
use Rattle.category_store.proofs.CompileLemmas.{told}
use Rattle.category_store.proofs.locales.Locales.compile.Goals as goal

pub returns : goal.returns
returns c =
    let kept = c.in_ok-kept.kept in
    let told_is = told (map source c.args.sources.now) kept c.args.rows.items _ c.in_ok-kept.ensures c.requires
    (c.rows_fault-fault.ensures ∙ ap (rows_fault kept) c.as_slice.ensures.value) in
    let made = c.in_ok-locales.ensures ∙ ap (map (locale_in kept)) c.as_slice-2.ensures.value in
    subst (λ reads. Gives (λ l. l) c.made_unless.result reads) (ap (given_unless c.rows_fault-fault.result) made ∙ sym told_is) c.made_unless.ensures
