use Rattle.std.proofs.Common.{map}
use Rattle.std.specs.Option.{option_copied}
use Rattle.locale_sources.specs.Seen.{source}
use Rattle.category_store.proofs.Installable.{is_installable}
use Rattle.category_store.proofs.LibraryLemmas.{library_is}
use Rattle.category_store.proofs.Numbered.{is_numbered}
use Rattle.category_store.proofs.WithinLemmas.{library_within}
use Rattle.category_store.proofs.library.library_of.Goals as goal

pub invariant_of-result : goal.invariant_of-result
invariant_of-result c =
    library_within (map source c.args.sources.now) _ c.in_ok-names.names c.in_ok-locales.ensures c.in_ok-names.ensures.names c.in_ok-names.ensures.first c.in_ok-names.ensures.keys

pub returns-clause-library : goal.returns-clause-library
returns-clause-library c =
    library_is (map source c.args.sources.now) (option_copied c.args.native) _ _ _ _ c.in_ok-names.names.native
    c.in_ok-locales.ensures c.in_ok-names.ensures.names c.in_ok-names.ensures.first c.in_ok-names.ensures.keys c.in_ok-names.ensures.native

pub returns-clause-numbered : goal.returns-clause-numbered
returns-clause-numbered c = is_numbered (option_copied c.args.native) (map source c.args.sources.now) _ (returns-clause-library c)

pub returns-clause-installable : goal.returns-clause-installable
returns-clause-installable c = is_installable (option_copied c.args.native) (map source c.args.sources.now) _ (returns-clause-library c)
