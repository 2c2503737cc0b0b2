use Rattle.std.proofs.Common.{map}
use Rattle.locale_sources.specs.Seen.{source}
use Rattle.locale_sources.specs.Copies.{copy_fault}
use Rattle.locale_sources.specs.Rows.{rows_from}
use Rattle.category_store.specs.Compiled.{locales_of}
use Rattle.category_store.proofs.LibraryLemmas.{categories_follow}
use Rattle.category_store.proofs.library.compile.Goals as goal

pub returns : goal.returns
returns c =
    let S = map source c.args.sources.now in
    categories_follow _ c.compile.result (copy_fault S) (rows_from S 1 S) _ (locales_of S) c.in_ok-rows.ensures c.compile.ensures
