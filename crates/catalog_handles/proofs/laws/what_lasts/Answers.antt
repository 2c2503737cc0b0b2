use Rattle.catalog_handles.proofs.Refused.{stale_for_good, book_stays}
use Rattle.catalog_handles.proofs.laws.what_lasts.Goals as goal

pub returns-clause-closed_stays : goal.returns-clause-closed_stays
returns-clause-closed_stays c = stale_for_good

pub returns-clause-book_stays : goal.returns-clause-book_stays
returns-clause-book_stays c = book_stays
