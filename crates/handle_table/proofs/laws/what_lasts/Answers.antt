use Rattle.std.proofs.Common.{sym}
use Rattle.handle_table.proofs.Changes.{freed_for_good, object_stays, own_of_other}
use Rattle.handle_table.proofs.Unchanged.{sets_never_fall, versions_stay, newest_version}
use Rattle.handle_table.proofs.laws.what_lasts.Goals as goal

pub returns-clause-freed_stays : goal.returns-clause-freed_stays
returns-clause-freed_stays c = λ s G H h legal before freed. (freed_for_good s G H h legal before freed).1

pub returns-clause-object_stays : goal.returns-clause-object_stays
returns-clause-object_stays c = object_stays

pub returns-clause-own_stays : goal.returns-clause-own_stays
returns-clause-own_stays c = λ e H t other. own_of_other e H t (λ same. other (sym same))

pub returns-clause-sets_never_fall : goal.returns-clause-sets_never_fall
returns-clause-sets_never_fall c = sets_never_fall

pub returns-clause-versions_stay : goal.returns-clause-versions_stay
returns-clause-versions_stay c = versions_stay

pub returns-clause-newest_version : goal.returns-clause-newest_version
returns-clause-newest_version c = newest_version
