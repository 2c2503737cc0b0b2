use Rattle.std.proofs.Common.{◌≡◌, ◌++◌, take}
use Rattle.category_store.proofs.shared.add_shared.Given as goal

abbrev pub invariant-loop-other : goal.invariant-loop-other
invariant-loop-other l = l.locales.items ≡ l.initial.locales.items ++ take l.other-index l.others
