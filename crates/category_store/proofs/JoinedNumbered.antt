-- The names of two libraries as one have numbers that are on its shelf.
use Rattle.std.proofs.Common.{ℕ, zero, suc, ◌+◌, ◌≤◌, Option, Some, None, List, [], ◌∷◌, length, arith}
use Rattle.std.specs.Prelude.{unwrap_or}
use Rattle.lc_base.specs.Tables.{first_named}
use Rattle.lc_base.specs.Named.{with_named}
use Rattle.charset.specs.Portable.{Name}
use Rattle.category_store.specs.LibraryData.{LibraryData}
use Rattle.category_store.specs.Joined.{numbered_after, names_of_both, entry_at, number_among, native_of_both, joined}
use Rattle.category_store.specs.Shelf.{IsNumbered}
use Rattle.category_store.proofs.Numbered.{AreUpTo, with_one, found_up_to, or_zero, numbered_counted}

after_counted : (named es : List (Name × ℕ)) → AreUpTo (length named) named → AreUpTo (length (numbered_after named es)) (numbered_after named es)
after_counted named [] counted = counted
after_counted named (e ∷ es) counted = after_counted (with_named named e.0 (length named + 1)) es (with_one named e.0 counted)

both_counted : (earlier later : List (Name × ℕ)) → AreUpTo (length (names_of_both earlier later)) (names_of_both earlier later)
both_counted earlier later = after_counted (numbered_after [] earlier) later (after_counted [] earlier tt)

among_up_to : (m : ℕ) (names own : List (Name × ℕ)) (n : ℕ) → AreUpTo m names → number_among names own n ≤ m
among_up_to m names own zero counted = omega arith
among_up_to m names own (suc k) counted = or_zero m (first_named names (entry_at own k).0) (found_up_to m names (entry_at own k).0 counted)

native_up_to : (m : ℕ) (names earlier : List (Name × ℕ)) (first : Option ℕ) (later : List (Name × ℕ)) (second : Option ℕ) → AreUpTo m names → unwrap_or (native_of_both names earlier first later second) 0 ≤ m
native_up_to m names earlier first later (Some n) counted = among_up_to m names later n counted
native_up_to m names earlier (Some n) later None counted = among_up_to m names earlier n counted
native_up_to m names earlier None later None counted = omega arith

pub joined_numbered : (earlier later : LibraryData) → IsNumbered (joined earlier later)
joined_numbered earlier later =
    let names = names_of_both earlier.names later.names in
    let counted : AreUpTo (length names) names = both_counted earlier.names later.names in
    numbered_counted (joined earlier later) (record { names = counted; native = native_up_to (length names) names earlier.names earlier.native later.names later.native counted })
