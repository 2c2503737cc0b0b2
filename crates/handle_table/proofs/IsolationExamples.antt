-- Closed sets of threads and their parts at worked examples.
use Rattle.std.proofs.Common.{◌≡◌, ℕ, Bool, true, false, List, [], ◌∷◌, None, Some, refl}
use Rattle.std.proofs.lemmas.Bool.{and_parts}
use Rattle.std.specs.Prelude.{◌&&◌, ◌||◌, if◌then◌else◌}
use Rattle.lc_base.specs.declared.category.Category.TheVariants as categories
use Rattle.lc_base.specs.declared.handle.Named.TheVariants.{Global, Of}
use Rattle.handle_table.specs.declared.op.Refusal.TheVariants.{NoData, NeverMade, Stale, TooMany, EmptyCell}
use Rattle.handle_table.specs.Entry.{Op, New, Dup, Free, Use, Hold, Release, SetGlobal, Install, Post, Fetch, Pins, End, Made, Freed, Was, Held, Posted, Got, Pinned, Ended, Refused, Entry, History, Setting}
use Rattle.handle_table.specs.Answer.{entry}
use Rattle.handle_table.specs.Isolation.{has_thread, keeps_apart, IsClosed, part_of, calls_of, replies_of}
use Rattle.handle_table.proofs.Examples.{played, offers, handle, all, make, all_of}

-- three threads of one row each, which makes two objects
abbrev trio : Setting
trio = record { threads = 3; rows = 1; generations = 2; opening = offers }

-- whether each entry keeps the threads apart
abbrev are_apart : List ℕ → History → Bool
are_apart S [] = true
are_apart S (e ∷ H) = keeps_apart S e && are_apart S H

closed_from : (S : List ℕ) (H : History) → are_apart S H ≡ true → IsClosed S H
closed_from S [] all_apart = tt
closed_from S (e ∷ H) all_apart = let parts = and_parts (keeps_apart S e) (are_apart S H) all_apart in (parts.0, closed_from S H parts.1)

abbrev pair : List ℕ
pair = 0 ∷ 1 ∷ []

-- the entry of a call on a table of two objects, one of thread 0 and one of thread 2
abbrev called : ℕ → Op → Entry
called t op = entry trio (played trio [] ((0, make 1) ∷ (2, make 2) ∷ [])) t op

-- ---- what keeps threads 0 and 1 apart from thread 2

shared_handle : keeps_apart pair (called 1 (Use (Of (handle 0 0 1)))) ≡ true
shared_handle = refl

order_and_repetition : keeps_apart (1 ∷ 0 ∷ 1 ∷ []) (called 1 (Use (Of (handle 0 0 1)))) ≡ true
order_and_repetition = refl

another_names_ours : keeps_apart pair (called 2 (Pins (Of (handle 0 0 1)))) ≡ false
another_names_ours = refl

we_name_anothers : keeps_apart pair (called 0 (Dup (Of (handle 2 0 1)))) ≡ false
we_name_anothers = refl

another_names_its_own : keeps_apart pair (called 2 (Use (Of (handle 2 0 1)))) ≡ true
another_names_its_own = refl

-- thread 1 alone shares a handle with thread 0
alone : keeps_apart (1 ∷ []) (called 1 (Use (Of (handle 0 0 1)))) ≡ false
alone = refl

our_cell : keeps_apart pair (called 1 (Fetch 0 3)) ≡ true
our_cell = refl

anothers_cell : keeps_apart pair (called 1 (Fetch 2 3)) ≡ false
anothers_cell = refl

-- to fetch our handle names nothing yet; to use it afterwards does
another_fetches_ours : keeps_apart pair (called 2 (Fetch 0 3)) ≡ true
another_fetches_ours = refl

another_refused : keeps_apart pair (called 2 (Use (Of (handle 0 0 7)))) ≡ false
another_refused = refl

we_are_refused : keeps_apart pair (called 0 (Free (Of (handle 2 0 7)))) ≡ false
we_are_refused = refl

-- each op that names a handle
base_of_ours : keeps_apart pair (called 2 (New 31 (all 2) (Some (Of (handle 0 0 1))))) ≡ false
base_of_ours = refl

copy_of_ours : keeps_apart pair (called 2 (Dup (Of (handle 0 0 1)))) ≡ false
copy_of_ours = refl

free_of_ours : keeps_apart pair (called 2 (Free (Of (handle 0 0 1)))) ≡ false
free_of_ours = refl

hold_of_ours : keeps_apart pair (called 2 (Hold (Of (handle 0 0 1)))) ≡ false
hold_of_ours = refl

release_of_ours : keeps_apart pair (called 2 (Release (Of (handle 0 0 1)))) ≡ false
release_of_ours = refl

post_of_ours : keeps_apart pair (called 2 (Post 0 (Of (handle 0 0 1)))) ≡ false
post_of_ours = refl

-- what names no handle
names_nothing : are_apart pair (called 0 (make 1) ∷ called 0 (New 1 (all 1) (Some Global)) ∷ called 1 (Use Global) ∷ called 2 (Dup Global)
    ∷ called 2 (SetGlobal 31 (all 1)) ∷ called 0 (SetGlobal 31 (all 1)) ∷ called 2 End ∷ []) ≡ true
names_nothing = refl

-- ---- the part of threads 0 and 1

-- thread 2 fills and frees its row, holds on to what it made, and fetches a handle of thread 0
abbrev session : List (ℕ × Op)
session =
    (0, make 1) ∷ (2, make 2) ∷ (2, Use (Of (handle 2 0 1))) ∷ (2, make 2) ∷ (0, Post 0 (Of (handle 0 0 1))) ∷ (2, Hold (Of (handle 2 0 1)))
    ∷ (1, Fetch 0 0) ∷ (2, Fetch 0 0) ∷ (1, Use (Of (handle 0 0 1))) ∷ (2, Free (Of (handle 2 0 1))) ∷ (0, Free (Of (handle 0 0 1)))
    ∷ (0, make 2) ∷ (2, make 1) ∷ (1, Pins (Of (handle 0 0 1))) ∷ (1, Use Global) ∷ (0, make 2) ∷ (1, Use (Of (handle 0 0 1)))
    ∷ (2, End) ∷ (1, Hold (Of (handle 0 0 2))) ∷ (1, End) ∷ (0, End) ∷ []

-- the same calls without those of thread 2
abbrev session_of_two : List (ℕ × Op)
session_of_two =
    (0, make 1) ∷ (0, Post 0 (Of (handle 0 0 1))) ∷ (1, Fetch 0 0) ∷ (1, Use (Of (handle 0 0 1))) ∷ (0, Free (Of (handle 0 0 1)))
    ∷ (0, make 2) ∷ (1, Pins (Of (handle 0 0 1))) ∷ (1, Use Global) ∷ (0, make 2) ∷ (1, Use (Of (handle 0 0 1)))
    ∷ (1, Hold (Of (handle 0 0 2))) ∷ (1, End) ∷ (0, End) ∷ []

session_closed : IsClosed pair (played trio [] session)
session_closed = closed_from pair (played trio [] session) refl

session_part : part_of pair (played trio [] session) ≡ played trio [] session_of_two
session_part = refl

-- threads 0 and 1 get these replies with thread 2 as without it, the newest first
session_replies : replies_of (played trio [] session_of_two)
    ≡ Ended ∷ Ended ∷ Held (all_of 2) ∷ Refused Stale ∷ Made (handle 0 0 2) ∷ Was (Of (handle 0 0 1)) None ∷ Pinned 1 ∷ Refused TooMany
    ∷ Freed ∷ Was Global (Some (all_of 1)) ∷ Got (handle 0 0 1) ∷ Posted ∷ Made (handle 0 0 1) ∷ []
session_replies = refl

pub session_isolated : replies_of (part_of pair (played trio [] session)) ≡ replies_of (played trio [] session_of_two)
session_isolated = refl

-- thread 2 is closed as well, and its part is what it would read alone
session_of_third : replies_of (part_of (2 ∷ []) (played trio [] session))
    ≡ Ended ∷ Refused TooMany ∷ Freed ∷ Got (handle 0 0 1) ∷ Held (all_of 2) ∷ Refused TooMany ∷ Was Global (Some (all_of 2)) ∷ Made (handle 2 0 1) ∷ []
session_of_third = refl

-- thread 2 installs a locale, sets the global one, and is refused once; the part keeps all three
abbrev seen_by_all : List (ℕ × Op)
seen_by_all =
    (2, Install 4 (record { object = all_of 6; available = 31 })) ∷ (0, make 4) ∷ (2, SetGlobal 31 (all 1)) ∷ (2, make 1)
    ∷ (1, Dup Global) ∷ (2, SetGlobal 31 (all 3)) ∷ (0, Use (Of (handle 0 0 1))) ∷ (1, Use (Of (handle 1 0 1))) ∷ []

part_sees_all : calls_of (part_of pair (played trio [] seen_by_all)) ≡
    (1, Use (Of (handle 1 0 1))) ∷ (0, Use (Of (handle 0 0 1))) ∷ (2, SetGlobal 31 (all 3)) ∷ (1, Dup Global) ∷ (2, SetGlobal 31 (all 1))
    ∷ (0, make 4) ∷ (2, Install 4 (record { object = all_of 6; available = 31 })) ∷ []
part_sees_all = refl

-- ---- what would go wrong without one of the cases: the same calls of threads 0 and 1, and other replies

-- the part, if an op that passes the test were all that is seen by everyone
abbrev part_by : (Op → Bool) → List ℕ → History → History
part_by is_seen S [] = []
part_by is_seen S (e ∷ H) = if has_thread S e.who || is_seen e.op then e ∷ part_by is_seen S H else part_by is_seen S H

abbrev is_install : Op → Bool
is_install (Install m offer) = true
is_install _ = false

abbrev is_set : Op → Bool
is_set (SetGlobal mask numbers) = true
is_set _ = false

-- an Install of thread 2 left out of the part
abbrev with_install : History
with_install = played trio [] ((2, Install 4 (record { object = all_of 6; available = 31 })) ∷ (0, make 4) ∷ [])

abbrev without_install : History
without_install = played trio [] ((0, make 4) ∷ [])

install_left_out : calls_of (part_by is_set pair with_install) ≡ calls_of (part_by is_set pair without_install)
install_left_out = refl

install_replies : replies_of (part_by is_set pair with_install) ≡ Made (handle 0 0 1) ∷ []
install_replies = refl

no_install_replies : replies_of (part_by is_set pair without_install) ≡ Refused (NoData categories.Ctype) ∷ []
no_install_replies = refl

install_closed : IsClosed pair with_install
install_closed = closed_from pair with_install refl

-- a SetGlobal of thread 2 left out of the part
abbrev with_set : History
with_set = played trio [] ((2, SetGlobal 31 (all 1)) ∷ (0, Dup Global) ∷ (0, Use (Of (handle 0 0 1))) ∷ [])

abbrev without_set : History
without_set = played trio [] ((0, Dup Global) ∷ (0, Use (Of (handle 0 0 1))) ∷ [])

set_left_out : calls_of (part_by is_install pair with_set) ≡ calls_of (part_by is_install pair without_set)
set_left_out = refl

set_replies : replies_of (part_by is_install pair with_set) ≡ Was Global (Some (all_of 1)) ∷ Made (handle 0 0 1) ∷ []
set_replies = refl

no_set_replies : replies_of (part_by is_install pair without_set) ≡ Was Global (Some (all_of 0)) ∷ Made (handle 0 0 1) ∷ []
no_set_replies = refl

-- a handle of thread 0 named by thread 2, with what thread 0 would get alone
named_by_another : replies_of (part_of pair (played trio [] ((0, make 1) ∷ (2, Free (Of (handle 0 0 1))) ∷ (0, Use (Of (handle 0 0 1))) ∷ [])))
    ≡ Refused Stale ∷ Made (handle 0 0 1) ∷ []
named_by_another = refl

named_by_none : replies_of (played trio [] ((0, make 1) ∷ (0, Use (Of (handle 0 0 1))) ∷ [])) ≡ Was Global (Some (all_of 1)) ∷ Made (handle 0 0 1) ∷ []
named_by_none = refl

-- a handle of thread 2 named by thread 0, whose call is refused in both worlds, and not alike
names_another : replies_of (part_of pair (played trio [] ((2, make 1) ∷ (2, Free (Of (handle 2 0 1))) ∷ (0, Use (Of (handle 2 0 1))) ∷ [])))
    ≡ Refused Stale ∷ []
names_another = refl

names_none : replies_of (played trio [] ((0, Use (Of (handle 2 0 1))) ∷ [])) ≡ Refused NeverMade ∷ []
names_none = refl

-- a cell of thread 2 that thread 0 fetches from
fetched_from_another : replies_of (part_of pair (played trio [] ((2, make 1) ∷ (2, Post 3 (Of (handle 2 0 1))) ∷ (0, Fetch 2 3) ∷ [])))
    ≡ Got (handle 2 0 1) ∷ []
fetched_from_another = refl

fetched_from_none : replies_of (played trio [] ((0, Fetch 2 3) ∷ [])) ≡ Refused EmptyCell ∷ []
fetched_from_none = refl
