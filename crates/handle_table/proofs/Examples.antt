-- The definitions at worked examples: sessions of a few calls with the replies that are wanted.
use Rattle.std.proofs.Common.{◌≡◌, ℕ, ◌<◌, true, false, ◌==◌, List, [], ◌∷◌, None, Some, is_some, refl, ap, sym, lit<, arith}
use Rattle.std.specs.Prelude.{unwrap_or}
use Rattle.std.proofs.lemmas.Bool.{eqb-false, true≢false}
use Rattle.std.proofs.lemmas.List.Elements.{All-cons, All-nil}
use Rattle.lc_base.specs.declared.category.Category.TheVariants as categories
use Rattle.mask_compose.specs.Parts.{Parts}
use Rattle.mask_compose.specs.Offer.{Offered, AreOnShelf}
use Rattle.lc_base.specs.declared.handle.Handle.{Handle}
use Rattle.lc_base.specs.declared.handle.Named.TheVariants.{Global, Of}
use Rattle.handle_table.specs.declared.op.Refusal.TheVariants.{NoData, GlobalHandle, NeverMade, Stale, TooMany, AlreadyHeld, NotHeld, EmptyCell}
use Rattle.handle_table.specs.Entry.{Op, names, New, Dup, Free, Use, Hold, Release, SetGlobal, Install, Post, Fetch, Pins, End, Reply, Made, Freed, Was, Held, Released, Set, Installed, Posted, Got, Pinned, Ended, Refused, History, Setting}
use Rattle.handle_table.specs.Shelf.{lacking}
use Rattle.handle_table.specs.History.{global_at, holders, Selects, Holds, free_row}
use Rattle.handle_table.specs.Answer.{answer, entry, own_after, own}
use Rattle.handle_table.specs.Table.{IsOpening, Fits, has_base, SaysTheSame}
use Rattle.handle_table.proofs.Unchanged.{refused_changes_nothing}

-- the history after some calls, given oldest first
abbrev pub played : Setting → History → List (ℕ × Op) → History
played c H [] = H
played c H ((t, op) ∷ calls) = played c (entry c H t op ∷ H) calls

-- the replies to some calls, oldest first
abbrev replies : Setting → History → List (ℕ × Op) → List Reply
replies c H [] = []
replies c H ((t, op) ∷ calls) = answer c H t op ∷ replies c (entry c H t op ∷ H) calls

-- the object of one part in each category
abbrev pub all_of : ℕ → Parts
all_of n = record { ctype = n; numeric = n; monetary = n; time = n; messages = n }

-- an object of part n for LC_NUMERIC, over that of part m
abbrev numeric_of : ℕ → ℕ → Parts
numeric_of n m = record { ctype = m; numeric = n; monetary = m; time = m; messages = m }

-- an object of part n for LC_TIME, over that of part m
abbrev time_of : ℕ → ℕ → Parts
time_of n m = record { ctype = m; numeric = m; monetary = m; time = n; messages = m }

-- the names 0 to 4: the POSIX locale, two locales with all categories, one with LC_NUMERIC alone, and
-- one that only an Install gives anything
abbrev pub offers : List Offered
offers =
    record { object = all_of 0; available = 31 } ∷ record { object = all_of 1; available = 31 } ∷ record { object = all_of 2; available = 31 }
    ∷ record { object = numeric_of 3 0; available = 2 } ∷ record { object = all_of 0; available = 0 } ∷ []

abbrev pub usual : Setting
usual = record { threads = 2; rows = 16; generations = 65535; opening = offers }

-- one row with two generations
abbrev narrow : Setting
narrow = record { threads = 2; rows = 1; generations = 2; opening = offers }

abbrev pub handle : ℕ → ℕ → ℕ → Handle
handle t r g = record { owner = t; row = r; generation = g }

-- one name for each category
abbrev pub all : ℕ → List ℕ
all n = n ∷ n ∷ n ∷ n ∷ n ∷ []

-- a new object of a name in each category
abbrev pub make : ℕ → Op
make n = New 31 (all n) None

-- an object that is freed while its thread has it selected stays the thread's own until the next Use
abbrev freed_while_selected : List (ℕ × Op)
freed_while_selected =
    (0, New 2 (all 1) None) ∷ (0, Use (Of (handle 0 0 1))) ∷ (0, Free (Of (handle 0 0 1)))
    ∷ (0, Use (Of (handle 0 0 1))) ∷ (0, Use Global) ∷ (0, End) ∷ []

freed_while_selected-replies : replies usual [] freed_while_selected
    ≡ Made (handle 0 0 1) ∷ Was Global (Some (numeric_of 1 0)) ∷ Freed ∷ Refused Stale ∷ Was (Of (handle 0 0 1)) None ∷ Ended ∷ []
freed_while_selected-replies = refl

freed_while_selected-own : own (played usual [] (
    (0, New 2 (all 1) None) ∷ (0, Use (Of (handle 0 0 1))) ∷ (0, Free (Of (handle 0 0 1)))
    ∷ (0, Use (Of (handle 0 0 1))) ∷ [])) 0 ≡ Some (numeric_of 1 0)
freed_while_selected-own = refl

-- a thread frees an object that another has selected: the row is not used again until the pin goes, and
-- then with the next generation
freed_while_in_use : replies usual [] (
    (0, make 1) ∷ (0, Post 0 (Of (handle 0 0 1))) ∷ (1, Fetch 0 0) ∷ (1, Use (Of (handle 0 0 1)))
    ∷ (0, Free (Of (handle 0 0 1))) ∷ (0, make 2) ∷ (1, Pins (Of (handle 0 0 1))) ∷ (1, Use Global)
    ∷ (0, make 1) ∷ (1, Use (Of (handle 0 0 1))) ∷ (0, End) ∷ (1, End) ∷ [])
    ≡ Made (handle 0 0 1) ∷ Posted ∷ Got (handle 0 0 1) ∷ Was Global (Some (all_of 1))
    ∷ Freed ∷ Made (handle 0 1 1) ∷ Pinned 1 ∷ Was (Of (handle 0 0 1)) None
    ∷ Made (handle 0 0 2) ∷ Refused Stale ∷ Ended ∷ Ended ∷ []
freed_while_in_use = refl

-- sixteen rows give sixteen objects, and the seventeenth is refused
seventeen_makes : replies usual [] (
    (0, make 1) ∷ (0, make 1) ∷ (0, make 1) ∷ (0, make 1) ∷ (0, make 1) ∷ (0, make 1) ∷ (0, make 1) ∷ (0, make 1)
    ∷ (0, make 1) ∷ (0, make 1) ∷ (0, make 1) ∷ (0, make 1) ∷ (0, make 1) ∷ (0, make 1) ∷ (0, make 1) ∷ (0, make 1)
    ∷ (0, make 1) ∷ [])
    ≡ Made (handle 0 0 1) ∷ Made (handle 0 1 1) ∷ Made (handle 0 2 1) ∷ Made (handle 0 3 1)
    ∷ Made (handle 0 4 1) ∷ Made (handle 0 5 1) ∷ Made (handle 0 6 1) ∷ Made (handle 0 7 1)
    ∷ Made (handle 0 8 1) ∷ Made (handle 0 9 1) ∷ Made (handle 0 10 1) ∷ Made (handle 0 11 1)
    ∷ Made (handle 0 12 1) ∷ Made (handle 0 13 1) ∷ Made (handle 0 14 1) ∷ Made (handle 0 15 1)
    ∷ Refused TooMany ∷ []
seventeen_makes = refl

-- with one row a New with a base needs none, one without is refused, and other threads have rows of their own
one_row : replies narrow [] (
    (0, make 1) ∷ (0, New 8 (all 2) (Some (Of (handle 0 0 1)))) ∷ (0, make 1) ∷ (0, Use (Of (handle 0 0 1))) ∷ (1, make 2) ∷ [])
    ≡ Made (handle 0 0 1) ∷ Made (handle 0 0 1) ∷ Refused TooMany ∷ Was Global (Some (time_of 2 1)) ∷ Made (handle 1 0 1) ∷ []
one_row = refl

-- a row that has made all its generations is never free again; a base that is changed makes none
spent_row : replies narrow [] (
    (0, make 1) ∷ (0, New 8 (all 2) (Some (Of (handle 0 0 1)))) ∷ (0, Free (Of (handle 0 0 1)))
    ∷ (0, make 1) ∷ (0, Free (Of (handle 0 0 2))) ∷ (0, make 1) ∷ [])
    ≡ Made (handle 0 0 1) ∷ Made (handle 0 0 1) ∷ Freed ∷ Made (handle 0 0 2) ∷ Freed ∷ Refused TooMany ∷ []
spent_row = refl

-- a base keeps its handle and gets the new categories; a thread that has it selected or held keeps what it
-- took up; a refused New leaves the base as it was
base_keeps_handle : replies usual [] (
    (0, make 1) ∷ (0, Use (Of (handle 0 0 1))) ∷ (0, Hold (Of (handle 0 0 1)))
    ∷ (0, New 2 (all 2) (Some (Of (handle 0 0 1)))) ∷ (0, Use (Of (handle 0 0 1))) ∷ (0, Release (Of (handle 0 0 1)))
    ∷ (0, Hold (Of (handle 0 0 1))) ∷ (0, Release (Of (handle 0 0 1))) ∷ (0, New 8 (all 3) (Some (Of (handle 0 0 1))))
    ∷ (0, Hold (Of (handle 0 0 1))) ∷ (0, Release (Of (handle 0 0 1))) ∷ (0, Free (Of (handle 0 0 1)))
    ∷ (0, New 31 (all 1) (Some (Of (handle 0 0 1)))) ∷ (0, End) ∷ [])
    ≡ Made (handle 0 0 1) ∷ Was Global (Some (all_of 1)) ∷ Held (all_of 1)
    ∷ Made (handle 0 0 1) ∷ Was (Of (handle 0 0 1)) (Some (numeric_of 2 1)) ∷ Released
    ∷ Held (numeric_of 2 1) ∷ Released ∷ Refused (NoData categories.Time)
    ∷ Held (numeric_of 2 1) ∷ Released ∷ Freed
    ∷ Refused Stale ∷ Ended ∷ []
base_keeps_handle = refl

base_keeps_handle-own : own (played usual [] (
    (0, make 1) ∷ (0, Use (Of (handle 0 0 1))) ∷ (0, New 2 (all 2) (Some (Of (handle 0 0 1)))) ∷ [])) 0 ≡ Some (all_of 1)
base_keeps_handle-own = refl

-- any thread may build on a live handle, and its owner keeps it; there is no base in the global locale, in
-- a handle that was freed, and in one that no one made
bases : replies usual [] (
    (0, make 1) ∷ (1, New 8 (all 2) (Some (Of (handle 0 0 1)))) ∷ (1, make 1) ∷ (0, Use (Of (handle 0 0 1)))
    ∷ (0, New 31 (all 2) (Some Global)) ∷ (0, New 31 (all 2) (Some (Of (handle 0 1 1))))
    ∷ (1, Free (Of (handle 0 0 1))) ∷ (0, New 31 (all 2) (Some (Of (handle 0 0 1)))) ∷ [])
    ≡ Made (handle 0 0 1) ∷ Made (handle 0 0 1) ∷ Made (handle 1 0 1) ∷ Was Global (Some (time_of 2 1))
    ∷ Refused GlobalHandle ∷ Refused NeverMade ∷ Freed ∷ Refused Stale ∷ []
bases = refl

-- an Install changes what its name stands for from then on, and no object; the name has then just the
-- categories of the new offer
install_later : replies usual [] (
    (0, New 2 (all 2) None) ∷ (0, Use (Of (handle 0 0 1))) ∷ (1, Install 2 (record { object = numeric_of 5 0; available = 2 }))
    ∷ (1, New 2 (all 2) None) ∷ (1, Use (Of (handle 1 0 1))) ∷ (1, New 8 (all 2) None) ∷ (0, Use (Of (handle 0 0 1)))
    ∷ (0, End) ∷ (1, End) ∷ [])
    ≡ Made (handle 0 0 1) ∷ Was Global (Some (numeric_of 2 0)) ∷ Installed 1
    ∷ Made (handle 1 0 1) ∷ Was Global (Some (numeric_of 5 0)) ∷ Refused (NoData categories.Time) ∷ Was (Of (handle 0 0 1)) (Some (numeric_of 2 0))
    ∷ Ended ∷ Ended ∷ []
install_later = refl

-- a name that only an Install gives something; the last Install counts, and one of another name does not
installs : replies usual [] (
    (0, make 4) ∷ (1, Install 4 (record { object = all_of 6; available = 31 })) ∷ (0, make 4)
    ∷ (1, Install 4 (record { object = all_of 7; available = 31 })) ∷ (1, Install 3 (record { object = all_of 8; available = 31 }))
    ∷ (0, SetGlobal 31 (all 4)) ∷ (0, Use (Of (handle 0 0 1))) ∷ [])
    ≡ Refused (NoData categories.Ctype) ∷ Installed 1 ∷ Made (handle 0 0 1)
    ∷ Installed 2 ∷ Installed 3
    ∷ Set 1 (all_of 7) ∷ Was Global (Some (all_of 6)) ∷ []
installs = refl

-- each category takes the part of its own name; where the mask has no category the name is not looked at
several_names : replies usual [] (
    (0, New 31 (1 ∷ 3 ∷ 2 ∷ 0 ∷ 1 ∷ []) None) ∷ (0, Use (Of (handle 0 0 1)))
    ∷ (0, New 19 (2 ∷ 3 ∷ 4 ∷ 4 ∷ 1 ∷ []) None) ∷ (0, Use (Of (handle 0 1 1))) ∷ (0, New 0 (all 4) None) ∷ (0, Use (Of (handle 0 2 1))) ∷ [])
    ≡ Made (handle 0 0 1) ∷ Was Global (Some (record { ctype = 1; numeric = 3; monetary = 2; time = 0; messages = 1 }))
    ∷ Made (handle 0 1 1) ∷ Was (Of (handle 0 0 1)) (Some (record { ctype = 2; numeric = 3; monetary = 0; time = 0; messages = 1 }))
    ∷ Made (handle 0 2 1) ∷ Was (Of (handle 0 1 1)) (Some (all_of 0)) ∷ []
several_names = refl

-- the first category that is lacking, in the order of the categories, and within the mask
first_lacking : lacking usual [] 31 (3 ∷ 3 ∷ 4 ∷ 1 ∷ 1 ∷ []) ≡ Some categories.Ctype
first_lacking = refl

lacking_within_the_mask : lacking usual [] 30 (3 ∷ 3 ∷ 4 ∷ 1 ∷ 4 ∷ []) ≡ Some categories.Monetary
lacking_within_the_mask = refl

nothing_lacking : lacking usual [] 11 (1 ∷ 3 ∷ 4 ∷ 0 ∷ 4 ∷ []) ≡ None
nothing_lacking = refl

-- a category that is lacking goes before each other reason
no_data_first : replies narrow [] (
    (0, New 8 (all 3) (Some Global)) ∷ (0, New 8 (all 3) (Some (Of (handle 0 0 1)))) ∷ (0, make 1)
    ∷ (0, Free (Of (handle 0 0 1))) ∷ (0, New 8 (all 3) (Some (Of (handle 0 0 1)))) ∷ (0, make 1)
    ∷ (0, New 8 (all 3) None) ∷ (0, New 2 (all 3) None) ∷ (0, SetGlobal 10 (all 3)) ∷ [])
    ≡ Refused (NoData categories.Time) ∷ Refused (NoData categories.Time) ∷ Made (handle 0 0 1)
    ∷ Freed ∷ Refused (NoData categories.Time) ∷ Made (handle 0 0 2)
    ∷ Refused (NoData categories.Time) ∷ Refused TooMany ∷ Refused (NoData categories.Time) ∷ []
no_data_first = refl

-- the versions of the global locale, of which a refused SetGlobal makes none, and a copy of one that later calls do not change
copy_of_global : replies usual [] (
    (0, SetGlobal 8 (all 2)) ∷ (1, Dup Global) ∷ (1, SetGlobal 31 (all 3)) ∷ (1, SetGlobal 31 (all 1)) ∷ (0, Use (Of (handle 1 0 1))) ∷ [])
    ≡ Set 1 (time_of 2 0) ∷ Made (handle 1 0 1) ∷ Refused (NoData categories.Ctype) ∷ Set 2 (all_of 1)
    ∷ Was Global (Some (time_of 2 0)) ∷ []
copy_of_global = refl

-- a copy of an object that is held and selected, and its base changed afterwards; none of one that is freed
copies : replies usual [] (
    (0, make 1) ∷ (0, Hold (Of (handle 0 0 1))) ∷ (1, Dup (Of (handle 0 0 1))) ∷ (0, New 8 (all 2) (Some (Of (handle 0 0 1))))
    ∷ (1, Use (Of (handle 1 0 1))) ∷ (0, Free (Of (handle 0 0 1))) ∷ (1, Dup (Of (handle 0 0 1))) ∷ (0, Dup (Of (handle 1 5 1))) ∷ [])
    ≡ Made (handle 0 0 1) ∷ Held (all_of 1) ∷ Made (handle 1 0 1) ∷ Made (handle 0 0 1)
    ∷ Was Global (Some (all_of 1)) ∷ Freed ∷ Refused Stale ∷ Refused NeverMade ∷ []
copies = refl

version_one : global_at usual (played usual [] ((0, SetGlobal 8 (all 2)) ∷ (1, SetGlobal 31 (all 1)) ∷ (1, End) ∷ [])) 1 ≡ time_of 2 0
version_one = refl

version_two : global_at usual (played usual [] ((0, SetGlobal 8 (all 2)) ∷ (1, SetGlobal 31 (all 1)) ∷ (1, End) ∷ [])) 2 ≡ all_of 1
version_two = refl

-- a held object keeps its row, also where its thread selects it too
held : replies narrow [] (
    (0, make 1) ∷ (0, Hold (Of (handle 0 0 1))) ∷ (0, Hold (Of (handle 0 0 1))) ∷ (0, Use (Of (handle 0 0 1)))
    ∷ (0, Pins (Of (handle 0 0 1))) ∷ (0, Free (Of (handle 0 0 1))) ∷ (0, make 2) ∷ (0, Release (Of (handle 0 0 1)))
    ∷ (0, Release (Of (handle 0 0 1))) ∷ (0, End) ∷ (0, Pins (Of (handle 0 0 1))) ∷ (0, make 2) ∷ [])
    ≡ Made (handle 0 0 1) ∷ Held (all_of 1) ∷ Refused AlreadyHeld ∷ Was Global (Some (all_of 1))
    ∷ Pinned 2 ∷ Freed ∷ Refused TooMany ∷ Released
    ∷ Refused NotHeld ∷ Ended ∷ Pinned 0 ∷ Made (handle 0 0 2) ∷ []
held = refl

-- pins are counted once a thread and manner; a thread that does not hold the handle cannot release it, and an
-- End gives up what its thread holds and selects, and nothing of others
holders_of_one : holders usual (played usual [] (
    (0, make 1) ∷ (0, Hold (Of (handle 0 0 1))) ∷ (0, Use (Of (handle 0 0 1))) ∷ (0, Use (Of (handle 0 0 1)))
    ∷ (1, Release (Of (handle 0 0 1))) ∷ (1, Hold (Of (handle 0 0 1))) ∷ [])) (handle 0 0 1)
    ≡ (0, Selects) ∷ (0, Holds) ∷ (1, Holds) ∷ []
holders_of_one = refl

holders_after_end : holders usual (played usual [] (
    (0, make 1) ∷ (0, Hold (Of (handle 0 0 1))) ∷ (0, Use (Of (handle 0 0 1))) ∷ (1, Hold (Of (handle 0 0 1)))
    ∷ (0, End) ∷ [])) (handle 0 0 1) ≡ (1, Holds) ∷ []
holders_after_end = refl

-- the least free row: below a live handle's, and none where each row has a live handle or a pin
least_row : free_row usual (played usual [] ((0, make 1) ∷ (0, make 1) ∷ (0, Free (Of (handle 0 0 1))) ∷ [])) 0 ≡ Some 0
least_row = refl

no_row : free_row narrow (played narrow [] ((0, make 1) ∷ (1, Use (Of (handle 0 0 1))) ∷ (0, Free (Of (handle 0 0 1))) ∷ [])) 0 ≡ None
no_row = refl

-- cells are a thread's own, and the last accepted Post to one counts; a posted handle may be freed
cells : replies usual [] (
    (1, Fetch 0 3) ∷ (0, make 1) ∷ (0, Post 3 (Of (handle 0 0 1))) ∷ (0, Post 3 (Of (handle 0 7 1))) ∷ (1, Post 3 Global)
    ∷ (1, Fetch 0 3) ∷ (1, Fetch 1 3) ∷ (1, Fetch 0 4) ∷ (0, Free (Of (handle 0 0 1))) ∷ (1, Fetch 0 3)
    ∷ (1, Use (Of (handle 0 0 1))) ∷ (0, Post 3 (Of (handle 0 0 1))) ∷ [])
    ≡ Refused EmptyCell ∷ Made (handle 0 0 1) ∷ Posted ∷ Refused NeverMade ∷ Refused GlobalHandle
    ∷ Got (handle 0 0 1) ∷ Refused EmptyCell ∷ Refused EmptyCell ∷ Freed ∷ Got (handle 0 0 1)
    ∷ Refused Stale ∷ Refused Stale ∷ []
cells = refl

-- what names the global locale, or a handle that no one made, is refused as that
no_object : replies usual [] (
    (0, Free Global) ∷ (0, Use (Of (handle 0 5 1))) ∷ (0, Free (Of (handle 0 5 1))) ∷ (0, Hold Global) ∷ (0, Pins Global)
    ∷ (0, Pins (Of (handle 0 5 1))) ∷ (0, Dup (Of (handle 0 5 1))) ∷ (0, Use Global) ∷ (0, Release Global)
    ∷ (0, Release (Of (handle 0 5 1))) ∷ [])
    ≡ Refused GlobalHandle ∷ Refused NeverMade ∷ Refused NeverMade ∷ Refused GlobalHandle ∷ Refused GlobalHandle
    ∷ Refused NeverMade ∷ Refused NeverMade ∷ Was Global None ∷ Refused GlobalHandle
    ∷ Refused NotHeld ∷ []
no_object = refl

-- an End leaves the objects of its thread live, and gives up what it selected and held
ended : replies usual [] (
    (0, make 1) ∷ (0, Use (Of (handle 0 0 1))) ∷ (0, End) ∷ (1, Pins (Of (handle 0 0 1))) ∷ (1, Use (Of (handle 0 0 1))) ∷ (0, Use Global) ∷ [])
    ≡ Made (handle 0 0 1) ∷ Was Global (Some (all_of 1)) ∷ Ended ∷ Pinned 0 ∷ Was Global (Some (all_of 1)) ∷ Was Global None ∷ []
ended = refl

-- ---- conditions of a call

-- each name of a New or a SetGlobal is on the shelf of five, also outside the mask; the handles of a call may be any
five_names : (a b c d e : ℕ) → a < 5 → b < 5 → c < 5 → d < 5 → e < 5 → AreOnShelf usual.opening (a ∷ b ∷ c ∷ d ∷ e ∷ [])
five_names a b c d e first second third fourth fifth =
    let below : ℕ → Type 0 = λ n. n < 5 in
    All-cons below a (b ∷ c ∷ d ∷ e ∷ []) first (All-cons below b (c ∷ d ∷ e ∷ []) second (All-cons below c (d ∷ e ∷ []) third (All-cons below d (e ∷ []) fourth (All-cons below e [] fifth (All-nil below)))))

fits_on_the_shelf : Fits usual (New 1 (0 ∷ 4 ∷ 3 ∷ 1 ∷ 2 ∷ []) (Some (Of (handle 9 9 9))))
fits_on_the_shelf = five_names 0 4 3 1 2 (lit< tt) (lit< tt) (lit< tt) (lit< tt) (lit< tt)

not_below : (n : ℕ) → n < n → ⊥
not_below n below = omega arith

fits_past_the_shelf : Fits usual (New 1 (0 ∷ 5 ∷ 0 ∷ 0 ∷ 0 ∷ []) None) → ⊥
fits_past_the_shelf fits = not_below 5 (fits 1 0 (lit< tt))

fits_set_past_the_shelf : Fits usual (SetGlobal 1 (0 ∷ 0 ∷ 0 ∷ 0 ∷ 5 ∷ [])) → ⊥
fits_set_past_the_shelf fits = not_below 5 (fits 4 0 (lit< tt))

fits_handle : Fits usual (Free (Of (handle 9 9 9)))
fits_handle = tt

-- the POSIX locale, which is number 0, is never installed
fits_install : Fits usual (Install 4 (record { object = all_of 6; available = 0 }))
fits_install = (omega arith, omega arith)

fits_install_posix : Fits usual (Install 0 (record { object = all_of 6; available = 31 })) → ⊥
fits_install_posix fits = let some = fits.0 in omega arith

fits_install_past : Fits usual (Install 5 (record { object = all_of 6; available = 31 })) → ⊥
fits_install_past fits = not_below 5 fits.1

-- two threads with eight cells each
fits_last_cell : Fits usual (Fetch 1 7)
fits_last_cell = (omega arith, omega arith)

fits_ninth_cell : Fits usual (Fetch 1 8) → ⊥
fits_ninth_cell fits = not_below 8 fits.1

fits_third_thread : Fits usual (Fetch 2 7) → ⊥
fits_third_thread fits = not_below 2 fits.0

fits_post : Fits usual (Post 7 Global)
fits_post = lit< tt

fits_post_ninth : Fits usual (Post 8 Global) → ⊥
fits_post_ninth fits = not_below 8 fits

-- two numbers that are not one
apart : (m n : ℕ) → (m == n) ≡ false → m ≡ n → ⊥
apart m n other same = eqb-false m n other same

-- an opening shelf begins with an offer of all five categories
opening_usual : IsOpening offers
opening_usual = refl

opening_none : IsOpening [] → ⊥
opening_none none = none

opening_without_messages : IsOpening (record { object = all_of 0; available = 15 } ∷ offers) → ⊥
opening_without_messages whole = apart 15 31 refl whole

-- ---- bases, and histories that say the same

base_of_new : has_base (New 31 (all 1) (Some (Of (handle 0 3 2)))) (handle 0 3 2) ≡ true
base_of_new = refl

base_of_another : has_base (New 31 (all 1) (Some (Of (handle 0 3 1)))) (handle 0 3 2) ≡ false
base_of_another = refl

base_global : has_base (New 31 (all 1) (Some Global)) (handle 0 3 2) ≡ false
base_global = refl

no_base : has_base (make 1) (handle 0 3 2) ≡ false
no_base = refl

copied_is_no_base : has_base (Dup (Of (handle 0 3 2))) (handle 0 3 2) ≡ false
copied_is_no_base = refl

-- the history after some calls on the usual table
abbrev after : List (ℕ × Op) → History
after calls = played usual [] calls

-- a refused call says nothing new
same_after_refusal : SaysTheSame usual (after ((0, make 1) ∷ (1, Free (Of (handle 0 5 1))) ∷ [])) (after ((0, make 1) ∷ []))
same_after_refusal = refused_changes_nothing usual _ _ refl

-- each of these accepted ones does: an Install, a New without a base and with one, a Free, a SetGlobal, a Use, an End of a
-- thread that selects something, a Hold and a Post
other_shelf : SaysTheSame usual (after ((0, Install 4 (record { object = all_of 6; available = 31 })) ∷ [])) (after []) → ⊥
other_shelf s = apart 31 0 refl (ap (λ (o : Offered). o.available) (s.shelf 4))

other_installs : SaysTheSame usual (after ((0, Install 4 (record { object = all_of 0; available = 0 })) ∷ [])) (after []) → ⊥
other_installs s = apart 1 0 refl s.installs

other_made : SaysTheSame usual (after ((0, make 1) ∷ [])) (after []) → ⊥
other_made s = true≢false (s.made (handle 0 0 1))

other_makes : SaysTheSame usual (after ((0, make 1) ∷ [])) (after []) → ⊥
other_makes s = apart 1 0 refl (s.makes 0 0)

other_free_row : SaysTheSame usual (after ((0, make 1) ∷ [])) (after []) → ⊥
other_free_row s = apart 1 0 refl (ap (λ o. unwrap_or o 9) (s.free_row 0))

other_live : SaysTheSame usual (after ((0, make 1) ∷ (0, Free (Of (handle 0 0 1))) ∷ [])) (after ((0, make 1) ∷ [])) → ⊥
other_live s = true≢false (sym (s.live (handle 0 0 1)))

other_object : SaysTheSame usual (after ((0, make 1) ∷ (0, New 2 (all 2) (Some (Of (handle 0 0 1)))) ∷ [])) (after ((0, make 1) ∷ [])) → ⊥
other_object s = apart 2 1 refl (ap (λ (o : Parts). o.numeric) (s.object (handle 0 0 1)))

other_global : SaysTheSame usual (after ((0, SetGlobal 8 (all 2)) ∷ [])) (after []) → ⊥
other_global s = apart 2 0 refl (ap (λ (o : Parts). o.time) s.global)

other_sets : SaysTheSame usual (after ((0, SetGlobal 0 (all 2)) ∷ [])) (after []) → ⊥
other_sets s = apart 1 0 refl s.sets

other_selection : SaysTheSame usual (after ((0, make 1) ∷ (1, Use (Of (handle 0 0 1))) ∷ [])) (after ((0, make 1) ∷ [])) → ⊥
other_selection s = true≢false (ap (λ n. names n (handle 0 0 1)) (s.selection 1))

other_own : SaysTheSame usual (after ((0, make 1) ∷ (1, Use (Of (handle 0 0 1))) ∷ (1, End) ∷ [])) (after ((0, make 1) ∷ (1, Use (Of (handle 0 0 1))) ∷ [])) → ⊥
other_own s = true≢false (sym (ap is_some (s.own 1)))

other_holding : SaysTheSame usual (after ((0, make 1) ∷ (1, Hold (Of (handle 0 0 1))) ∷ [])) (after ((0, make 1) ∷ [])) → ⊥
other_holding s = true≢false (s.holding 1 (handle 0 0 1))

other_pins : SaysTheSame usual (after ((0, make 1) ∷ (1, Hold (Of (handle 0 0 1))) ∷ [])) (after ((0, make 1) ∷ [])) → ⊥
other_pins s = apart 1 0 refl (s.pins (handle 0 0 1))

other_posted : SaysTheSame usual (after ((0, make 1) ∷ (0, Post 3 (Of (handle 0 0 1))) ∷ [])) (after ((0, make 1) ∷ [])) → ⊥
other_posted s = true≢false (ap is_some (s.posted 0 3))

-- what a thread has after its own call: what its Use took up, nothing after an End, and otherwise what it had
own_after_use : own_after (Was Global (Some (all_of 1))) None ≡ Some (all_of 1)
own_after_use = refl

own_after_global : own_after (Was (Of (handle 0 0 1)) None) (Some (all_of 1)) ≡ None
own_after_global = refl

own_after_end : own_after Ended (Some (all_of 1)) ≡ None
own_after_end = refl

own_after_hold : own_after (Held (all_of 2)) (Some (all_of 1)) ≡ Some (all_of 1)
own_after_hold = refl

own_after_refusal : own_after (Refused Stale) (Some (all_of 1)) ≡ Some (all_of 1)
own_after_refusal = refl
