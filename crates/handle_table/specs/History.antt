-- What a history says. Each is a search from the newest entry to the oldest; no entry's effect is stored.
-- How an answer changes when an entry is added is the second equation of its search. An op that a search
-- does not name leaves what it searches for as it was.
use Rattle.std.specs.Prelude.{ℕ, zero, suc, Bool, false, ◌==◌, nat_lt, nat_le, not, ◌&&◌, ◌||◌, if◌then◌else◌, List, [], ◌∷◌, ◌++◌, length, map, Option, None, Some}
use Rattle.generations.specs.Making.{Making}
use Rattle.generations.specs.Making as generations
use Rattle.generations.specs.Store.{Store}
use Rattle.generations.specs.Store as stores
use Rattle.mask_compose.specs.Parts.{Parts, composed}
use Rattle.lc_base.specs.declared.handle.Handle.{Handle}
use Rattle.lc_base.specs.declared.handle.Named.{Named}
use Rattle.lc_base.specs.declared.handle.Named.TheVariants.{Global, Of}
use Rattle.handle_table.specs.Numbers.{object_handles}
use Rattle.handle_table.specs.Entry.{Op, New, Dup, Free, Use, Hold, Release, SetGlobal, Install, Post, Fetch, Pins, End, Reply, Made, Entry, History, Setting, names, is_accepted}
use Rattle.handle_table.specs.Shelf.{posix, from_shelf}

-- the handle in a reply
abbrev pub handle_in : Reply → Option Handle
handle_in (Made h) = Some h
handle_in _ = None

-- the handle that an op made, by its reply: a New without a base or a Dup makes one, and no other op does
abbrev pub handle_made : Op → Reply → Option Handle
handle_made (New mask numbers None) reply = handle_in reply
handle_made (New mask numbers (Some n)) reply = None
handle_made (Dup n) reply = handle_in reply
handle_made _ reply = None

-- what an entry made
abbrev pub making : Entry → Making Handle
making e = record { who = e.who; handle = handle_made e.op e.reply }

-- what was made in a history
abbrev pub makings : History → List (Making Handle)
makings H = map making H

-- whether the entry made the handle
abbrev pub makes_handle : Entry → Handle → Bool
makes_handle e h = generations.is_handle object_handles (handle_made e.op e.reply) h

-- whether an entry made the handle
abbrev pub made : History → Handle → Bool
made H h = generations.made object_handles (makings H) h

-- whether the op, once accepted, frees the handle
abbrev pub op_frees : Op → Handle → Bool
op_frees (Free n) h = names n h
op_frees _ h = false

-- whether the entry freed the handle
abbrev pub frees_handle : Entry → Handle → Bool
frees_handle e h = is_accepted e.reply && op_frees e.op h

-- a handle is live where it was made and nothing later freed it
abbrev pub live : History → Handle → Bool
live [] h = false
live (e ∷ H) h = not (frees_handle e h) && (makes_handle e h || live H h)

-- the handles that were made for a thread in a row, the newest first
abbrev pub handles : History → ℕ → ℕ → List Handle
handles H t r = generations.handles object_handles (makings H) t r

-- how many handles were made for a thread in a row
abbrev pub makes : History → ℕ → ℕ → ℕ
makes H t r = generations.makes object_handles (makings H) t r

-- the number of changes of the global locale after an accepted op
abbrev pub sets_after : Op → ℕ → ℕ
sets_after (SetGlobal mask numbers) before = suc before
sets_after _ before = before

-- the version of the global locale: the number of accepted SetGlobals
abbrev pub sets : History → ℕ
sets [] = 0
sets (e ∷ H) = if is_accepted e.reply then sets_after e.op (sets H) else sets H

-- the global object after an accepted op, with the shelf as it stood before the op
abbrev pub global_after : Setting → History → Op → Parts → Parts
global_after c H (SetGlobal mask numbers) before = composed mask (from_shelf c H mask numbers) before
global_after c H _ before = before

-- the global object: the POSIX locale's, and each accepted SetGlobal composes what it takes from the
-- shelf with the object before
abbrev pub global : Setting → History → Parts
global c [] = posix c
global c (e ∷ H) = if is_accepted e.reply then global_after c H e.op (global c H) else global c H

-- the global object of a version: the one after that many accepted SetGlobals
abbrev pub global_at : Setting → History → ℕ → Parts
global_at c [] k = posix c
global_at c (e ∷ H) k = if nat_le k (sets H) then global_at c H k else global c (e ∷ H)

-- the object of a name, by the objects of handles and the global one
abbrev pub object_named : (Handle → Parts) → Parts → Named → Parts
object_named objects all Global = all
object_named objects all (Of h) = objects h

-- the object of a handle after an op that answered with it, by the objects and the shelf before: a New
-- composes what it takes from the shelf with the object of its base, which is the handle, or with the
-- POSIX locale's where it has no base; a Dup copies what it names; no other op gives a handle an object
abbrev pub object_after : Setting → History → (Handle → Parts) → Op → Handle → Parts
object_after c H objects (New mask numbers None) h = composed mask (from_shelf c H mask numbers) (posix c)
object_after c H objects (New mask numbers (Some n)) h = composed mask (from_shelf c H mask numbers) (objects h)
object_after c H objects (Dup n) h = object_named objects (global c H) n
object_after c H objects (Free n) h = objects h
object_after c H objects (Use n) h = objects h
object_after c H objects (Hold n) h = objects h
object_after c H objects (Release n) h = objects h
object_after c H objects (SetGlobal mask numbers) h = objects h
object_after c H objects (Install m offer) h = objects h
object_after c H objects (Post k n) h = objects h
object_after c H objects (Fetch owner k) h = objects h
object_after c H objects (Pins n) h = objects h
object_after c H objects End h = objects h

-- whether the reply is the handle
abbrev pub replies_with : Reply → Handle → Bool
replies_with reply h = generations.is_handle object_handles (handle_in reply) h

-- the object of a handle: what the last accepted New or Dup that answered with it gave it
abbrev pub object : Setting → History → Handle → Parts
object c [] h = posix c
object c (e ∷ H) h = if replies_with e.reply h then object_after c H (object c H) e.op h else object c H h

-- what a thread has selected after its accepted op
abbrev pub selection_after : Op → Named → Named
selection_after (Use n) before = n
selection_after End before = Global
selection_after _ before = before

-- what the thread has selected: the target of its last accepted Use since its last End, else Global
abbrev pub selection : History → ℕ → Named
selection [] t = Global
selection (e ∷ H) t = if e.who == t && is_accepted e.reply then selection_after e.op (selection H t) else selection H t

-- whether a thread holds the handle after its accepted op
abbrev pub holding_after : Op → Handle → Bool → Bool
holding_after (Hold n) h before = names n h || before
holding_after (Release n) h before = not (names n h) && before
holding_after End h before = false
holding_after _ h before = before

-- whether the thread has an open Hold of the handle: neither a Release of it nor an End came after
abbrev pub holding : History → ℕ → Handle → Bool
holding [] t h = false
holding (e ∷ H) t h = if e.who == t && is_accepted e.reply then holding_after e.op h (holding H t h) else holding H t h

-- how a thread can hold on to a handle
pub data Manner : Type 0 where
  Selects : Manner
  Holds : Manner

-- the ways in which a thread holds on to the handle
abbrev pub holders_of : History → Handle → ℕ → List (ℕ × Manner)
holders_of H h t = (if names (selection H t) h then (t, Selects) ∷ [] else []) ++ (if holding H t h then (t, Holds) ∷ [] else [])

-- those of the threads below a number
abbrev pub holders_below : History → Handle → ℕ → List (ℕ × Manner)
holders_below H h zero = []
holders_below H h (suc t) = holders_below H h t ++ holders_of H h t

-- who holds on to the handle, and how
abbrev pub holders : Setting → History → Handle → List (ℕ × Manner)
holders c H h = holders_below H h c.threads

-- the pins of a handle: the number of its holders
abbrev pub pins : Setting → History → Handle → ℕ
pins c H h = length (holders c H h)

-- whether the handle is live or has pins
abbrev pub is_kept : Setting → History → Handle → Bool
is_kept c H h = live H h || nat_lt 0 (pins c H h)

-- the rows of the setting: a handle is kept while it is live or has pins
abbrev pub objects : Setting → Store Handle Entry
objects c = record { kind = object_handles; making = making; is_kept = is_kept c; rows = c.rows; generations = c.generations }

-- a row of a thread is free where none of its handles is live or has pins, and it has generations left
abbrev pub is_free : Setting → History → ℕ → ℕ → Bool
is_free c H t r = stores.is_free (objects c) H t r

-- the least free row of a thread, or none
abbrev pub free_row : Setting → History → ℕ → Option ℕ
free_row c H t = stores.free_row (objects c) H t

-- the handle of a name that is not global
abbrev pub handle_named : Named → Option Handle
handle_named Global = None
handle_named (Of h) = Some h

-- what stands in a thread's cell k after its accepted op
abbrev pub posted_after : Op → ℕ → Option Handle → Option Handle
posted_after (Post j n) k before = if j == k then handle_named n else before
posted_after _ k before = before

-- the handle of the thread's last accepted Post to its cell k, or none
abbrev pub posted : History → ℕ → ℕ → Option Handle
posted [] t k = None
posted (e ∷ H) t k = if e.who == t && is_accepted e.reply then posted_after e.op k (posted H t k) else posted H t k
