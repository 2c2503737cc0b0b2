-- Threads that share handles only among themselves, and their part of a history. All here speaks of
-- histories alone, and of a list of threads as a set: order and repetition in it do not matter.
use Rattle.std.specs.Prelude.{◌≡◌, ℕ, Bool, true, false, ◌==◌, not, ◌&&◌, ◌||◌, if◌then◌else◌, List, [], ◌∷◌, map, Option, None, Some}
use Rattle.std.specs.List.{list_any}
use Rattle.lc_base.specs.declared.handle.Handle.{Handle}
use Rattle.handle_table.specs.Entry.{Op, New, Dup, Free, Use, Hold, Release, SetGlobal, Install, Post, Fetch, Pins, End, Reply, Entry, History, Setting}
use Rattle.handle_table.specs.Shelf.{shelf, installs}
use Rattle.handle_table.specs.History.{made, makes, live, sets, global, global_at, object, selection, holding, pins, free_row, handle_named, posted}
use Rattle.handle_table.specs.Answer.{own, answer, entry, IsLegal}

-- whether the thread is one of the list
abbrev pub has_thread : List ℕ → ℕ → Bool
has_thread S t = list_any (λ s. s == t) S

-- the handle that an op names, or none
abbrev pub named_by : Op → Option Handle
named_by (New mask numbers None) = None
named_by (New mask numbers (Some n)) = handle_named n
named_by (Dup n) = handle_named n
named_by (Free n) = handle_named n
named_by (Use n) = handle_named n
named_by (Hold n) = handle_named n
named_by (Release n) = handle_named n
named_by (SetGlobal mask numbers) = None
named_by (Install m offer) = None
named_by (Post k n) = handle_named n
named_by (Fetch owner k) = None
named_by (Pins n) = handle_named n
named_by End = None

-- the thread from whose cells an op fetches, or none
abbrev pub fetched_from : Op → Option ℕ
fetched_from (Fetch owner k) = Some owner
fetched_from _ = None

-- whether there is a handle, and one of the threads owns it
abbrev pub is_owned : List ℕ → Option Handle → Bool
is_owned S None = false
is_owned S (Some h) = has_thread S h.owner

-- whether there is no handle, or one of the threads owns it
abbrev pub is_own : List ℕ → Option Handle → Bool
is_own S None = true
is_own S (Some h) = has_thread S h.owner

-- whether nothing is fetched, or it is from the cells of one of the threads
abbrev pub is_own_cell : List ℕ → Option ℕ → Bool
is_own_cell S None = true
is_own_cell S (Some t) = has_thread S t

-- whether an entry keeps the threads apart from the others: one of theirs names only handles that they
-- own and fetches only from their cells, and one of another thread names no handle that they own
abbrev pub keeps_apart : List ℕ → Entry → Bool
keeps_apart S e =
    if has_thread S e.who then is_own S (named_by e.op) && is_own_cell S (fetched_from e.op) else not (is_owned S (named_by e.op))

-- the history is closed for the threads: each of its entries, also a refused one, keeps them apart
abbrev pub IsClosed : List ℕ → History → Type 0
IsClosed S [] = Unit {0}
IsClosed S (e ∷ H) = (keeps_apart S e ≡ true) × IsClosed S H

-- whether the op is seen by all threads: a SetGlobal or an Install
abbrev pub is_for_all : Op → Bool
is_for_all (SetGlobal mask numbers) = true
is_for_all (Install m offer) = true
is_for_all _ = false

-- whether an entry belongs to the part of the threads
abbrev pub is_in_part : List ℕ → Entry → Bool
is_in_part S e = has_thread S e.who || is_for_all e.op

-- the part of the threads: their entries, and all SetGlobal and Install entries, in order
abbrev pub part_of : List ℕ → History → History
part_of S [] = []
part_of S (e ∷ H) = if is_in_part S e then e ∷ part_of S H else part_of S H

-- who called, and what was asked, of each entry
abbrev pub calls_of : History → List (ℕ × Op)
calls_of H = map (λ e. (e.who, e.op)) H

-- what was replied, of each entry
abbrev pub replies_of : History → List Reply
replies_of H = map (λ e. e.reply) H

-- a history says of the threads what another says of them: of the handles that they own, of what each of
-- them selects, has taken up, holds, may take and has posted, and of what all threads see
pub record SaysOfThreads (c : Setting) (S : List ℕ) (G H : History) : Type 0 where
  pub made : (h : Handle) → has_thread S h.owner ≡ true → made G h ≡ made H h
  pub live : (h : Handle) → has_thread S h.owner ≡ true → live G h ≡ live H h
  pub object : (h : Handle) → has_thread S h.owner ≡ true → object c G h ≡ object c H h
  pub pins : (h : Handle) → has_thread S h.owner ≡ true → pins c G h ≡ pins c H h
  pub makes : (t r : ℕ) → has_thread S t ≡ true → makes G t r ≡ makes H t r
  pub free_row : (t : ℕ) → has_thread S t ≡ true → free_row c G t ≡ free_row c H t
  pub selection : (t : ℕ) → has_thread S t ≡ true → selection G t ≡ selection H t
  pub own : (t : ℕ) → has_thread S t ≡ true → own G t ≡ own H t
  pub holding : (t : ℕ) (h : Handle) → has_thread S t ≡ true → holding G t h ≡ holding H t h
  pub posted : (t k : ℕ) → has_thread S t ≡ true → posted G t k ≡ posted H t k
  pub shelf : (n : ℕ) → shelf c G n ≡ shelf c H n
  pub installs : installs G ≡ installs H
  pub sets : sets G ≡ sets H
  pub global : global c G ≡ global c H
  pub versions : (k : ℕ) → global_at c G k ≡ global_at c H k

-- ---- laws

-- the part of a legal history that is closed for the threads is legal, says of them what the whole says, and
-- answers each of their calls that keeps them apart as the whole does
abbrev pub PartIsLegal : Type 0
PartIsLegal = (c : Setting) (S : List ℕ) (H : History) → IsLegal c H → IsClosed S H → IsLegal c (part_of S H)

abbrev pub PartSaysTheSame : Type 0
PartSaysTheSame = (c : Setting) (S : List ℕ) (H : History) → IsLegal c H → IsClosed S H → SaysOfThreads c S (part_of S H) H

abbrev pub PartAnswersTheSame : Type 0
PartAnswersTheSame =
    (c : Setting) (S : List ℕ) (H : History) (t : ℕ) (op : Op) → IsLegal c H → has_thread S t ≡ true → IsClosed S (entry c H t op ∷ H)
    → answer c H t op ≡ answer c (part_of S H) t op

-- two worlds: where two legal histories are closed for the threads, and their parts have the same callers and ops in
-- order, these parts have the same replies
abbrev pub AreTwoWorldsAlike : Type 0
AreTwoWorldsAlike =
    (c : Setting) (S : List ℕ) (G H : History) → IsLegal c G → IsLegal c H → IsClosed S G → IsClosed S H
    → calls_of (part_of S G) ≡ calls_of (part_of S H) → replies_of (part_of S G) ≡ replies_of (part_of S H)
