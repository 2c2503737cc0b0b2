-- What a thread at the shared table is seen as, and what its calls say of it.
use Rattle.std.specs.Prelude.{◌≡◌, ℕ, ◌<◌, ◌==◌, if◌then◌else◌, [], ◌∷◌, ◌++◌, length, Option, Some, Bool, true, false}
use Rattle.atomic_table.specs.Seated.{TableId}
use Rattle.mask_compose.specs.Parts.{Parts}
use Rattle.turn_gate.specs.declared.entry.Terms.{Terms}
use Rattle.turn_gate.specs.Callers.{Gate, Caller}
use Rattle.handle_table.specs.declared.op.Op as ops
use Rattle.handle_table.specs.declared.op.Reply as replies
use Rattle.lc_base.specs.declared.handle.Handle.{Handle}
use Rattle.lc_base.specs.declared.handle.Named.{Named}
use Rattle.handle_table.specs.Entry.{Op, Use, End, Reply, Set, History, Setting, is_accepted}
use Rattle.handle_table.specs.History.{selection_after, selection, holding_after, holding}
use Rattle.handle_table.specs.Kept.{AreThreads}
use Rattle.handle_table.specs.Answer.{answer, own_after, own, IsLegal}
use Rattle.thread_current.specs.Seen.{entries_of}

-- a thread: at which table, by what was agreed, its number, the history that it has seen, its own calls in it, and the
-- version of the global locale that it read last
pub record Thread : Type 0 where
  pub table : TableId
  pub terms : Option (Terms Setting)
  pub number : ℕ
  pub seen : History
  pub calls : History
  pub cached : ℕ

-- what a thread with this seat is seen as
abbrev pub thread_of : {P : _} → ℕ → Caller Setting (ops.Op P) (replies.Reply P) → Thread
thread_of cached seat = record {
  table = seat.table;
  terms = seat.terms;
  number = seat.number;
  seen = entries_of seat.seen;
  calls = entries_of seat.own;
  cached = cached;
}

-- the thread is one of this table
abbrev pub IsThreadOf : Gate Setting → Thread → Type 0
IsThreadOf gate t = (t.table ≡ gate.table) × (t.terms ≡ Some gate.terms)

-- the thread before its first call
abbrev pub first_thread : Gate Setting → ℕ → Thread
first_thread gate n = record { table = gate.table; terms = Some gate.terms; number = n; seen = []; calls = []; cached = 0 }

-- what the thread has selected, as far as it has seen (XSH uselocale)
abbrev pub selected : Thread → Named
selected t = selection t.seen t.number

-- the object that the thread took up when it selected it; none for the global locale
abbrev pub own_object : Thread → Option Parts
own_object t = own t.seen t.number

-- whether the thread has an open Hold of the handle
abbrev pub holds : Thread → Handle → Bool
holds t h = holding t.seen t.number h

-- the later history goes on from the earlier one, or is the same
abbrev pub GoesOnFrom : History → History → Type 0
GoesOnFrom later earlier = (more : History) × (later ≡ more ++ earlier)

-- the calls of one thread, in their order
abbrev pub entries_by : ℕ → History → History
entries_by who [] = []
entries_by who (e ∷ H) = if e.who == who then e ∷ entries_by who H else entries_by who H

-- all entries but the newest
abbrev pub without_newest : History → History
without_newest [] = []
without_newest (e ∷ H) = H

-- what stood before the newest call that the thread has seen
abbrev pub before : Thread → History
before t = without_newest t.seen

-- the same thread
pub record IsSameThread (old new : Thread) : Type 0 where
  pub table : new.table ≡ old.table
  pub terms : new.terms ≡ old.terms
  pub number : new.number ≡ old.number

-- The thread made one call. Its entry is the newest that the thread has seen, and the newest of its own calls; what stood
-- before it goes on from what the thread had seen. The place is the number of entries before it, and the reply is the
-- answer to it there
pub record Answered (gate : Gate Setting) (old new : Thread) (op : Op) (place : ℕ) (reply : Reply) : Type 0 where
  pub same : IsSameThread old new
  pub later : GoesOnFrom (before new) old.seen
  pub place_is : place ≡ length (before new)
  pub reply_is : reply ≡ answer gate.terms.setting (before new) old.number op
  pub seen : new.seen ≡ record { who = old.number; op = op; reply = reply } ∷ before new
  pub calls : new.calls ≡ record { who = old.number; op = op; reply = reply } ∷ old.calls

-- what the thread says after its call, by what it said before
pub record After (old new : Thread) (op : Op) (reply : Reply) : Type 0 where
  pub selection : selected new ≡ (if is_accepted reply then selection_after op (selected old) else selected old)
  pub own : own_object new ≡ own_after reply (own_object old)
  pub holds : (h : Handle) → holds new h ≡ (if is_accepted reply then holding_after op h (holds old h) else holds old h)

-- the version of the global locale that the thread read last, after its call: an accepted SetGlobal gives the one it made
abbrev pub cached_after : Reply → ℕ → ℕ
cached_after (Set version object) before = version
cached_after _ before = before

-- What a call leaves of its thread, by its op and its reply: what the thread says then, and the version of the global
-- locale that it read last. A refused call leaves all as it was
pub record Leaves (old new : Thread) (op : Op) (reply : Reply) : Type 0 where
  pub after : After old new op reply
  pub cached : new.cached ≡ cached_after reply old.cached

-- the thread has seen more, or as much, and made no call
pub record SawMore (old new : Thread) : Type 0 where
  pub same : IsSameThread old new
  pub later : GoesOnFrom new.seen old.seen
  pub calls : new.calls ≡ old.calls

-- the thread selects what it did, and keeps its own object
pub record KeepsSelection (old new : Thread) : Type 0 where
  pub selection : selected new ≡ selected old
  pub own : own_object new ≡ own_object old

-- the thread has the same open Holds
abbrev pub KeepsHolds : Thread → Thread → Type 0
KeepsHolds old new = (h : Handle) → holds new h ≡ holds old h

-- the thread keeps its selection, its own object, its Holds and the version that it read last
pub record Keeps (old new : Thread) : Type 0 where
  pub selection : KeepsSelection old new
  pub holds : KeepsHolds old new
  pub cached : new.cached ≡ old.cached

-- what a thread has seen is a legal history of the table's threads, and in it the calls of its number are its own
pub record IsInOrder (terms : Terms Setting) (t : Thread) : Type 0 where
  pub legal : IsLegal terms.setting t.seen
  pub callers : AreThreads terms.seats t.seen
  pub calls : entries_by t.number t.seen ≡ t.calls
  pub in_reach : t.number < terms.seats

-- whether the op changes what a thread selects, once it is accepted
abbrev pub takes_up : Op → Bool
takes_up (Use n) = true
takes_up End = true
takes_up _ = false

-- the seat has seen a beginning of the history, and its calls are all that the history has of its number
abbrev pub IsPart : {P : _} → History → Caller Setting (ops.Op P) (replies.Reply P) → Type 0
IsPart H seat = GoesOnFrom H (entries_of seat.seen) × (entries_by seat.number H ≡ entries_of seat.own)
