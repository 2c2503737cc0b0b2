-- What a thread at shared catalogs is seen as, and what its calls say of it (our own).
use Rattle.std.specs.Prelude.{◌≡◌, ℕ, ◌<◌, max, ◌==◌, if◌then◌else◌, [], ◌∷◌, ◌++◌, length, Option, Some}
use Rattle.atomic_table.specs.Seated.{TableId}
use Rattle.turn_gate.specs.declared.entry.Terms.{Terms}
use Rattle.turn_gate.specs.Callers.{Gate, Caller}
use Rattle.catalog_handles.specs.declared.setting.CatalogSetting.{CatalogSetting}
use Rattle.catalog_handles.specs.declared.stamped.StampedOp.{StampedOp}
use Rattle.catalog_handles.specs.declared.stamped.StampedReply.{StampedReply}
use Rattle.catalog_handles.specs.Entry.{Op, Reply, History}
use Rattle.catalog_handles.specs.Answer.{answer, IsLegal, AreThreads}
use Rattle.catalog_handles.specs.Stamps.{last_stamp, IsRising}
use Rattle.catalog_handles.specs.Seen.{entries_of}

-- a thread: at which catalogs, by what was agreed, its number, the history that it has seen, and its own calls in it
pub record ReaderData : Type 0 where
  pub table : TableId
  pub terms : Option (Terms CatalogSetting)
  pub number : ℕ
  pub seen : History
  pub calls : History

-- what a thread with this seat is seen as
abbrev pub reader_of : {B : Type 0} → (B → ℕ) → Caller CatalogSetting (StampedOp B) (StampedReply B) → ReaderData
reader_of number seat = record {
  table = seat.table;
  terms = seat.terms;
  number = seat.number;
  seen = entries_of number seat.seen;
  calls = entries_of number seat.own;
}

-- the thread is one of these catalogs
abbrev pub IsReaderOf : Gate CatalogSetting → ReaderData → Type 0
IsReaderOf gate r = (r.table ≡ gate.table) × (r.terms ≡ Some gate.terms)

-- the thread before its first call
abbrev pub first_reader : Gate CatalogSetting → ℕ → ReaderData
first_reader gate n = record { table = gate.table; terms = Some gate.terms; number = n; seen = []; calls = [] }

-- the later history goes on from the earlier one, or is the same
abbrev pub GoesOnFrom : History → History → Type 0
GoesOnFrom later earlier = (more : History) × (later ≡ more ++ earlier)

-- the calls of one thread, in their order
abbrev pub entries_by : ℕ → History → History
entries_by who [] = []
entries_by who (e ∷ H) = if e.who == who then e ∷ entries_by who H else entries_by who H

-- the same thread
pub record IsSameReader (old new : ReaderData) : Type 0 where
  pub table : new.table ≡ old.table
  pub terms : new.terms ≡ old.terms
  pub number : new.number ≡ old.number

-- The thread made one call, and gave a number with it. Its entry is the newest that the thread has seen, and the newest of its own
-- calls. What stood before it goes on from what the thread had seen, by calls of others alone; it is a legal history; the place is
-- the number of its entries, the reply is the answer to the call there, and the stamp is the larger one of the given number and the
-- stamp before it
pub record Answered (gate : Gate CatalogSetting) (old new : ReaderData) (op : Op) (least place stamp : ℕ) (reply : Reply) : Type 0 where
  pub same : IsSameReader old new
  pub before : History
  pub later : GoesOnFrom before old.seen
  pub legal : IsLegal gate.terms.setting before
  pub others : entries_by old.number before ≡ old.calls
  pub place_is : place ≡ length before
  pub reply_is : reply ≡ answer gate.terms.setting before old.number op
  pub stamp_is : stamp ≡ max (last_stamp before) least
  pub seen : new.seen ≡ record { who = old.number; op = op; reply = reply; stamp = stamp } ∷ before
  pub calls : new.calls ≡ record { who = old.number; op = op; reply = reply; stamp = stamp } ∷ old.calls

-- the thread has seen more, or as much, and made no call
pub record SawMore (old new : ReaderData) : Type 0 where
  pub same : IsSameReader old new
  pub later : GoesOnFrom new.seen old.seen
  pub calls : new.calls ≡ old.calls

-- what a thread has seen is a legal history of the threads, whose stamps never fall, and in it the calls of its number are its own
pub record IsInOrder (terms : Terms CatalogSetting) (r : ReaderData) : Type 0 where
  pub legal : IsLegal terms.setting r.seen
  pub rising : IsRising r.seen
  pub callers : AreThreads terms.seats r.seen
  pub calls : entries_by r.number r.seen ≡ r.calls
  pub in_reach : r.number < terms.seats

-- the same, by what was agreed with it
abbrev pub IsOrderly : ReaderData → Type 0
IsOrderly r = (terms : Terms CatalogSetting) → r.terms ≡ Some terms → IsInOrder terms r

-- a seat that has made no call
pub record IsUnused {B : Type 0} (seat : Caller CatalogSetting (StampedOp B) (StampedReply B)) : Type 0 where
  pub unseen : seat.seen ≡ []
  pub no_calls : seat.own ≡ []
  pub in_reach : (terms : Terms CatalogSetting) → seat.terms ≡ Some terms → seat.number < terms.seats
