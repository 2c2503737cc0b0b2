-- What a thread keeps beside its seat.
use Rattle.std.specs.Prelude.{◌≡◌, ◌↔◌, ◌<◌, ◌≤◌, [], Option, Some, None}
use Rattle.mask_compose.specs.Parts.{Parts}
use Rattle.turn_gate.specs.declared.entry.Terms.{Terms}
use Rattle.turn_gate.specs.Callers.{Caller}
use Rattle.handle_table.specs.declared.op.Op as ops
use Rattle.handle_table.specs.declared.op.Reply as replies
use Rattle.lc_base.specs.declared.handle.Handle.{Handle}
use Rattle.lc_base.specs.declared.handle.Named.{Named}
use Rattle.lc_base.specs.declared.handle.Named.TheVariants.{Global}
use Rattle.handle_table.specs.Entry.{Setting}
use Rattle.handle_table.specs.History.{sets, global_at}
use Rattle.thread_current.specs.Thread.{Thread, selected, own_object, IsInOrder}

-- an open Hold: the handle, and its object as it was at the Hold
pub record HeldData : Type 0 where
  pub handle : Handle
  pub object : Parts

-- the selection and the object that was taken up with it are as the thread has seen, and so is the global object that it
-- read last
pub record IsMine (t : Thread) (named : Named) (own : Option Parts) (object : Parts) : Type 0 where
  pub in_order : (terms : Terms Setting) → t.terms ≡ Some terms → IsInOrder terms t
  pub named_is : named ≡ selected t
  pub own_is : own ≡ own_object t
  pub both : (own ≡ None) ↔ (named ≡ Global)
  pub version : t.cached ≤ sets t.seen
  pub object_is : (terms : Terms Setting) → t.terms ≡ Some terms → object ≡ global_at terms.setting t.seen t.cached

-- a seat that has made no call, at a table with this POSIX object
pub record IsUnused {P : Type 0} (posix : Parts) (seat : Caller Setting (ops.Op P) (replies.Reply P)) : Type 0 where
  pub unseen : seat.seen ≡ []
  pub no_calls : seat.own ≡ []
  pub in_reach : (terms : Terms Setting) → seat.terms ≡ Some terms → seat.number < terms.seats
  pub object_is : (terms : Terms Setting) → seat.terms ≡ Some terms → posix ≡ global_at terms.setting [] 0
