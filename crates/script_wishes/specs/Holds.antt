-- The open Holds of a thread, with the objects that it took up by them (our own).
use Rattle.std.specs.Prelude.{ℕ, Bool, ◌==◌, not, if◌then◌else◌, List, [], ◌∷◌, ◌++◌, filter, find, Option, Some, None, option_map}
use Rattle.mask_compose.specs.Parts.{Parts}
use Rattle.lc_base.specs.declared.handle.Handle.{Handle}
use Rattle.lc_base.specs.declared.handle.Named.{Named}
use Rattle.lc_base.specs.declared.handle.Named.TheVariants.{Global, Of}
use Rattle.script_wishes.specs.declared.holds.OpenHold.{OpenHold}
use Rattle.script_wishes.specs.declared.holds.HoldChange.{HoldChange}
use Rattle.script_wishes.specs.declared.holds.HoldChange.TheVariants as changes
use Rattle.handle_table.specs.Entry.{Op, New, Dup, Free, Use, Hold, Release, SetGlobal, Install, Post, Fetch, Pins, End, Reply, Made, Freed, Was, Held, Released, Set, Installed, Posted, Got, Pinned, Ended, Refused, History, names, same_handle, is_accepted}

-- the object that a reply hands over to hold
abbrev pub object_held : Reply → Option Parts
object_held (Made h) = None
object_held Freed = None
object_held (Was former now) = None
object_held (Held object) = Some object
object_held Released = None
object_held (Set version object) = None
object_held (Installed count) = None
object_held Posted = None
object_held (Got h) = None
object_held (Pinned count) = None
object_held Ended = None
object_held (Refused refusal) = None

-- one more Hold, behind the others
abbrev pub with_hold : List OpenHold → Named → Option Parts → List OpenHold
with_hold before Global object = before
with_hold before (Of h) None = before
with_hold before (Of h) (Some object) = before ++ record { handle = h; object = object } ∷ []

-- the Holds that are not of what is named
abbrev pub without : List OpenHold → Named → List OpenHold
without before n = filter (λ (o : OpenHold). not (names n o.handle)) before

-- what an accepted op does to the open Holds of its thread
abbrev pub hold_change : Op → HoldChange
hold_change (New mask numbers base) = changes.Keep
hold_change (Dup n) = changes.Keep
hold_change (Free n) = changes.Keep
hold_change (Use n) = changes.Keep
hold_change (Hold n) = changes.Open n
hold_change (Release n) = changes.Close n
hold_change (SetGlobal mask numbers) = changes.Keep
hold_change (Install m offer) = changes.Keep
hold_change (Post k n) = changes.Keep
hold_change (Fetch owner k) = changes.Keep
hold_change (Pins n) = changes.Keep
hold_change End = changes.CloseAll

-- the Holds after a change, where the reply hands over this object
abbrev pub changed : List OpenHold → Option Parts → HoldChange → List OpenHold
changed before object changes.Keep = before
changed before object (changes.Open n) = with_hold before n object
changed before object (changes.Close n) = without before n
changed before object changes.CloseAll = []

-- the Holds after an op with its reply: a refused one changes nothing
abbrev pub holds_after : List OpenHold → Op → Reply → List OpenHold
holds_after before op reply = if is_accepted reply then changed before (object_held reply) (hold_change op) else before

-- the open Holds of a thread, in the order made: those without a Release and an End after them
abbrev pub open_holds : History → ℕ → List OpenHold
open_holds [] t = []
open_holds (e ∷ H) t = if e.who == t then holds_after (open_holds H t) e.op e.reply else open_holds H t

-- whether a Hold is of a handle
abbrev pub is_of : Handle → OpenHold → Bool
is_of h o = same_handle o.handle h

-- the object of the open Hold of what is named; none where there is no such Hold
abbrev pub held_as : List OpenHold → Named → Option Parts
held_as holds Global = None
held_as holds (Of h) = option_map (λ (o : OpenHold). o.object) (find (is_of h) holds)
