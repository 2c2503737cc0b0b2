-- A thread at a table and at catalogs that threads share.
use Rattle.std.specs.Prelude.{◌≡◌, ℕ, ◌+◌, ◌≤◌, Bool, true, false, List, [], ◌∷◌, map, length}
use Rattle.std.specs.List.{list_any}
use Rattle.turn_gate.specs.Callers.{Gate}
use Rattle.lc_base.specs.declared.handle.Handle.{Handle}
use Rattle.lc_base.specs.declared.handle.Named.{Named}
use Rattle.lc_base.specs.declared.handle.Named.TheVariants.{Of}
use Rattle.handle_table.specs.Entry.{Op, New, Dup, Free, Use, Hold, Release, SetGlobal, Install, Post, Fetch, Pins, End, Reply, History, Setting, names}
use Rattle.handle_table.specs.Answer.{IsLegal}
use Rattle.handle_table.specs.Table.{Fits}
use Rattle.thread_current.specs.Mine.{HeldData}
use Rattle.thread_current.specs.Thread.{IsThreadOf, IsInOrder, GoesOnFrom, entries_by, Answered}
use Rattle.catalog_handles.specs.declared.setting.CatalogSetting.{CatalogSetting}
use Rattle.catalog_handles.specs.Entry.{History as CatalogHistory}
use Rattle.catalog_handles.specs.Answer as catalog_answers
use Rattle.catalog_handles.specs.Reader as readers
use Rattle.script_lines.specs.Catalogs.{catalog_setting}
use Rattle.script_wishes.specs.declared.holds.OpenHold.{OpenHold}
use Rattle.script_seats.specs.declared.seated.Seated.{Seated}
use Rattle.script_wishes.specs.Holds.{open_holds, is_of, without}

-- ---- what a thread keeps

-- an open Hold as a shared table hands it out
abbrev pub held_data : OpenHold → HeldData
held_data o = record { handle = o.handle; object = o.object }

abbrev pub handed_out : List OpenHold → List HeldData
handed_out holds = map held_data holds

-- the history is the one that the thread has seen, and its Holds are those that this history says are open
pub record KnowsSeated (s : Seated) (H : History) : Type 0 where
  pub seen : s.mine.seen ≡ H
  pub number : s.mine.number ≡ s.number
  pub holds : s.holds.items ≡ handed_out (open_holds H s.number)

-- the thread is one of the table, what it has seen is this history, and what it knows is right
pub record IsSeatedAt (gate : Gate Setting) (s : Seated) (H : History) : Type 0 where
  pub thread : IsThreadOf gate s.mine
  pub in_order : IsInOrder gate.terms s.mine
  pub knows : KnowsSeated s H

-- a table that nobody shares, where none is chosen
abbrev pub some_gate : Gate Setting
some_gate = record {
  table = record { words = 0; slots = 0; views_name = 0; atom = 0; block = 0; offset = 0; slot_names = [] };
  terms = record { setting = record { threads = 0; rows = 0; generations = 0; opening = [] }; seats = 0; quota = 0 };
}

-- the table and the catalogs that threads share
pub record Gates : Type 0 where
  pub locales : Gate Setting
  pub catalogs : Gate CatalogSetting

abbrev pub gates : Gate Setting → Gate CatalogSetting → Gates
gates locales catalogs = record { locales = locales; catalogs = catalogs }

-- catalogs that nobody shares, where none are chosen
abbrev pub some_catalogs : Gate CatalogSetting
some_catalogs = record {
  table = record { words = 0; slots = 0; views_name = 0; atom = 0; block = 0; offset = 0; slot_names = [] };
  terms = record { setting = record { threads = 0; rows = 0; generations = 0 }; seats = 0; quota = 0 };
}

-- the thread is one of the catalogs, and has seen this history of theirs
pub record IsAskingAt (gate : Gate CatalogSetting) (s : Seated) (M : CatalogHistory) : Type 0 where
  pub thread : readers.IsReaderOf gate s.reader
  pub in_order : readers.IsInOrder gate.terms s.reader
  pub seen : s.reader.seen ≡ M
  pub number : s.reader.number ≡ s.number

-- ---- the thread's calls

-- the first history may be what stands before the next call of the thread that has seen the second one: it goes on from that one,
-- by calls of other threads alone, and it is legal
pub record MayFollow (c : Setting) (thread : ℕ) (G H : History) : Type 0 where
  pub later : GoesOnFrom G H
  pub legal : IsLegal c G
  pub others : entries_by thread G ≡ entries_by thread H

-- the same of the catalogs
pub record MayFollowAsked (c : Setting) (thread : ℕ) (G M : CatalogHistory) : Type 0 where
  pub later : readers.GoesOnFrom G M
  pub legal : catalog_answers.IsLegal (catalog_setting c) G
  pub others : readers.entries_by thread G ≡ readers.entries_by thread M

-- the thread knows what it has seen, and may make so many calls more
pub record HasCalls (n : ℕ) (gate : Gate Setting) (s : Seated) : Type 0 where
  pub seated : IsSeatedAt gate s s.mine.seen
  pub quota : length s.mine.calls + n ≤ gate.terms.quota

-- the same of the catalogs
pub record HasAsks (n : ℕ) (gate : Gate CatalogSetting) (s : Seated) : Type 0 where
  pub seated : IsAskingAt gate s s.reader.seen
  pub quota : length s.reader.calls + n ≤ gate.terms.quota

-- the same of both, where the catalogs are of as many threads with as many rows as the table
pub record CanCall (n : ℕ) (g : Gates) (s : Seated) : Type 0 where
  pub calls : HasCalls n g.locales s
  pub asks : HasAsks n g.catalogs s
  pub agree : g.catalogs.terms.setting ≡ catalog_setting g.locales.terms.setting

-- an op that does not end its thread
abbrev pub IsNoEnd : Op → Type 0
IsNoEnd End = ⊥
IsNoEnd (New mask numbers base) = Unit {0}
IsNoEnd (Dup n) = Unit {0}
IsNoEnd (Free n) = Unit {0}
IsNoEnd (Use n) = Unit {0}
IsNoEnd (Hold n) = Unit {0}
IsNoEnd (Release n) = Unit {0}
IsNoEnd (SetGlobal mask numbers) = Unit {0}
IsNoEnd (Install m offer) = Unit {0}
IsNoEnd (Post k n) = Unit {0}
IsNoEnd (Fetch owner k) = Unit {0}
IsNoEnd (Pins n) = Unit {0}

-- the op is one of the table's, and does not end its thread: a thread ends by giving up its side
abbrev pub MayCall : Setting → Op → Type 0
MayCall c op = Fits c op × IsNoEnd op

-- an op that neither begins nor gives up a Hold, nor ends its thread
abbrev pub LeavesHolds : Op → Type 0
LeavesHolds (New mask numbers base) = Unit {0}
LeavesHolds (Dup n) = Unit {0}
LeavesHolds (Free n) = Unit {0}
LeavesHolds (Use n) = Unit {0}
LeavesHolds (SetGlobal mask numbers) = Unit {0}
LeavesHolds (Install m offer) = Unit {0}
LeavesHolds (Post k n) = Unit {0}
LeavesHolds (Fetch owner k) = Unit {0}
LeavesHolds (Pins n) = Unit {0}
LeavesHolds (Hold n) = ⊥
LeavesHolds (Release n) = ⊥
LeavesHolds End = ⊥

-- What a call leaves of a thread: its one entry, as the shared table says, and what it knows is right for what it has seen then
pub record AnswersSeated (gate : Gate Setting) (old new : Seated) (op : Op) (place : ℕ) (reply : Reply) : Type 0 where
  pub answered : Answered gate old.mine new.mine op place reply
  pub number : new.number ≡ old.number
  pub seated : IsSeatedAt gate new new.mine.seen

-- ---- the list of open Holds

-- no two Holds are of one handle
abbrev pub AreApart : List OpenHold → Type 0
AreApart [] = Unit {0}
AreApart (o ∷ os) = (list_any (is_of o.handle) os ≡ false) × AreApart os

-- whether a Hold is of what is named
abbrev pub is_held : Named → HeldData → Bool
is_held n h = names n h.handle

-- the first Hold is of this handle
abbrev pub IsFirst : Handle → List HeldData → Type 0
IsFirst h [] = ⊥
IsFirst h (held ∷ holds) = h ≡ held.handle

-- the open Hold of what is named was taken out of these
pub record IsTaken (n : Named) (old new : List HeldData) (taken : HeldData) : Type 0 where
  pub handle : n ≡ Of taken.handle
  pub there : (holds : List OpenHold) → old ≡ handed_out holds → list_any (is_of taken.handle) holds ≡ true
  pub rest : (holds : List OpenHold) → AreApart holds → old ≡ handed_out holds → new ≡ handed_out (without holds n)

-- there is no open Hold of what is named
abbrev pub IsUnheld : Named → List HeldData → Type 0
IsUnheld n old = (holds : List OpenHold) (h : Handle) → old ≡ handed_out holds → n ≡ Of h → list_any (is_of h) holds ≡ false
