-- What a call leaves of a thread at a shared table.
use Rattle.std.proofs.Common.{◌≡◌, ℕ, ◌+◌, ◌≤◌, Bool, true, false, cond, List, [], ◌∷◌, ◌++◌, length, Option, Some, Result, Ok, Err, refl, sym, ap, ◌∙◌, subst, arith, eq-eqb}
use Rattle.std.specs.Prelude.{find, option_map, IfOk, OnOk}
use Rattle.std.specs.List.{list_any}
use Rattle.turn_gate.specs.Callers.{Gate}
use Rattle.mask_compose.specs.Parts.{Parts}
use Rattle.lc_base.specs.declared.handle.Handle.{Handle}
use Rattle.lc_base.specs.declared.handle.Named.{Named}
use Rattle.lc_base.specs.declared.handle.Named.TheVariants.{Of}
use Rattle.handle_table.specs.declared.op.Refusal.{Refusal}
use Rattle.handle_table.specs.Entry.{Op, New, Dup, Free, Use, Hold, Release, SetGlobal, Install, Post, Fetch, Pins, End, Reply, Held, Released, Refused, Entry, History, Setting, is_accepted}
use Rattle.handle_table.specs.History.{sets, global, global_at}
use Rattle.handle_table.specs.Answer.{answer, IsLegal}
use Rattle.thread_current.specs.Mine.{HeldData}
use Rattle.thread_current.specs.Thread.{Thread, IsThreadOf, IsInOrder, entries_by, without_newest, before, Answered, SawMore, IsSameThread, holds}
use Rattle.script_wishes.specs.declared.holds.OpenHold.{OpenHold}
use Rattle.script_wishes.specs.declared.holds.HoldChange.TheVariants as changes
use Rattle.script_wishes.specs.Holds.{object_held, with_hold, hold_change, changed, holds_after, open_holds, is_of, held_as}
use Rattle.script_lines.specs.Outcome.{with_call}
use Rattle.script_lines.specs.Board.{Answers, Finds}
use Rattle.handle_table.proofs.Unchanged.{newest_version}
use Rattle.script_seats.specs.declared.seated.Seated.{Seated}
use Rattle.catalog_handles.specs.Entry.{History as CatalogHistory}
use Rattle.catalog_handles.specs.declared.setting.CatalogSetting.{CatalogSetting}
use Rattle.catalog_handles.specs.Reader.{ReaderData}
use Rattle.catalog_handles.specs.Reader as readers
use Rattle.script_seats.specs.Seated.{held_data, handed_out, KnowsSeated, IsSeatedAt, IsAskingAt, MayFollow, Gates, HasCalls, HasAsks, CanCall, LeavesHolds, AnswersSeated, is_held, IsTaken, IsUnheld}
use Rattle.script_seats.proofs.OwnCalls.{holds_says}
use Rattle.script_seats.proofs.HoldLists.{holds_of, apart_holds, found_as}

-- ---- entries of a thread

own_newest : (t : ℕ) (e : Entry) (H : History) → e.who ≡ t → entries_by t (e ∷ H) ≡ e ∷ entries_by t H
own_newest t e H is = ap (λ (b : Bool). cond b (e ∷ entries_by t H) (entries_by t H)) (eq-eqb e.who t is)

-- others alone called between what the thread had seen and its call
pub others_between : (gate : Gate Setting) (old new : Thread) (op : Op) (place : ℕ) (reply : Reply) → IsInOrder gate.terms old → IsInOrder gate.terms new
    → Answered gate old new op place reply → entries_by old.number (before new) ≡ entries_by old.number old.seen
others_between gate old new op place reply was is a =
    let e : Entry = record { who = old.number; op = op; reply = reply } in
    let all : entries_by old.number (e ∷ before new) ≡ e ∷ old.calls =
    sym (ap (entries_by old.number) a.seen) ∙ (ap (λ (n : ℕ). entries_by n new.seen) (sym a.same.number) ∙ (is.calls ∙ a.calls)) in
    let rest : e ∷ entries_by old.number (before new) ≡ e ∷ old.calls = sym (own_newest old.number e (before new) refl) ∙ all in
    ap without_newest rest ∙ sym was.calls

pub legal_before : (gate : Gate Setting) (old new : Thread) (op : Op) (place : ℕ) (reply : Reply) → IsInOrder gate.terms new
    → Answered gate old new op place reply → IsLegal gate.terms.setting (before new)
legal_before gate old new op place reply is a = (subst (IsLegal gate.terms.setting) a.seen is.legal).1

thread_stays : (gate : Gate Setting) (old new : Thread) → IsSameThread old new → IsThreadOf gate old → IsThreadOf gate new
thread_stays gate old new same of = (same.table ∙ of.0, same.terms ∙ of.1)

-- ---- what a call leaves

holds_newest : (t : ℕ) (e : Entry) (H : History) → e.who ≡ t → open_holds (e ∷ H) t ≡ holds_after (open_holds H t) e.op e.reply
holds_newest t e H is = ap (λ (b : Bool). cond b (holds_after (open_holds H t) e.op e.reply) (open_holds H t)) (eq-eqb e.who t is)

pub answers_seated : (gate : Gate Setting) (old new : Seated) (op : Op) (place : ℕ) (reply : Reply) → IsSeatedAt gate old old.mine.seen
    → Answered gate old.mine new.mine op place reply → IsInOrder gate.terms new.mine → new.number ≡ old.number
    → new.holds.items ≡ handed_out (holds_after (open_holds old.mine.seen old.number) op reply) → AnswersSeated gate old new op place reply
answers_seated gate old new op place reply at a is number kept =
    let t : ℕ = old.mine.number in
    let e : Entry = record { who = t; op = op; reply = reply } in
    let own : old.mine.number ≡ old.number = at.knows.number in
    let between = others_between gate old.mine new.mine op place reply at.in_order is a in
    let now : open_holds new.mine.seen new.number ≡ holds_after (open_holds old.mine.seen old.number) op reply =
    ap (open_holds new.mine.seen) (number ∙ sym own)
    ∙ ap (λ (H : History). open_holds H t) a.seen
    ∙ holds_newest t e (before new.mine) refl
    ∙ ap (λ (os : List OpenHold). holds_after os op reply) (holds_says t (before new.mine) old.mine.seen between)
    ∙ ap (λ (n : ℕ). holds_after (open_holds old.mine.seen n) op reply) own in
    record {
      answered = a;
      number = number;
      seated = record {
        thread = thread_stays gate old.mine new.mine a.same at.thread;
        in_order = is;
        knows = record { seen = refl; number = a.same.number ∙ own ∙ sym number; holds = kept ∙ ap handed_out (sym now) };
      };
    }

either_way : (b : Bool) (os : List OpenHold) → cond b os os ≡ os
either_way true os = refl
either_way false os = refl

-- an op that opens and closes no Hold
pub keeps_holds : (op : Op) (reply : Reply) (os : List OpenHold) → hold_change op ≡ changes.Keep → holds_after os op reply ≡ os
keeps_holds op reply os keep =
    ap (λ change. cond (is_accepted reply) (changed os (object_held reply) change) os) keep ∙ either_way (is_accepted reply) os

pub leaves_keep : (op : Op) → LeavesHolds op → hold_change op ≡ changes.Keep
leaves_keep (New mask numbers base) p = refl
leaves_keep (Dup n) p = refl
leaves_keep (Free n) p = refl
leaves_keep (Use n) p = refl
leaves_keep (SetGlobal mask numbers) p = refl
leaves_keep (Install m offer) p = refl
leaves_keep (Post k n) p = refl
leaves_keep (Fetch owner k) p = refl
leaves_keep (Pins n) p = refl
leaves_keep (Hold n) p = absurd p
leaves_keep (Release n) p = absurd p
leaves_keep End p = absurd p

pub answers_plain : (gate : Gate Setting) (old new : Seated) (op : Op) (place : ℕ) (reply : Reply) → HasCalls 1 gate old
    → Answered gate old.mine new.mine op place reply → IsInOrder gate.terms new.mine → new.number ≡ old.number → new.holds.items ≡ old.holds.items
    → hold_change op ≡ changes.Keep → AnswersSeated gate old new op place reply
answers_plain gate old new op place reply may a is number same keep =
    answers_seated gate old new op place reply may.seated a is number
    (same ∙ may.seated.knows.holds ∙ ap handed_out (sym (keeps_holds op reply (open_holds old.mine.seen old.number) keep)))

-- a refused call changes no Hold
pub answers_refused : (gate : Gate Setting) (old new : Seated) (op : Op) (place : ℕ) (refusal : Refusal) → HasCalls 1 gate old
    → Answered gate old.mine new.mine op place (Refused refusal) → IsInOrder gate.terms new.mine → new.number ≡ old.number → new.holds.items ≡ old.holds.items
    → AnswersSeated gate old new op place (Refused refusal)
answers_refused gate old new op place refusal may a is number same =
    answers_seated gate old new op place (Refused refusal) may.seated a is number (same ∙ may.seated.knows.holds)

handed_more : (os : List OpenHold) (h : Handle) (x : Parts) → handed_out (os ++ record { handle = h; object = x } ∷ []) ≡ handed_out os ++ record { handle = h; object = x } ∷ []
handed_more [] h x = refl
handed_more (o ∷ os) h x = ap (λ (hs : List HeldData). held_data o ∷ hs) (handed_more os h x)

-- the same of a fault
pub answers_fault : (gate : Gate Setting) (old new : Seated) (op : Op) (place : ℕ) (refusal : Refusal) (at : ℕ) (reply : Reply) → HasCalls 1 gate old
    → Answered gate old.mine new.mine op place (Refused refusal) → IsInOrder gate.terms new.mine → new.number ≡ old.number → new.holds.items ≡ old.holds.items
    → (at ≡ place) × (reply ≡ Refused refusal) → AnswersSeated gate old new op at reply
answers_fault gate old new op place refusal at reply may a is number same at_fault =
    subst (λ (r : Reply). AnswersSeated gate old new op at r) (sym at_fault.1)
    (subst (λ (p : ℕ). AnswersSeated gate old new op p (Refused refusal)) (sym at_fault.0) (answers_refused gate old new op place refusal may a is number same))

-- an accepted Hold adds it
pub answers_hold : (gate : Gate Setting) (old new : Seated) (n : Named) (place : ℕ) (held : HeldData) (object : Parts) → HasCalls 1 gate old
    → Answered gate old.mine new.mine (Hold n) place (Held held.object) → IsInOrder gate.terms new.mine → n ≡ Of held.handle → new.number ≡ old.number
    → new.holds.items ≡ old.holds.items ++ held ∷ [] → object ≡ held.object → AnswersSeated gate old new (Hold n) place (Held object)
answers_hold gate old new n place held object may a is named number more same =
    let os = open_holds old.mine.seen old.number in
    subst (λ (o : Parts). AnswersSeated gate old new (Hold n) place (Held o)) (sym same)
    (answers_seated gate old new (Hold n) place (Held held.object) may.seated a is number
    (more ∙ ap (λ (hs : List HeldData). hs ++ held ∷ []) may.seated.knows.holds ∙ sym (handed_more os held.handle held.object)
    ∙ ap (λ (m : Named). handed_out (with_hold os m (Some held.object))) (sym named)))

-- a Release takes it out
pub answers_release : (gate : Gate Setting) (old new : Seated) (n : Named) (place : ℕ) (held : HeldData) → HasCalls 1 gate old
    → Answered gate old.mine new.mine (Release (Of held.handle)) place Released → IsInOrder gate.terms new.mine → new.number ≡ old.number
    → IsTaken n old.holds.items new.holds.items held → AnswersSeated gate old new (Release n) place Released
answers_release gate old new n place held may a is number taken =
    let os = open_holds old.mine.seen old.number in
    let apart = apart_holds gate.terms.setting old.mine.seen may.seated.in_order.legal old.number in
    answers_seated gate old new (Release n) place Released may.seated (subst (λ (m : Named). Answered gate old.mine new.mine (Release m) place Released) (sym taken.handle) a) is number
    (taken.rest os apart may.seated.knows.holds)

holding_is : (gate : Gate Setting) (old : Seated) → HasCalls 1 gate old → (h : Handle) → holds old.mine h ≡ list_any (is_of h) (open_holds old.mine.seen old.number)
holding_is gate old may h =
    sym (holds_of gate.terms.setting old.mine.seen may.seated.in_order.legal old.mine.number h)
    ∙ ap (λ (n : ℕ). list_any (is_of h) (open_holds old.mine.seen n)) may.seated.knows.number

-- what is taken out is held, and what is not there is not
pub taken_held : (gate : Gate Setting) (old : Seated) (n : Named) (left : List HeldData) (held : HeldData) → HasCalls 1 gate old → IsTaken n old.holds.items left held → holds old.mine held.handle ≡ true
taken_held gate old n left held may taken = holding_is gate old may held.handle ∙ taken.there (open_holds old.mine.seen old.number) may.seated.knows.holds

pub unheld_free : (gate : Gate Setting) (old : Seated) (n : Named) → HasCalls 1 gate old → IsUnheld n old.holds.items → (h : Handle) → n ≡ Of h → holds old.mine h ≡ false
unheld_free gate old n may free h named = holding_is gate old may h ∙ free (open_holds old.mine.seen old.number) h may.seated.knows.holds named

-- ---- what the board says of it

pub may_follow : (gate : Gate Setting) (old new : Seated) (op : Op) (place : ℕ) (reply : Reply) → HasCalls 1 gate old → AnswersSeated gate old new op place reply
    → MayFollow gate.terms.setting old.number (before new.mine) old.mine.seen
may_follow gate old new op place reply may a =
    let between = others_between gate old.mine new.mine op place reply may.seated.in_order a.seated.in_order a.answered in
    record {
      later = a.answered.later;
      legal = legal_before gate old.mine new.mine op place reply a.seated.in_order a.answered;
      others = subst (λ (n : ℕ). entries_by n (before new.mine) ≡ entries_by n old.mine.seen) may.seated.knows.number between;
    }

newest_is : (gate : Gate Setting) (old new : Seated) (op : Op) (place : ℕ) (reply : Reply) → HasCalls 1 gate old → AnswersSeated gate old new op place reply
    → new.mine.seen ≡ with_call gate.terms.setting (before new.mine) old.number op
newest_is gate old new op place reply may a =
    a.answered.seen
    ∙ ap (λ (r : Reply). record { who = old.mine.number; op = op; reply = r } ∷ before new.mine) a.answered.reply_is
    ∙ ap (λ (n : ℕ). with_call gate.terms.setting (before new.mine) n op) may.seated.knows.number

pub seated_as : (gate : Gate Setting) (s : Seated) (G H : History) → G ≡ H → IsSeatedAt gate s G → IsSeatedAt gate s H
seated_as gate s G H is at = subst (IsSeatedAt gate s) is at

pub answers : (gate : Gate Setting) (old new : Seated) (op : Op) (place : ℕ) (reply : Reply) → HasCalls 1 gate old → AnswersSeated gate old new op place reply
    → (H : History) → IsSeatedAt gate old H → Answers gate.terms.setting (MayFollow gate.terms.setting old.number) (IsSeatedAt gate new) old.number H op place reply
answers gate old new op place reply may a H at =
    let c = gate.terms.setting in
    record {
      before = before new.mine;
      is_later = subst (MayFollow c old.number (before new.mine)) at.knows.seen (may_follow gate old new op place reply may a);
      place_is = a.answered.place_is;
      reply_is = a.answered.reply_is ∙ ap (λ (n : ℕ). answer c (before new.mine) n op) may.seated.knows.number;
      now_at = seated_as gate new new.mine.seen (with_call c (before new.mine) old.number op) (newest_is gate old new op place reply may a) a.seated;
    }

-- the thread may make one call less afterwards
pub ready_less : (gate : Gate Setting) (old new : Seated) (op : Op) (place : ℕ) (reply : Reply) → AnswersSeated gate old new op place reply
    → (n : ℕ) → HasCalls (n + 1) gate old → HasCalls n gate new
ready_less gate old new op place reply a n may =
    let more : length new.mine.calls ≡ length old.mine.calls + 1 = ap (λ (H : History). length H) a.answered.calls ∙ (omega arith) in
    let quota = may.quota in
    record { seated = a.seated; quota = omega arith }

-- what stays of the catalogs where a call is one of the table
pub asking_kept : (gate : Gate CatalogSetting) (old new : Seated) → new.reader ≡ old.reader → new.number ≡ old.number → (M : CatalogHistory) → IsAskingAt gate old M → IsAskingAt gate new M
asking_kept gate old new same number M at = record {
  thread = subst (readers.IsReaderOf gate) (sym same) at.thread;
  in_order = subst (readers.IsInOrder gate.terms) (sym same) at.in_order;
  seen = ap (λ (r : ReaderData). r.seen) same ∙ at.seen;
  number = ap (λ (r : ReaderData). r.number) same ∙ at.number ∙ sym number;
}

pub asks_kept : (gate : Gate CatalogSetting) (n : ℕ) (old new : Seated) → new.reader ≡ old.reader → new.number ≡ old.number → HasAsks n gate old → HasAsks n gate new
asks_kept gate n old new same number may = record {
  seated = asking_kept gate old new same number new.reader.seen
      (subst (IsAskingAt gate old) (sym (ap (λ (r : ReaderData). r.seen) same)) may.seated);
  quota = subst (λ (r : ReaderData). length r.calls + n ≤ gate.terms.quota) (sym same) may.quota;
}

asks_less : (gate : Gate CatalogSetting) (n : ℕ) (s : Seated) → HasAsks (n + 1) gate s → HasAsks n gate s
asks_less gate n s may = let quota = may.quota in record { seated = may.seated; quota = omega arith }

-- the thread may make one call less of both
pub can_less : (g : Gates) (old new : Seated) (op : Op) (place : ℕ) (reply : Reply) → AnswersSeated g.locales old new op place reply → new.reader ≡ old.reader
    → (n : ℕ) → CanCall (n + 1) g old → CanCall n g new
can_less g old new op place reply a same n may = record {
  calls = ready_less g.locales old new op place reply a n may.calls;
  asks = asks_less g.catalogs n new (asks_kept g.catalogs (n + 1) old new same a.number may.asks);
  agree = may.agree;
}

-- ---- a read of the global locale

-- what a read of the global locale leaves of a thread
pub record Found (gate : Gate Setting) (old new : Seated) (version : ℕ) (object : Parts) : Type 0 where
  pub follows : MayFollow gate.terms.setting old.number new.mine.seen old.mine.seen
  pub seated : IsSeatedAt gate new new.mine.seen
  pub calls : new.mine.calls ≡ old.mine.calls
  pub version_is : version ≡ sets new.mine.seen
  pub object_is : object ≡ global gate.terms.setting new.mine.seen

pub saw_finds : (gate : Gate Setting) (old new : Seated) (version : ℕ) (object : Parts) → HasCalls 0 gate old → SawMore old.mine new.mine → IsInOrder gate.terms new.mine
    → new.number ≡ old.number → new.holds.items ≡ old.holds.items → version ≡ sets new.mine.seen → object ≡ global_at gate.terms.setting new.mine.seen version
    → Found gate old new version object
saw_finds gate old new version object may saw is number same newest here =
    let t : ℕ = old.mine.number in
    let S : History = new.mine.seen in
    let own = may.seated.knows.number in
    let mine : entries_by t S ≡ entries_by t old.mine.seen =
    ap (λ (n : ℕ). entries_by n S) (sym saw.same.number) ∙ is.calls ∙ saw.calls ∙ sym may.seated.in_order.calls in
    let now : open_holds S new.number ≡ open_holds old.mine.seen old.number =
    ap (open_holds S) (number ∙ sym own) ∙ holds_says t S old.mine.seen mine ∙ ap (open_holds old.mine.seen) own in
    record {
      follows = record {
        later = saw.later;
        legal = is.legal;
        others = subst (λ (n : ℕ). entries_by n S ≡ entries_by n old.mine.seen) own mine;
      };
      seated = record {
        thread = thread_stays gate old.mine new.mine saw.same may.seated.thread;
        in_order = is;
        knows = record { seen = refl; number = saw.same.number ∙ own ∙ sym number; holds = same ∙ may.seated.knows.holds ∙ ap handed_out (sym now) };
      };
      calls = saw.calls;
      version_is = newest;
      object_is = here ∙ ap (global_at gate.terms.setting S) newest ∙ newest_version gate.terms.setting S;
    }

-- the same at a table that is this one
pub finds_at : (gate here : Gate Setting) (old new : Seated) (version : ℕ) (object : Parts) → here ≡ gate → HasCalls 0 gate old → SawMore old.mine new.mine → IsInOrder here.terms new.mine
    → new.number ≡ old.number → new.holds.items ≡ old.holds.items → version ≡ sets new.mine.seen → object ≡ global_at here.terms.setting new.mine.seen version
    → Found gate old new version object
finds_at gate here old new version object one may saw is number same newest found =
    saw_finds gate old new version object may saw (subst (λ (x : Gate Setting). IsInOrder x.terms new.mine) one is) number same newest
    (subst (λ (x : Gate Setting). object ≡ global_at x.terms.setting new.mine.seen version) one found)

pub answers_at : (gate here : Gate Setting) (old new : Seated) (op : Op) (place : ℕ) (reply : Reply) → here ≡ gate → AnswersSeated here old new op place reply → AnswersSeated gate old new op place reply
answers_at gate here old new op place reply one a = subst (λ (x : Gate Setting). AnswersSeated x old new op place reply) one a

pub finds : (gate : Gate Setting) (old new : Seated) (version : ℕ) (object : Parts) → Found gate old new version object → (H : History) → IsSeatedAt gate old H
    → Finds gate.terms.setting (MayFollow gate.terms.setting old.number) (IsSeatedAt gate new) H version object
finds gate old new version object found H at = record {
  before = new.mine.seen;
  is_later = subst (MayFollow gate.terms.setting old.number new.mine.seen) at.knows.seen found.follows;
  version_is = found.version_is;
  object_is = found.object_is;
  now_at = found.seated;
}

pub ready_same : (gate : Gate Setting) (old new : Seated) (version : ℕ) (object : Parts) → Found gate old new version object → (n : ℕ) → HasCalls n gate old → HasCalls n gate new
ready_same gate old new version object found n may =
    let same : length new.mine.calls ≡ length old.mine.calls = ap (λ (H : History). length H) found.calls in
    let quota = may.quota in
    record { seated = found.seated; quota = omega arith }

pub can_same : (g : Gates) (old new : Seated) (version : ℕ) (object : Parts) → Found g.locales old new version object → new.reader ≡ old.reader → new.number ≡ old.number → (n : ℕ) → CanCall n g old → CanCall n g new
can_same g old new version object found same number n may = record {
  calls = ready_same g.locales old new version object found n may.calls;
  asks = asks_kept g.catalogs n old new same number may.asks;
  agree = may.agree;
}

-- ---- what the thread knows of itself

pub held_known : (s : Seated) (n : Named) (o : Option Parts) → o ≡ option_map (λ (h : HeldData). h.object) (find (is_held n) s.holds.items)
    → (H : History) → KnowsSeated s H → o ≡ held_as (open_holds H s.number) n
held_known s n o is H knows = is ∙ ap (λ (hs : List HeldData). option_map (λ (h : HeldData). h.object) (find (is_held n) hs)) knows.holds ∙ found_as n (open_holds H s.number)

-- ---- what holds of both parts of a call that gave something

pub both_ok : {T E : Type 0} (r : Result T E) (P : T → Type 0) (Q R : Type 0) → IfOk r P → OnOk r Q → ((x : T) → P x → Q → R) → OnOk r R
both_ok (Ok x) P Q R p q f = f x p q
both_ok (Err e) P Q R p q f = tt
