-- What a turn and a look say of a thread.
use Rattle.std.proofs.Common.{◌≡◌, ℕ, zero, suc, ◌+◌, ◌<◌, ◌≤◌, Bool, true, false, ◌==◌, ◌&&◌, List, [], ◌∷◌, ◌++◌, length, map, Option, Some, None, refl, ap, sym, ◌∙◌, subst, arith, eq-eqb, ne_eqb, append_assoc}
use Rattle.std.specs.List.{All, range_with_len}
use Rattle.std.proofs.lemmas.Simd.{map-map}
use Rattle.std.proofs.lemmas.List.Elements.{All-cons}
use mathlib.Core.Logic.{dite}
use native.Mathlib.Decide.{ℕ_discrete}
use Rattle.std.specs.Prelude.{if◌then◌else◌}
use Rattle.std.proofs.Math.Logic.{◌↔◌}
use Rattle.std.proofs.lemmas.Bool.{lt-leb}
use Rattle.mask_compose.specs.Parts.{Parts, composed}
use Rattle.turn_gate.specs.declared.entry.Terms.{Terms}
use Rattle.turn_gate.specs.History as turns
use Rattle.turn_gate.specs.Callers.{Gate, Caller, IsSameCaller, InOrder, first_caller}
use Rattle.turn_gate.specs.Ends.{IsPartOf}
use Rattle.lc_base.specs.declared.handle.Handle.{Handle}
use Rattle.lc_base.specs.declared.handle.Named.{Named}
use Rattle.lc_base.specs.declared.handle.Named.TheVariants.{Global, Of}
use Rattle.handle_table.specs.Shelf.{from_shelf}
use Rattle.handle_table.specs.declared.op.Op.{Op as OpOf}
use Rattle.handle_table.specs.declared.op.Reply.{Reply as ReplyOf}
use Rattle.handle_table.specs.declared.op.Reply.TheVariants as replies
use Rattle.handle_table.specs.declared.op.Refusal.{Refusal}
use Rattle.handle_table.specs.Entry.{Op, New, Dup, Free, Use, Hold, Release, SetGlobal, Install, Post, Fetch, Pins, End, Reply, Was, Set, Refused, Entry, History, Setting, is_accepted}
use Rattle.handle_table.specs.Seen.{op_of, reply_of}
use Rattle.handle_table.specs.History.{sets, global, global_at, selection_after, selection, holding_after, holding}
use Rattle.handle_table.specs.Kept.{AreThreads}
use Rattle.handle_table.specs.Answer.{answer, own_after, own, target_object, first_reason, reasons, unless, IsLegal}
use Rattle.handle_table.proofs.Changes.{own_stays}
use Rattle.thread_current.specs.Seen.{entry_of, entries_of}
use Rattle.thread_current.specs.Thread.{Thread, thread_of, IsThreadOf, first_thread, IsPart, selected, own_object, GoesOnFrom, entries_by, without_newest, before, IsSameThread, Answered, SawMore, KeepsSelection, KeepsHolds, Keeps, After, cached_after, Leaves, IsInOrder, takes_up}
use Rattle.thread_current.specs.Mine.{IsMine, IsUnused}
use Rattle.thread_current.proofs.Longer.{length_entries, entries_append, sets_rise, version_object}

-- ---- from calls to entries

module _ {P : Type 0} where
  -- what is legal to a machine is a legal history of the table
  abbrev pub legal_calls : Setting → turns.History (OpOf P) (ReplyOf P) → Type 0
  legal_calls c H = IsLegal c (entries_of H)

  pub extends_entries : (later earlier : turns.History (OpOf P) (ReplyOf P)) → turns.Extends later earlier → GoesOnFrom (entries_of later) (entries_of earlier)
  extends_entries later earlier x = (entries_of x.0, ap entries_of x.1 ∙ entries_append x.0 earlier)

  pub calls_entries : (t : ℕ) (H : turns.History (OpOf P) (ReplyOf P)) → entries_by t (entries_of H) ≡ entries_of (turns.calls_of t H)
  calls_entries t [] = refl
  calls_entries t (e ∷ H) = dite (ℕ_discrete e.who t)
      (λ (is : e.who ≡ t).
      let here : (e.who == t) ≡ true = eq-eqb e.who t is in
      ap (λ (b : Bool). if b then entry_of e ∷ entries_by t (entries_of H) else entries_by t (entries_of H)) here
      ∙ ap (λ (G : History). entry_of e ∷ G) (calls_entries t H)
      ∙ sym (ap (λ (b : Bool). entries_of (if b then e ∷ turns.calls_of t H else turns.calls_of t H)) here))
      (λ no.
      let apart : (e.who == t) ≡ false = ne_eqb e.who t no in
      ap (λ (b : Bool). if b then entry_of e ∷ entries_by t (entries_of H) else entries_by t (entries_of H)) apart
      ∙ calls_entries t H
      ∙ sym (ap (λ (b : Bool). entries_of (if b then e ∷ turns.calls_of t H else turns.calls_of t H)) apart))

  threads_entries : (n : ℕ) (H : turns.History (OpOf P) (ReplyOf P)) → turns.AllBelow n H → AreThreads n (entries_of H)
  threads_entries n [] b = tt
  threads_entries n (e ∷ H) b = (b.0, threads_entries n H b.1)

  pub in_order : (terms : Terms Setting) (v : ℕ) (c : Caller Setting (OpOf P) (ReplyOf P)) → InOrder legal_calls terms c.number c.seen c.own
      → IsInOrder terms (thread_of v c)
  in_order terms v c o = record {
    legal = o.legal_seen;
    callers = threads_entries terms.seats c.seen o.below;
    calls = calls_entries c.number c.seen ∙ ap entries_of o.own_calls;
    in_reach = o.in_reach;
  }

  same_thread : (v w : ℕ) (c d : Caller Setting (OpOf P) (ReplyOf P)) → IsSameCaller c d → IsSameThread (thread_of v c) (thread_of w d)
  same_thread v w c d same = record { table = same.0; terms = same.1; number = same.2 }

  pub saw_more : (v w : ℕ) (c d : Caller Setting (OpOf P) (ReplyOf P)) → IsSameCaller c d × (d.own ≡ c.own) → turns.Extends d.seen c.seen
      → SawMore (thread_of v c) (thread_of w d)
  saw_more v w c d same later = record {
    same = same_thread v w c d same.0;
    later = extends_entries d.seen c.seen later;
    calls = ap entries_of same.1;
  }

  -- a turn is one answered call
  pub answered : (gate : Gate Setting) (v w : ℕ) (c d : Caller Setting (OpOf P) (ReplyOf P)) (op : OpOf P) (place : ℕ) (reply : ReplyOf P)
      → IsSameCaller c d
      → ((old : turns.History (OpOf P) (ReplyOf P)) × turns.Extends old c.seen × (d.seen ≡ turns.entry c.number op reply ∷ old) × (place ≡ length old))
      → d.own ≡ turns.entry c.number op reply ∷ c.own
      → IsLegal gate.terms.setting (entries_of d.seen)
      → Answered gate (thread_of v c) (thread_of w d) (op_of op) place (reply_of reply)
  answered gate v w c d op place reply same made own legal =
      let e : Entry = record { who = c.number; op = op_of op; reply = reply_of reply } in
      let seen : entries_of d.seen ≡ e ∷ entries_of made.0 = ap entries_of made.2 in
      let old : entries_of made.0 ≡ without_newest (entries_of d.seen) = sym (ap without_newest seen) in
      let good : IsLegal gate.terms.setting (e ∷ entries_of made.0) = subst (IsLegal gate.terms.setting) seen legal in record {
        same = same_thread v w c d same;
        later = subst (λ (H : History). GoesOnFrom H (entries_of c.seen)) old (extends_entries made.0 c.seen made.1);
        place_is = made.3 ∙ sym (length_entries made.0) ∙ ap length old;
        reply_is = subst (λ (H : History). reply_of reply ≡ answer gate.terms.setting H c.number (op_of op)) old good.0;
        seen = seen ∙ ap (λ (H : History). e ∷ H) old;
        calls = ap entries_of own;
      }

-- ---- what a thread's own calls say

own_calls : (t : ℕ) (H : History) → own H t ≡ own (entries_by t H) t
own_calls t [] = refl
own_calls t (e ∷ H) = dite (ℕ_discrete e.who t)
    (λ (is : e.who ≡ t).
    let here : (e.who == t) ≡ true = eq-eqb e.who t is in
    ap (λ (o : Option Parts). if e.who == t then own_after e.reply o else o) (own_calls t H)
    ∙ sym (ap (λ (b : Bool). own (if b then e ∷ entries_by t H else entries_by t H) t) here))
    (λ no.
    let apart : (e.who == t) ≡ false = ne_eqb e.who t no in
    ap (λ (b : Bool). if b then own_after e.reply (own H t) else own H t) apart
    ∙ own_calls t H
    ∙ sym (ap (λ (b : Bool). own (if b then e ∷ entries_by t H else entries_by t H) t) apart))

selection_calls : (t : ℕ) (H : History) → selection H t ≡ selection (entries_by t H) t
selection_calls t [] = refl
selection_calls t (e ∷ H) = dite (ℕ_discrete e.who t)
    (λ (is : e.who ≡ t).
    let here : (e.who == t) ≡ true = eq-eqb e.who t is in
    ap (λ (n : Named). if (e.who == t && is_accepted e.reply) then selection_after e.op n else n) (selection_calls t H)
    ∙ sym (ap (λ (b : Bool). selection (if b then e ∷ entries_by t H else entries_by t H) t) here))
    (λ no.
    let apart : (e.who == t) ≡ false = ne_eqb e.who t no in
    ap (λ (b : Bool). if (b && is_accepted e.reply) then selection_after e.op (selection H t) else selection H t) apart
    ∙ selection_calls t H
    ∙ sym (ap (λ (b : Bool). selection (if b then e ∷ entries_by t H else entries_by t H) t) apart))

holding_calls : (t : ℕ) (H : History) (h : Handle) → holding H t h ≡ holding (entries_by t H) t h
holding_calls t [] h = refl
holding_calls t (e ∷ H) h = dite (ℕ_discrete e.who t)
    (λ (is : e.who ≡ t).
    let here : (e.who == t) ≡ true = eq-eqb e.who t is in
    ap (λ (b : Bool). if (e.who == t && is_accepted e.reply) then holding_after e.op h b else b) (holding_calls t H h)
    ∙ sym (ap (λ (b : Bool). holding (if b then e ∷ entries_by t H else entries_by t H) t h) here))
    (λ no.
    let apart : (e.who == t) ≡ false = ne_eqb e.who t no in
    ap (λ (b : Bool). if (b && is_accepted e.reply) then holding_after e.op h (holding H t h) else holding H t h) apart
    ∙ holding_calls t H h
    ∙ sym (ap (λ (b : Bool). holding (if b then e ∷ entries_by t H else entries_by t H) t h) apart))

-- two histories with the same calls of a thread say the same of it
pub record SaysTheSame (t : ℕ) (G H : History) : Type 0 where
  pub selection : selection G t ≡ selection H t
  pub own : own G t ≡ own H t
  pub holding : (h : Handle) → holding G t h ≡ holding H t h

same_calls : (t : ℕ) (G H : History) → entries_by t G ≡ entries_by t H → SaysTheSame t G H
same_calls t G H same = record {
  selection = selection_calls t G ∙ ap (λ (F : History). selection F t) same ∙ sym (selection_calls t H);
  own = own_calls t G ∙ ap (λ (F : History). own F t) same ∙ sym (own_calls t H);
  holding = λ h. holding_calls t G h ∙ ap (λ (F : History). holding F t h) same ∙ sym (holding_calls t H h);
}

-- what was seen meanwhile says the same of a thread
pub seen_says : (old new : Thread) (terms : Terms Setting) → SawMore old new → IsInOrder terms old → IsInOrder terms new → SaysTheSame old.number new.seen old.seen
seen_says old new terms saw was is =
    same_calls old.number new.seen old.seen
    (ap (λ n. entries_by n new.seen) (sym saw.same.number) ∙ (is.calls ∙ (saw.calls ∙ sym was.calls)))

entries_by_caller : (t : ℕ) (e : Entry) (H : History) → e.who ≡ t → entries_by t (e ∷ H) ≡ e ∷ entries_by t H
entries_by_caller t e H is = ap (λ (b : Bool). if b then e ∷ entries_by t H else entries_by t H) (eq-eqb e.who t is)

-- what stood before a call says the same of the thread as what the thread had seen
pub before_says : (gate : Gate Setting) (old new : Thread) (op : Op) (place : ℕ) (reply : Reply) (terms : Terms Setting) → Answered gate old new op place reply
    → IsInOrder terms old → IsInOrder terms new → SaysTheSame old.number (before new) old.seen
before_says gate old new op place reply terms a was is =
    let e : Entry = record { who = old.number; op = op; reply = reply } in
    let all : entries_by old.number (e ∷ before new) ≡ e ∷ old.calls =
    sym (ap (entries_by old.number) a.seen) ∙ (ap (λ n. entries_by n new.seen) (sym a.same.number) ∙ (is.calls ∙ a.calls)) in
    let rest : e ∷ entries_by old.number (before new) ≡ e ∷ old.calls = sym (entries_by_caller old.number e (before new) refl) ∙ all in
    same_calls old.number (before new) old.seen (ap without_newest rest ∙ sym was.calls)

-- ---- what a call leaves

pub after_call : (gate : Gate Setting) (old new : Thread) (op : Op) (place : ℕ) (reply : Reply) (terms : Terms Setting) → Answered gate old new op place reply
    → IsInOrder terms old → IsInOrder terms new → After old new op reply
after_call gate old new op place reply terms a was is =
    let t : ℕ = old.number in
    let e : Entry = record { who = t; op = op; reply = reply } in
    let s = before_says gate old new op place reply terms a was is in
    let me : (t == t) ≡ true = eq-eqb t t refl in record {
      selection = ap (selection new.seen) a.same.number
          ∙ ap (λ (H : History). selection H t) a.seen
          ∙ ap (λ (b : Bool). if (b && is_accepted reply) then selection_after op (selection (before new) t) else selection (before new) t) me
          ∙ ap (λ (n : Named). if is_accepted reply then selection_after op n else n) s.selection;
      own = ap (own new.seen) a.same.number
          ∙ ap (λ (H : History). own H t) a.seen
          ∙ ap (λ (b : Bool). if b then own_after reply (own (before new) t) else own (before new) t) me
          ∙ ap (own_after reply) s.own;
      holds = λ h. ap (λ n. holding new.seen n h) a.same.number
          ∙ ap (λ (H : History). holding H t h) a.seen
          ∙ ap (λ (b : Bool). if (b && is_accepted reply) then holding_after op h (holding (before new) t h) else holding (before new) t h) me
          ∙ ap (λ (b : Bool). if is_accepted reply then holding_after op h b else b) (s.holding h);
    }

pub extends_all : (gate : Gate Setting) (old new : Thread) (op : Op) (place : ℕ) (reply : Reply) → Answered gate old new op place reply → GoesOnFrom new.seen old.seen
extends_all gate old new op place reply a =
    let e : Entry = record { who = old.number; op = op; reply = reply } in
    (e ∷ a.later.0, a.seen ∙ ap (λ (H : History). e ∷ H) a.later.1)

-- an op that selects nothing leaves the selection
plain_selection : (op : Op) (n : Named) → takes_up op ≡ false → selection_after op n ≡ n
plain_selection (New mask numbers base) n plain = refl
plain_selection (Dup from) n plain = refl
plain_selection (Free h) n plain = refl
plain_selection (Use h) n plain = absurd (cc plain)
plain_selection (Hold h) n plain = refl
plain_selection (Release h) n plain = refl
plain_selection (SetGlobal mask numbers) n plain = refl
plain_selection (Install m offer) n plain = refl
plain_selection (Post k h) n plain = refl
plain_selection (Fetch owner k) n plain = refl
plain_selection (Pins h) n plain = refl
plain_selection End n plain = absurd (cc plain)

either_way : {A : Type 0} (b : Bool) (x y : A) → x ≡ y → (if b then x else y) ≡ y
either_way true x y same = same
either_way false x y same = refl

-- a call that selects nothing leaves what the thread selects, and its own object
pub plain_keeps : (gate : Gate Setting) (old new : Thread) (op : Op) (place : ℕ) (reply : Reply) → Answered gate old new op place reply
    → IsInOrder gate.terms old → IsInOrder gate.terms new → takes_up op ≡ false → KeepsSelection old new
plain_keeps gate old new op place reply a was is plain =
    let t : ℕ = old.number in
    let e : Entry = record { who = t; op = op; reply = reply } in
    let after = after_call gate old new op place reply gate.terms a was is in
    let s = before_says gate old new op place reply gate.terms a was is in
    let legal : IsLegal gate.terms.setting (e ∷ before new) = subst (IsLegal gate.terms.setting) a.seen is.legal in record {
      selection = after.selection ∙ either_way (is_accepted reply) (selection_after op (selected old)) (selected old) (plain_selection op (selected old) plain);
      own = ap (own new.seen) a.same.number
          ∙ ap (λ (H : History). own H t) a.seen
          ∙ own_stays gate.terms.setting e (before new) t legal plain
          ∙ s.own;
    }

-- a look leaves what the thread selects, its own object and its Holds
pub look_keeps : (terms : Terms Setting) (old new : Thread) → SawMore old new → IsInOrder terms old → IsInOrder terms new → KeepsSelection old new × KeepsHolds old new
look_keeps terms old new saw was is =
    let s = seen_says old new terms saw was is in
    let n = saw.same.number in (
      record { selection = ap (selection new.seen) n ∙ s.selection; own = ap (own new.seen) n ∙ s.own },
      (λ h. ap (λ k. holding new.seen k h) n ∙ s.holding h),
    )

-- what a thread keeps beside its seat is right for what it has seen now, with what it selects now
pub mine_with : (gate : Gate Setting) (old new : Thread) (named to : Named) (taken now : Option Parts) (object : Parts) → IsMine old named taken object
    → old.terms ≡ Some gate.terms → new.terms ≡ old.terms → GoesOnFrom new.seen old.seen → new.cached ≡ old.cached → IsInOrder gate.terms new
    → to ≡ selected new → now ≡ own_object new → (now ≡ None) ↔ (to ≡ Global) → IsMine new to now object
mine_with gate old new named to taken now object m known terms later same is selects owns both =
    let known_new : new.terms ≡ Some gate.terms = terms ∙ known in
    let one : (x : Terms Setting) → new.terms ≡ Some x → gate.terms ≡ x = λ x there. (let e : Some gate.terms ≡ Some x = sym known_new ∙ there in cc e) in
    let longer : (c : Setting) → global_at c new.seen old.cached ≡ global_at c old.seen old.cached =
    λ c. ap (λ (H : History). global_at c H old.cached) later.1 ∙ version_object c later.0 old.seen old.cached m.version in
    let risen : sets old.seen ≤ sets new.seen = subst (λ (H : History). sets old.seen ≤ sets H) (sym later.1) (sets_rise later.0 old.seen) in
    let low = m.version in record {
      in_order = λ x there. subst (λ (T : Terms Setting). IsInOrder T new) (one x there) is;
      named_is = selects;
      own_is = owns;
      both = both;
      version = subst (λ k. k ≤ sets new.seen) (sym same) (omega arith);
      object_is = λ x there. m.object_is x (sym terms ∙ there) ∙ sym (longer x.setting) ∙ ap (global_at x.setting new.seen) (sym same);
    }

pub mine_later : (gate : Gate Setting) (old new : Thread) (named : Named) (taken : Option Parts) (object : Parts) → IsMine old named taken object
    → old.terms ≡ Some gate.terms → new.terms ≡ old.terms → GoesOnFrom new.seen old.seen → KeepsSelection old new → new.cached ≡ old.cached → IsInOrder gate.terms new
    → IsMine new named taken object
mine_later gate old new named taken object m known terms later keeps same is =
    mine_with gate old new named named taken taken object m known terms later same is (m.named_is ∙ sym keeps.selection) (m.own_is ∙ sym keeps.own) m.both

-- the thread with another version that it read last
abbrev pub reading : ℕ → Thread → Thread
reading v t = record t { cached = v }

-- the same with the global object that it read now
pub mine_reads : (t : Thread) (v : ℕ) (named : Named) (taken : Option Parts) (former object : Parts) → IsMine t named taken former → v ≡ sets t.seen
    → ((terms : Terms Setting) → t.terms ≡ Some terms → object ≡ global_at terms.setting t.seen v) → IsMine (reading v t) named taken object
mine_reads t v named taken former object m version found = record {
  in_order = λ x there. (let o = m.in_order x there in record { legal = o.legal; callers = o.callers; calls = o.calls; in_reach = o.in_reach });
  named_is = m.named_is;
  own_is = m.own_is;
  both = m.both;
  version = omega arith;
  object_is = found;
}

pub order_reads : (terms : Terms Setting) (t : Thread) (v : ℕ) → IsInOrder terms t → IsInOrder terms (reading v t)
order_reads terms t v o = record { legal = o.legal; callers = o.callers; calls = o.calls; in_reach = o.in_reach }

-- ---- all that a turn and a look say, of the seat inside and of the thread that the caller sees

-- a turn, by a thread of this table
pub record Turned (gate : Gate Setting) (old new : Thread) (op : Op) (place : ℕ) (reply : Reply) : Type 0 where
  pub answered : Answered gate old new op place reply
  pub known : old.terms ≡ Some gate.terms
  pub was : IsInOrder gate.terms old
  pub is : IsInOrder gate.terms new
  pub after : After old new op reply
  pub later : GoesOnFrom new.seen old.seen

-- a look, by a thread of this table
pub record Looked (gate : Gate Setting) (old new : Thread) : Type 0 where
  pub saw : SawMore old new
  pub known : old.terms ≡ Some gate.terms
  pub is : IsInOrder gate.terms new
  pub selection : KeepsSelection old new
  pub holds : KeepsHolds old new

module _ {P : Type 0} where
  pub turned : (gate self : Gate Setting) (v w : ℕ) (c d : Caller Setting (OpOf P) (ReplyOf P)) (mine : Thread) (named : Named) (taken : Option Parts) (object : Parts)
      (op : OpOf P) (place : ℕ) (reply : ReplyOf P) → gate ≡ self → thread_of v c ≡ mine → IsThreadOf self mine → IsMine (thread_of v c) named taken object
      → IsSameCaller c d
      → ((old : turns.History (OpOf P) (ReplyOf P)) × turns.Extends old c.seen × (d.seen ≡ turns.entry c.number op reply ∷ old) × (place ≡ length old))
      → d.own ≡ turns.entry c.number op reply ∷ c.own
      → InOrder legal_calls gate.terms d.number d.seen d.own
      → Turned gate (thread_of v c) (thread_of w d) (op_of op) place (reply_of reply)
  turned gate self v w c d mine named taken object op place reply gates mines of m same made own order =
      let known : c.terms ≡ Some gate.terms = ap (λ t. t.terms) mines ∙ of.1 ∙ ap (λ x. Some x.terms) (sym gates) in
      let was = m.in_order gate.terms known in
      let is = in_order gate.terms w d order in
      let a = answered gate v w c d op place reply same made own order.legal_seen in record {
        answered = a;
        known = known;
        was = was;
        is = is;
        after = after_call gate (thread_of v c) (thread_of w d) (op_of op) place (reply_of reply) gate.terms a was is;
        later = extends_all gate (thread_of v c) (thread_of w d) (op_of op) place (reply_of reply) a;
      }

  pub looked : (gate self : Gate Setting) (v w : ℕ) (c d : Caller Setting (OpOf P) (ReplyOf P)) (mine : Thread) (named : Named) (taken : Option Parts) (object : Parts)
      → gate ≡ self → thread_of v c ≡ mine → IsThreadOf self mine → IsMine (thread_of v c) named taken object
      → IsSameCaller c d × (d.own ≡ c.own) → turns.Extends d.seen c.seen → InOrder legal_calls gate.terms d.number d.seen d.own
      → Looked gate (thread_of v c) (thread_of w d)
  looked gate self v w c d mine named taken object gates mines of m same later order =
      let known : c.terms ≡ Some gate.terms = ap (λ t. t.terms) mines ∙ of.1 ∙ ap (λ x. Some x.terms) (sym gates) in
      let was = m.in_order gate.terms known in
      let is = in_order gate.terms w d order in
      let saw = saw_more v w c d same later in
      let keeps = look_keeps gate.terms (thread_of v c) (thread_of w d) saw was is in record {
        saw = saw;
        known = known;
        is = is;
        selection = keeps.0;
        holds = keeps.1;
      }

pub turned_seen : (gate self : Gate Setting) (old mine new : Thread) (op : Op) (place : ℕ) (reply : Reply) → gate ≡ self → old ≡ mine
    → Turned gate old new op place reply → Turned self mine new op place reply
turned_seen gate self old mine new op place reply gates mines t =
    subst (λ x. Turned x mine new op place reply) gates (subst (λ x. Turned gate x new op place reply) mines t)

pub looked_seen : (gate self : Gate Setting) (old mine new : Thread) → gate ≡ self → old ≡ mine → Looked gate old new → Looked self mine new
looked_seen gate self old mine new gates mines l = subst (λ x. Looked x mine new) gates (subst (λ x. Looked gate x new) mines l)

-- ---- what some replies say

pub target_none : (c : Setting) (H : History) (n : Named) → (target_object c H n ≡ None) ↔ (n ≡ Global)
target_none c H Global = (λ p. refl, λ p. refl)
target_none c H (Of h) = (λ p. absurd (cc p), λ p. absurd (cc p))

was_unless : (o : Option Refusal) (former former' : Named) (now now' : Option Parts) → Was former now ≡ unless o (Was former' now') → (former ≡ former') × (now ≡ now')
was_unless (Some r) former former' now now' is = absurd (cc is)
was_unless None former former' now now' is = (cc is, cc is)

-- an accepted Use replies with the former selection, and with the object of what it selects
pub use_reply : (c : Setting) (H : History) (t : ℕ) (n former : Named) (now : Option Parts) → Was former now ≡ answer c H t (Use n)
    → (former ≡ selection H t) × (now ≡ target_object c H n)
use_reply c H t n former now is = was_unless (first_reason (reasons c H t (Use n))) former (selection H t) now (target_object c H n) is

set_unless : (o : Option Refusal) (v v' : ℕ) (x x' : Parts) → Set v x ≡ unless o (Set v' x') → (v ≡ v') × (x ≡ x')
set_unless (Some r) v v' x x' is = absurd (cc is)
set_unless None v v' x x' is = (cc is, cc is)

above : (c : Setting) (e : Entry) (H : History) (k : ℕ) → k ≡ sets H + 1 → global_at c (e ∷ H) k ≡ global c (e ∷ H)
above c e H k is = ap (λ b. if b then global_at c H k else global c (e ∷ H)) (lt-leb k (sets H) (omega arith))

-- an accepted SetGlobal replies with the version that it made, and its object
pub set_reply : (gate : Gate Setting) (old new : Thread) (mask : ℕ) (numbers : List ℕ) (place v : ℕ) (x : Parts) → Answered gate old new (SetGlobal mask numbers) place (Set v x)
    → (v ≡ sets new.seen) × (x ≡ global_at gate.terms.setting new.seen v)
set_reply gate old new mask numbers place v x a =
    let c : Setting = gate.terms.setting in
    let H : History = before new in
    let e : Entry = record { who = old.number; op = SetGlobal mask numbers; reply = Set v x } in
    let says = set_unless (first_reason (reasons c H old.number (SetGlobal mask numbers))) v (sets H + 1) x (composed mask (from_shelf c H mask numbers) (global c H)) a.reply_is in (
      says.0 ∙ (omega arith) ∙ sym (ap sets a.seen),
      says.1 ∙ sym (above c e H v says.0) ∙ sym (ap (λ (G : History). global_at c G v) a.seen),
    )

-- ---- calls of more than one step

-- what an accepted setlocale promises of its reply
pub record SetDone (gate : Gate Setting) (old new : Thread) (mask : ℕ) (numbers : List ℕ) (place v : ℕ) : Type 0 where
  pub made : Answered gate old new (SetGlobal mask numbers) place (Set v (global_at gate.terms.setting new.seen v))
  pub version : v ≡ sets new.seen

pub set_done : (gate : Gate Setting) (old new : Thread) (mask : ℕ) (numbers : List ℕ) (place v : ℕ) (x : Parts) → Answered gate old new (SetGlobal mask numbers) place (Set v x)
    → SetDone gate old new mask numbers place v
set_done gate old new mask numbers place v x a =
    let says = set_reply gate old new mask numbers place v x a in record {
      made = subst (λ (y : Parts). Answered gate old new (SetGlobal mask numbers) place (Set v y)) says.1 a;
      version = says.0;
    }

extends_both : (third second first : History) → GoesOnFrom third second → GoesOnFrom second first → GoesOnFrom third first
extends_both third second first x y = (x.0 ++ y.0, x.1 ∙ (ap (λ (H : History). x.0 ++ H) y.1 ∙ sym (append_assoc x.0 y.0 first)))

pub saw_both : (old mid new : Thread) → SawMore old mid → SawMore mid new → SawMore old new
saw_both old mid new x y = record {
  same = record { table = y.same.table ∙ x.same.table; terms = y.same.terms ∙ x.same.terms; number = y.same.number ∙ x.same.number };
  later = extends_both new.seen mid.seen old.seen y.later x.later;
  calls = y.calls ∙ x.calls;
}

pub keeps_both : (old mid new : Thread) → Keeps old mid → Keeps mid new → Keeps old new
keeps_both old mid new x y = record {
  selection = record { selection = y.selection.selection ∙ x.selection.selection; own = y.selection.own ∙ x.selection.own };
  holds = λ h. y.holds h ∙ x.holds h;
  cached = y.cached ∙ x.cached;
}

-- the version that is read is not below any that the thread has seen
pub risen : (old new : Thread) (v : ℕ) → SawMore old new → v ≡ sets new.seen → sets old.seen ≤ v
risen old new v saw is = subst (λ k. sets old.seen ≤ k) (sym is) (subst (λ (H : History). sets old.seen ≤ sets H) (sym saw.later.1) (sets_rise saw.later.0 old.seen))

-- what a read of the global object promises
pub record ReadDone (gate : Gate Setting) (old new : Thread) (v : ℕ) (x : Parts) : Type 0 where
  pub saw : SawMore old new
  pub selection : KeepsSelection old new
  pub holds : KeepsHolds old new
  pub in_order : IsInOrder gate.terms new
  pub version : v ≡ sets new.seen
  pub newer : sets old.seen ≤ v
  pub object : x ≡ global_at gate.terms.setting new.seen v
  pub cached : new.cached ≡ v

pub read_done : (gate : Gate Setting) (old mid last new : Thread) (v : ℕ) (x : Parts) → SawMore old mid → Keeps old mid → SawMore mid last → Keeps mid last → IsInOrder gate.terms last
    → v ≡ sets last.seen → x ≡ global_at gate.terms.setting last.seen v → new ≡ reading v last → ReadDone gate old new v x
read_done gate old mid last new v x saw keeps saw' keeps' is version object same =
    let s = saw_both old mid last saw saw' in
    let k = keeps_both old mid last keeps keeps' in
    let P : Thread → Type 0 = λ t. ReadDone gate old t v x in
    subst P (sym same) (record {
      saw = record { same = record { table = s.same.table; terms = s.same.terms; number = s.same.number }; later = s.later; calls = s.calls };
      selection = record { selection = k.selection.selection; own = k.selection.own };
      holds = k.holds;
      in_order = order_reads gate.terms last v is;
      version = version;
      newer = risen old last v s version;
      object = object;
      cached = refl;
    })

-- what a thread keeps beside its seat after an accepted Use
pub mine_uses : (gate : Gate Setting) (old new : Thread) (n former named : Named) (now taken : Option Parts) (object : Parts) (place : ℕ) (reply : Reply) → Turned gate old new (Use n) place reply
    → reply ≡ Was former now → IsMine old named taken object → new.cached ≡ old.cached → IsMine new n now object
mine_uses gate old new n former named now taken object place reply step is m same =
    let t = subst (Turned gate old new (Use n) place) is step in
    let says = use_reply gate.terms.setting (before new) old.number n former now t.answered.reply_is in
    let both = target_none gate.terms.setting (before new) n in
    mine_with gate old new named n taken now object m t.known t.answered.same.terms t.later same t.is (sym t.after.selection) (sym t.after.own)
    (λ p. both.0 (sym says.1 ∙ p), λ p. says.1 ∙ both.1 p)

module _ {P : Type 0} where
  -- a reply to a Use that gives no object is a refusal
  refused_unless : (o : Option Refusal) (former : Named) (now : Option Parts) (r : ReplyOf P) → reply_of r ≡ unless o (Was former now)
      → ((f : Named) (x : Option Parts) → r ≡ replies.Was f x → ⊥) → (refusal : Refusal) × (reply_of r ≡ Refused refusal)
  refused_unless (Some refusal) former now r is other = (refusal, is)
  refused_unless None former now (replies.Was f x) is other = absurd (other f x refl)
  refused_unless None former now (replies.Made h) is other = absurd (cc is)
  refused_unless None former now replies.Freed is other = absurd (cc is)
  refused_unless None former now (replies.Held object) is other = absurd (cc is)
  refused_unless None former now replies.Released is other = absurd (cc is)
  refused_unless None former now (replies.Set version object) is other = absurd (cc is)
  refused_unless None former now (replies.Installed count) is other = absurd (cc is)
  refused_unless None former now replies.Posted is other = absurd (cc is)
  refused_unless None former now (replies.Got h) is other = absurd (cc is)
  refused_unless None former now (replies.Pins count) is other = absurd (cc is)
  refused_unless None former now replies.Ended is other = absurd (cc is)
  refused_unless None former now (replies.Refused refusal) is other = absurd (cc is)

  -- what a thread keeps beside its seat after a Use that took up nothing
  pub mine_refused : (gate : Gate Setting) (old new : Thread) (n named : Named) (taken : Option Parts) (object : Parts) (place : ℕ) (r : ReplyOf P)
      → Turned gate old new (Use n) place (reply_of r) → ((f : Named) (x : Option Parts) → r ≡ replies.Was f x → ⊥)
      → IsMine old named taken object → new.cached ≡ old.cached → IsMine new named taken object
  mine_refused gate old new n named taken object place r step other m same =
      let c : Setting = gate.terms.setting in
      let H : History = before new in
      let why = refused_unless (first_reason (reasons c H old.number (Use n))) (selection H old.number) (target_object c H n) r step.answered.reply_is other in
      let t = subst (Turned gate old new (Use n) place) why.1 step in
      mine_later gate old new named taken object m t.known t.answered.same.terms t.later (record { selection = t.after.selection; own = t.after.own }) same t.is

-- what a turn with a Use promises of the thread that the caller sees
pub record TookUp (gate : Gate Setting) (old new : Thread) (n : Named) (place : ℕ) (reply : Reply) : Type 0 where
  pub answered : Answered gate old new (Use n) place reply
  pub in_order : IsInOrder gate.terms new
  pub before : selection (before new) old.number ≡ selected old
  pub leaves : Leaves old new (Use n) reply

-- a Use is answered with no version
use_reads : (o : Option Refusal) (former : Named) (now : Option Parts) (v : ℕ) → cached_after (unless o (Was former now)) v ≡ v
use_reads None former now v = refl
use_reads (Some refusal) former now v = refl

pub took_up : (gate self : Gate Setting) (old mine new last : Thread) (n : Named) (place : ℕ) (reply : Reply) → gate ≡ self → old ≡ mine → Turned gate old new (Use n) place reply
    → new.cached ≡ old.cached → new ≡ last → TookUp self mine last n place reply
took_up gate self old mine new last n place reply gates mines step cached same =
    let c : Setting = self.terms.setting in
    let H : History = before new in
    let t : ℕ = mine.number in
    let s = turned_seen gate self old mine new (Use n) place reply gates mines step in
    let kept : new.cached ≡ mine.cached = subst (λ (u : Thread). new.cached ≡ u.cached) mines cached in
    let read : cached_after reply mine.cached ≡ mine.cached =
    ap (λ (r : Reply). cached_after r mine.cached) s.answered.reply_is
    ∙ use_reads (first_reason (reasons c H t (Use n))) (selection H t) (target_object c H n) mine.cached in
    subst (λ (u : Thread). TookUp self mine u n place reply) same (record {
      answered = s.answered;
      in_order = s.is;
      before = (before_says self mine new (Use n) place reply self.terms s.answered s.was s.is).selection;
      leaves = record { after = s.after; cached = kept ∙ sym read };
    })

-- ---- the first and the last state

module _ {P : Type 0} where
  pub part_entries : (H : turns.History (OpOf P) (ReplyOf P)) (s : Caller Setting (OpOf P) (ReplyOf P)) → IsPartOf H s → IsPart (entries_of H) s
  part_entries H s p = (extends_entries H s.seen p.0, calls_entries s.number H ∙ ap entries_of p.1)

  unused_from : (gate : Gate Setting) (posix : Parts) (a n : ℕ) → posix ≡ global_at gate.terms.setting [] 0 → a + n ≤ gate.terms.seats
      → All (IsUnused {P = P} posix) (map (first_caller gate) (range_with_len a n))
  unused_from gate posix a zero object low = λ k d none. absurd (omega arith)
  unused_from gate posix a (suc n) object low =
      let one : (x : Terms Setting) → Some gate.terms ≡ Some x → gate.terms ≡ x = λ x e. cc e in
      All-cons (IsUnused {P = P} posix) (first_caller gate a) (map (first_caller gate) (range_with_len (a + 1) n))
      (record {
        unseen = refl;
        no_calls = refl;
        in_reach = λ x e. subst (λ (T : Terms Setting). a < T.seats) (one x e) (omega arith);
        object_is = λ x e. subst (λ (T : Terms Setting). posix ≡ global_at T.setting [] 0) (one x e) object;
      })
      (unused_from gate posix (a + 1) n object (omega arith))

  pub all_unused : (gate : Gate Setting) (posix : Parts) (n : ℕ) (seats : List (Caller Setting (OpOf P) (ReplyOf P))) → posix ≡ global_at gate.terms.setting [] 0 → n ≡ gate.terms.seats
      → seats ≡ map (first_caller gate) (range_with_len 0 n) → All (IsUnused posix) seats
  all_unused gate posix n seats object same is = subst (All (IsUnused posix)) (sym is) (unused_from gate posix 0 n object (omega arith))

  pub first_threads : (gate : Gate Setting) (n : ℕ) (seats : List (Caller Setting (OpOf P) (ReplyOf P))) → seats ≡ map (first_caller gate) (range_with_len 0 n)
      → map (thread_of 0) seats ≡ map (first_thread gate) (range_with_len 0 n)
  first_threads gate n seats is = ap (map (thread_of 0)) is ∙ map-map (thread_of 0) (first_caller {O = OpOf P} {R = ReplyOf P} gate) (range_with_len 0 n)
