-- What the loops over a thread's turns keep, and the end of a thread.
use Rattle.std.proofs.Common.{◌≡◌, ℕ, zero, suc, ◌+◌, ◌*◌, ◌<◌, ◌≤◌, Bool, true, false, cond, List, [], ◌∷◌, ◌++◌, map, length, take, drop, get_or, None, refl, sym, ap, ◌∙◌, subst, arith, add-one, eq-eqb, append-nil, append_assoc, drop-cons}
use Rattle.std.specs.Prelude.{◌==◌, reverse}
use Rattle.std.specs.List.{list_any}
use Rattle.std.proofs.Math.Seq.{take-suc}
use Rattle.std.proofs.lemmas.List.{get_or-map, length-map, map-append, reverse-append}
use Rattle.std.proofs.lemmas.List.Elements.{All-cons, All-head, All-tail, filter-append}
use Rattle.turn_gate.specs.Callers.{Caller}
use Rattle.category_store.specs.declared.share.Share.{Share}
use Rattle.handle_table.specs.declared.op.Op as ops
use Rattle.handle_table.specs.declared.op.Reply as replies
use Rattle.lc_base.specs.declared.handle.Handle.{Handle}
use Rattle.handle_table.specs.Entry.{End, Ended, Setting, History}
use Rattle.thread_current.specs.Mine.{HeldData}
use Rattle.thread_current.specs.Thread.{thread_of, IsInOrder, GoesOnFrom, entries_by, before, Answered, holds}
use Rattle.script_out.specs.declared.output.OutLine.{OutLine}
use Rattle.script_out.specs.declared.output.Places.TheVariants as places
use Rattle.script_out.specs.declared.output.Said.TheVariants as said
use Rattle.script_words.specs.declared.categories.CategoryArgument.TheVariants as categories
use Rattle.script_lines.specs.declared.thread.Thread.{Thread as ScriptThread}
use Rattle.script_wishes.specs.declared.turns.Turn.{Turn as LentTurn}
use Rattle.script_wishes.specs.declared.holds.OpenHold.{OpenHold}
use Rattle.script_wishes.specs.Wishes.{TaskMay}
use Rattle.script_lines.specs.Board.{Moments}
use Rattle.script_wishes.specs.Holds.{open_holds, is_of}
use Rattle.script_lines.specs.Lines.{Caller as LineCaller, line}
use Rattle.script_lines.specs.Outcome.{with_call, calls}
use Rattle.script_wishes.specs.Seen.{turn_seen}
use Rattle.script_wishes.specs.Turns.{Releases, Ends, Turn, closing_turn, releases}
use Rattle.script_lines.specs.Catalogs.{not_asked}
use Rattle.script_plan.specs.Plan.{PlanData, books_of}
use Rattle.script_seats.specs.declared.seated.Seated.{Seated}
use Rattle.script_seats.specs.Seated.{held_data, handed_out, Gates, IsSeatedAt, MayFollow, MayCall, IsFirst}
use Rattle.script_run.specs.Timed.{Timed, lines_in, turns_made, AreTimed}
use Rattle.script_run.specs.Beside.{LibraryAndBooks, library_and_books_of, HasMade, IsWorker, CanAdd, Adds, turns_of, CanWork, WorksOn, CanClose, GivesUp, EndsSeat, Closes}
use Rattle.script_run.proofs.AskedSeen.{asking_same, same_calls_long}
use Rattle.script_seats.proofs.HoldLists.{holds_of}
use Rattle.script_seats.proofs.SeatLemmas.{legal_before, others_between}
use Rattle.script_run.proofs.LineSteps.{longer, goes_further, goes_one_more, call_step}
use Rattle.script_run.proofs.MadeLines.{HasLines, made_line, more_lines}
use Rattle.script_run.proofs.SeatLines.{lines_made, works_none, works_one_more, LeftBy, released}

-- ---- the turns of a round

pub turn_at : (turns : List LentTurn) (i : ℕ) (item : LentTurn) → i < length turns → item ≡ get_or turns i item → turn_seen item ≡ get_or (map turn_seen turns) i (turn_seen item)
turn_at turns i item below is = ap turn_seen is ∙ sym (get_or-map turn_seen turns i item (turn_seen item) below)

pub turn_below : (turns : List LentTurn) (i : ℕ) → i < length turns → i < length (map turn_seen turns)
turn_below turns i below = let same = length-map turns turn_seen in omega arith

-- what the turns so far have left of a thread, and that it can take those to come
pub record Going (gate : Gates) (library_and_books : LibraryAndBooks) (turns : List Turn) (old new : ScriptThread Seated) (lines lines' : List OutLine) (i : ℕ) : Type 0 where
  pub number : new.side.number ≡ old.side.number
  pub can : CanWork gate library_and_books new (turns_of old.side.number (drop i turns))
  pub works : WorksOn gate library_and_books (turns_of old.side.number (take i turns)) old new lines lines'

pub going_none : (gate : Gates) (library_and_books : LibraryAndBooks) (turns : List Turn) (t : ScriptThread Seated) (lines : List OutLine) → CanWork gate library_and_books t (turns_of t.side.number turns)
    → Going gate library_and_books turns t t lines lines 0
going_none gate library_and_books turns t lines can = record { number = refl; can = can; works = works_none gate library_and_books t lines }

-- the turns of a thread with one more turn, of another thread or its own
not_its : (n : ℕ) (turn : Turn) (turns : List Turn) → (turn.thread == n) ≡ false → turns_of n (turn ∷ turns) ≡ turns_of n turns
not_its n turn turns other = ap (λ (b : Bool). cond b (turn ∷ turns_of n turns) (turns_of n turns)) other

its_own : (n : ℕ) (turn : Turn) (turns : List Turn) → (turn.thread == n) ≡ true → turns_of n (turn ∷ turns) ≡ turn ∷ turns_of n turns
its_own n turn turns own = ap (λ (b : Bool). cond b (turn ∷ turns_of n turns) (turns_of n turns)) own

to_come : (turns : List Turn) (i : ℕ) (turn : Turn) → i < length turns → turn ≡ get_or turns i turn → drop i turns ≡ turn ∷ drop (i + 1) turns
to_come turns i turn below is =
    drop-cons turns i turn below ∙ ap (λ (t : Turn). t ∷ drop (suc i) turns) (sym is) ∙ ap (λ (k : ℕ). turn ∷ drop k turns) (sym (add-one i))

taken : (turns : List Turn) (i : ℕ) (turn : Turn) → i < length turns → turn ≡ get_or turns i turn → take (i + 1) turns ≡ take i turns ++ turn ∷ []
taken turns i turn below is =
    ap (λ (k : ℕ). take k turns) (add-one i) ∙ take-suc turns i turn below ∙ ap (λ (t : Turn). take i turns ++ t ∷ []) (sym is)

pub going_past : (gate : Gates) (library_and_books : LibraryAndBooks) (turns : List Turn) (old new : ScriptThread Seated) (lines lines' : List OutLine) (i : ℕ) (turn : Turn)
    → i < length turns → turn ≡ get_or turns i turn → (turn.thread == old.side.number) ≡ false
    → Going gate library_and_books turns old new lines lines' i → Going gate library_and_books turns old new lines lines' (i + 1)
going_past gate library_and_books turns old new lines lines' i turn below is other g =
    let n : ℕ = old.side.number in
    let rest : turns_of n (drop i turns) ≡ turns_of n (drop (i + 1) turns) = ap (turns_of n) (to_come turns i turn below is) ∙ not_its n turn (drop (i + 1) turns) other in
    let so_far : turns_of n (take (i + 1) turns) ≡ turns_of n (take i turns) =
    ap (turns_of n) (taken turns i turn below is) ∙ filter-append (λ (t : Turn). t.thread == n) (take i turns) (turn ∷ [])
    ∙ ap (λ (ts : List Turn). turns_of n (take i turns) ++ ts) (not_its n turn [] other) ∙ append-nil (turns_of n (take i turns)) in
    record {
      number = g.number;
      can = subst (CanWork gate library_and_books new) rest g.can;
      works = subst (λ (ts : List Turn). WorksOn gate library_and_books ts old new lines lines') (sym so_far) g.works;
    }

-- a thread that can take turns can take the first of them
can_add : (gate : Gates) (library_and_books : LibraryAndBooks) (t : ScriptThread Seated) (turn : Turn) (turns : List Turn) → CanWork gate library_and_books t (turn ∷ turns) → turn.thread ≡ t.side.number
    → CanAdd gate library_and_books t turn
can_add gate library_and_books t turn turns can own =
    let quota = can.calls.calls.quota in
    let asks = can.calls.asks.quota in
    let few = can.few in
    record {
      numbered = can.numbered;
      installable = can.installable;
      opening = can.opening;
      calls = record {
        calls = record { seated = can.calls.calls.seated; quota = omega arith };
        asks = record { seated = can.calls.asks.seated; quota = omega arith };
        agree = can.calls.agree;
      };
      few = omega arith;
      own = own;
      fits = All-head (λ (x : Turn). TaskMay library_and_books.library (MayCall gate.locales.terms.setting) x.task) turn turns can.fits;
    }

-- and then the others
can_after : (gate : Gates) (library_and_books : LibraryAndBooks) (old new : ScriptThread Seated) (turn : Turn) (turns : List Turn) (lines lines' : List OutLine) → CanWork gate library_and_books old (turn ∷ turns)
    → Adds gate library_and_books turn old new lines lines' → CanWork gate library_and_books new turns
can_after gate library_and_books old new turn turns lines lines' can a =
    let quota = can.calls.calls.quota in
    let asks = can.calls.asks.quota in
    let few = can.few in
    let more = a.adds.lines in
    record {
      numbered = can.numbered;
      installable = can.installable;
      opening = can.opening;
      calls = a.adds.calls (2 * length turns) (record {
        calls = record { seated = can.calls.calls.seated; quota = omega arith };
        asks = record { seated = can.calls.asks.seated; quota = omega arith };
        agree = can.calls.agree;
      });
      few = omega arith;
      fits = All-tail (λ (x : Turn). TaskMay library_and_books.library (MayCall gate.locales.terms.setting) x.task) turn turns can.fits;
    }

pub going_can : (gate : Gates) (library_and_books : LibraryAndBooks) (turns : List Turn) (old new : ScriptThread Seated) (lines lines' : List OutLine) (i : ℕ) (turn : Turn)
    → i < length turns → turn ≡ get_or turns i turn → turn.thread ≡ old.side.number
    → Going gate library_and_books turns old new lines lines' i → CanAdd gate library_and_books new turn
going_can gate library_and_books turns old new lines lines' i turn below is own g =
    let n : ℕ = old.side.number in
    let rest : turns_of n (drop i turns) ≡ turn ∷ turns_of n (drop (i + 1) turns) =
    ap (turns_of n) (to_come turns i turn below is) ∙ its_own n turn (drop (i + 1) turns) (eq-eqb turn.thread n own) in
    can_add gate library_and_books new turn (turns_of n (drop (i + 1) turns)) (subst (CanWork gate library_and_books new) rest g.can) (own ∙ sym g.number)

pub going_on : (gate : Gates) (library_and_books : LibraryAndBooks) (turns : List Turn) (old mid new : ScriptThread Seated) (lines lines' lines'' : List OutLine) (i : ℕ) (turn : Turn)
    → i < length turns → turn ≡ get_or turns i turn → turn.thread ≡ old.side.number
    → Going gate library_and_books turns old mid lines lines' i → Adds gate library_and_books turn mid new lines' lines'' → Going gate library_and_books turns old new lines lines'' (i + 1)
going_on gate library_and_books turns old mid new lines lines' lines'' i turn below is own g a =
    let n : ℕ = old.side.number in
    let here : (turn.thread == n) ≡ true = eq-eqb turn.thread n own in
    let rest : turns_of n (drop i turns) ≡ turn ∷ turns_of n (drop (i + 1) turns) = ap (turns_of n) (to_come turns i turn below is) ∙ its_own n turn (drop (i + 1) turns) here in
    let so_far : turns_of n (take (i + 1) turns) ≡ turns_of n (take i turns) ++ turn ∷ [] =
    ap (turns_of n) (taken turns i turn below is) ∙ filter-append (λ (t : Turn). t.thread == n) (take i turns) (turn ∷ [])
    ∙ ap (λ (ts : List Turn). turns_of n (take i turns) ++ ts) (its_own n turn [] here) in
    record {
      number = a.adds.number ∙ g.number;
      can = can_after gate library_and_books mid new turn (turns_of n (drop (i + 1) turns)) lines' lines'' (subst (CanWork gate library_and_books mid) rest g.can) a;
      works = subst (λ (ts : List Turn). WorksOn gate library_and_books ts old new lines lines'') (sym so_far)
          (works_one_more gate library_and_books (turns_of n (take i turns)) turn old mid new lines lines' lines'' g.works (own ∙ sym g.number) a);
    }

take_all : (turns : List Turn) (i : ℕ) → length turns ≤ i → take i turns ≡ turns
take_all [] zero all = refl
take_all [] (suc i) all = refl
take_all (t ∷ turns) zero all = absurd (omega arith)
take_all (t ∷ turns) (suc i) all = let below : length turns ≤ i = omega arith in ap (λ (ts : List Turn). t ∷ ts) (take_all turns i below)

pub gone : (gate : Gates) (library_and_books : LibraryAndBooks) (turns : List Turn) (old new : ScriptThread Seated) (lines lines' : List OutLine) (i : ℕ) → length turns ≤ i
    → Going gate library_and_books turns old new lines lines' i → WorksOn gate library_and_books (turns_of old.side.number turns) old new lines lines'
gone gate library_and_books turns old new lines lines' i all g =
    subst (λ (ts : List Turn). WorksOn gate library_and_books (turns_of old.side.number ts) old new lines lines') (take_all turns i all) g.works

-- ---- the standing Holds

-- what the Releases so far have left of a thread
pub record Releasing (gate : Gates) (library_and_books : LibraryAndBooks) (round : ℕ) (old new : ScriptThread Seated) (lines lines' : List OutLine) : Type 0 where
  pub done : List OpenHold
  pub left : List OpenHold
  pub whole : open_holds old.side.mine.seen old.side.number ≡ done ++ left
  pub standing : open_holds new.side.mine.seen new.side.number ≡ left
  pub number : new.side.number ≡ old.side.number
  pub can : CanClose gate library_and_books new
  pub works : WorksOn gate library_and_books (releases round old.side.number done) old new lines lines'

pub releasing_none : (gate : Gates) (library_and_books : LibraryAndBooks) (round : ℕ) (t : ScriptThread Seated) (lines : List OutLine) → CanClose gate library_and_books t → Releasing gate library_and_books round t t lines lines
releasing_none gate library_and_books round t lines can = record {
  done = [];
  left = open_holds t.side.mine.seen t.side.number;
  whole = refl;
  standing = refl;
  number = refl;
  can = can;
  works = works_none gate library_and_books t lines;
}

first_there : (h : Handle) (held : List HeldData) → IsFirst h held → 1 ≤ length held
first_there h [] first = absurd first
first_there h (x ∷ held) first = omega arith

-- the first standing Hold can be given up
pub can_release : (gate : Gates) (library_and_books : LibraryAndBooks) (round : ℕ) (t : ScriptThread Seated) (h : Handle) → CanClose gate library_and_books t → IsFirst h t.side.holds.items
    → CanAdd gate library_and_books t (closing_turn round t.side.number (Releases h))
can_release gate library_and_books round t h can first =
    let some : 1 ≤ length t.side.holds.items = first_there h t.side.holds.items first in
    let quota = can.calls.calls.quota in
    let asks = can.calls.asks.quota in
    let few = can.few in
    record {
      numbered = can.numbered;
      installable = can.installable;
      opening = can.opening;
      calls = record {
        calls = record { seated = can.calls.calls.seated; quota = omega arith };
        asks = record { seated = can.calls.asks.seated; quota = omega arith };
        agree = can.calls.agree;
      };
      few = omega arith;
      own = refl;
      fits = λ b. (tt, tt);
    }

-- the first of the standing Holds
pub record FirstOf (h : Handle) (left : List OpenHold) : Type 0 where
  pub hold : OpenHold
  pub others : List OpenHold
  pub whole : left ≡ hold ∷ others
  pub handle : h ≡ hold.handle

first_of : (h : Handle) (left : List OpenHold) → IsFirst h (handed_out left) → FirstOf h left
first_of h [] first = absurd first
first_of h (o ∷ os) first = record { hold = o; others = os; whole = refl; handle = first }

first_open : (gate : Gates) (s : Seated) (h : Handle) (left : List OpenHold) → IsSeatedAt gate.locales s s.mine.seen → open_holds s.mine.seen s.number ≡ left → IsFirst h s.holds.items → FirstOf h left
first_open gate s h left at standing first = first_of h left (subst (IsFirst h) (at.knows.holds ∙ ap handed_out standing) first)

abbrev pub release_turn : ℕ → ScriptThread Seated → Handle → Turn
release_turn round t h = closing_turn round t.side.number (Releases h)

left_by : (gate : Gates) (library_and_books : LibraryAndBooks) (round : ℕ) (mid new : ScriptThread Seated) (lines lines' : List OutLine) (h : Handle) (left : List OpenHold) (f : FirstOf h left)
    → IsSeatedAt gate.locales mid.side mid.side.mine.seen → open_holds mid.side.mine.seen mid.side.number ≡ left → Adds gate library_and_books (release_turn round mid h) mid new lines lines' → LeftBy gate mid new f.others
left_by gate library_and_books round mid new lines lines' h left f at standing a =
    released gate library_and_books round mid new lines lines' f.hold f.others at (standing ∙ f.whole)
    (subst (λ (g : Handle). Adds gate library_and_books (release_turn round mid g) mid new lines lines') f.handle a)

count_holds : (gate : Gates) (s : Seated) (left : List OpenHold) → IsSeatedAt gate.locales s s.mine.seen → open_holds s.mine.seen s.number ≡ left → length s.holds.items ≡ length left
count_holds gate s left at standing = ap (λ (hs : List HeldData). length hs) (at.knows.holds ∙ ap handed_out standing) ∙ length-map left held_data

-- one Hold less is standing
pub one_less : (gate : Gates) (library_and_books : LibraryAndBooks) (round : ℕ) (old mid new : ScriptThread Seated) (lines lines' lines'' : List OutLine) (h : Handle) → IsFirst h mid.side.holds.items
    → Releasing gate library_and_books round old mid lines lines' → Adds gate library_and_books (release_turn round mid h) mid new lines' lines'' → length new.side.holds.items + 1 ≡ length mid.side.holds.items
one_less gate library_and_books round old mid new lines lines' lines'' h first r a =
    let at = r.can.calls.calls.seated in
    let f = first_open gate mid.side h r.left at r.standing first in
    let l = left_by gate library_and_books round mid new lines' lines'' h r.left f at r.standing a in
    let before : length mid.side.holds.items ≡ length (f.hold ∷ f.others) = count_holds gate mid.side (f.hold ∷ f.others) at (r.standing ∙ f.whole) in
    let after : length new.side.holds.items ≡ length f.others = count_holds gate new.side f.others l.seated l.holds in
    omega arith

pub releasing_on : (gate : Gates) (library_and_books : LibraryAndBooks) (round : ℕ) (old mid new : ScriptThread Seated) (lines lines' lines'' : List OutLine) (h : Handle) → IsFirst h mid.side.holds.items
    → Releasing gate library_and_books round old mid lines lines' → Adds gate library_and_books (release_turn round mid h) mid new lines' lines'' → Releasing gate library_and_books round old new lines lines''
releasing_on gate library_and_books round old mid new lines lines' lines'' h first r a =
    let at = r.can.calls.calls.seated in
    let f = first_open gate mid.side h r.left at r.standing first in
    let l = left_by gate library_and_books round mid new lines' lines'' h r.left f at r.standing a in
    let less : length new.side.holds.items + 1 ≡ length mid.side.holds.items = one_less gate library_and_books round old mid new lines lines' lines'' h first r a in
    let quota = r.can.calls.calls.quota in
    let asks = r.can.calls.asks.quota in
    let asked : length new.side.reader.calls ≡ length mid.side.reader.calls = same_calls_long gate.catalogs mid.side new.side r.can.calls.asks.seated l.asking a.adds.number in
    let few = r.can.few in
    let more = a.adds.lines in
    let calls = l.calls in
    let n : ℕ = old.side.number in
    let own : release_turn round mid h ≡ closing_turn round n (Releases f.hold.handle) =
    ap (λ (k : ℕ). closing_turn round k (Releases h)) r.number ∙ ap (λ (g : Handle). closing_turn round n (Releases g)) f.handle in
    let turns : releases round n r.done ++ release_turn round mid h ∷ [] ≡ releases round n (r.done ++ f.hold ∷ []) =
    ap (λ (t : Turn). releases round n r.done ++ t ∷ []) own
    ∙ sym (map-append (λ (o : OpenHold). closing_turn round n (Releases o.handle)) r.done (f.hold ∷ [])) in
    record {
      done = r.done ++ f.hold ∷ [];
      left = f.others;
      whole = r.whole ∙ ap (λ (os : List OpenHold). r.done ++ os) f.whole ∙ sym (append_assoc r.done (f.hold ∷ []) f.others);
      standing = l.holds;
      number = a.adds.number ∙ r.number;
      can = record {
        numbered = r.can.numbered;
        installable = r.can.installable;
        opening = r.can.opening;
        calls = record {
          calls = record { seated = l.seated; quota = omega arith };
          asks = record { seated = asking_same gate.catalogs new.side mid.side.reader.seen l.asking; quota = omega arith };
          agree = r.can.calls.agree;
        };
        few = omega arith;
      };
      works = subst (λ (ts : List Turn). WorksOn gate library_and_books ts old new lines lines'') turns
          (works_one_more gate library_and_books (releases round n r.done) (release_turn round mid h) old mid new lines lines' lines'' r.works refl a);
    }

none_left : (left : List OpenHold) → [] ≡ handed_out left → left ≡ []
none_left [] is = refl
none_left (o ∷ os) is = absurd (cc is)

open_none : (gate : Gates) (s : Seated) → IsSeatedAt gate.locales s s.mine.seen → s.holds.items ≡ [] → open_holds s.mine.seen s.number ≡ []
open_none gate s at empty = none_left (open_holds s.mine.seen s.number) (sym empty ∙ at.knows.holds)

pub gives_up : (gate : Gates) (library_and_books : LibraryAndBooks) (round : ℕ) (old new : ScriptThread Seated) (lines lines' : List OutLine) → new.side.holds.items ≡ []
    → Releasing gate library_and_books round old new lines lines' → GivesUp gate library_and_books round old new lines lines'
gives_up gate library_and_books round old new lines lines' empty r =
    let none : r.left ≡ [] = sym r.standing ∙ open_none gate new.side r.can.calls.calls.seated empty in
    let all : open_holds old.side.mine.seen old.side.number ≡ r.done = r.whole ∙ ap (λ (os : List OpenHold). r.done ++ os) none ∙ append-nil r.done in
    record {
      can = r.can;
      empty = empty;
      number = r.number;
      works = subst (λ (os : List OpenHold). WorksOn gate library_and_books (releases round old.side.number os) old new lines lines') (sym all) r.works;
    }

-- ---- the end of a thread

-- a thread without an standing Hold holds nothing, and may make its last call
pub holds_nothing : (gate : Gates) (library_and_books : LibraryAndBooks) (t : ScriptThread Seated) → CanClose gate library_and_books t → t.side.holds.items ≡ [] → (h : Handle) → holds t.side.mine h ≡ false
holds_nothing gate library_and_books t can empty h =
    let at = can.calls.calls.seated in
    let s : Seated = t.side in
    sym (holds_of gate.locales.terms.setting s.mine.seen at.in_order.legal s.mine.number h)
    ∙ ap (λ (n : ℕ). list_any (is_of h) (open_holds s.mine.seen n)) at.knows.number
    ∙ ap (λ (os : List OpenHold). list_any (is_of h) os) (open_none gate s at empty)

front_timed : (ts us : List Timed) → AreTimed (ts ++ us) → AreTimed ts
front_timed [] us timed = tt
front_timed (t ∷ []) us timed = (omega arith, tt)
front_timed (t ∷ u ∷ ts) us timed = (timed.0, front_timed (u ∷ ts) us timed.1)

-- the line of a thread's end
abbrev pub end_line : ℕ → ScriptThread Seated → ℕ → OutLine
end_line round t place = line (record { round = round; thread = t.side.number; index = t.lines + 1 }) (places.One place) None said.Ended

module _ (gate : Gates) (plan : PlanData) (round : ℕ) (mid : ScriptThread Seated) (seat : Caller Setting (ops.Op Share) (replies.Reply Share)) (cached place : ℕ) (made : List Timed) where
  -- the lines with that of the end
  ended_lines : IsWorker gate plan mid made → Answered gate.locales mid.side.mine (thread_of cached seat) End place Ended → IsInOrder gate.locales.terms (thread_of cached seat)
      → HasMade gate.locales.terms plan (thread_of 0 seat) (made_line Ends (end_line round mid (length (before (thread_of cached seat)))) (length (before (thread_of cached seat))) (length (before (thread_of cached seat))) None not_asked ∷ made)
  ended_lines worker a is =
      let c : Setting = gate.locales.terms.setting in
      let t : ℕ = mid.side.number in
      let S : History = mid.side.mine.seen in
      let at : LineCaller = record { round = round; thread = t; index = mid.lines + 1 } in
      let first : History = before (thread_of cached seat) in
      let number : mid.side.mine.number ≡ t = worker.seated.knows.number in
      let f : MayFollow c t first S = record {
        later = a.later;
        legal = legal_before gate.locales mid.side.mine (thread_of cached seat) End place Ended is a;
        others = subst (λ (k : ℕ). entries_by k first ≡ entries_by k S) number (others_between gate.locales mid.side.mine (thread_of cached seat) End place Ended worker.seated.in_order is a);
      } in
      let m : Moments = record { seen = S; first = first; second = first; asked = not_asked } in
      let was = worker.made in
      let has : HasLines c plan t S made = subst (λ (k : ℕ). HasLines c plan k S made) number (record { own = was.own; right = was.right; timed = was.timed; places = was.places }) in
      let now : HasLines c plan t (with_call c first t End) (made_line Ends (end_line round mid (length first)) (length first) (length first) None not_asked ∷ made) =
      more_lines c plan at S (calls c plan.library first at categories.All End) (length first) (length first) None not_asked made Ends has (ap (λ (n : ℕ). n + 1) worker.lines)
      (call_step c plan.library (books_of plan) at m categories.All End f) in
      lines_made gate.locales.terms plan t (with_call c first t End) (made_line Ends (end_line round mid (length first)) (length first) (length first) None not_asked ∷ made) (thread_of 0 seat) now
      (sym (a.same.number ∙ number)) (sym (a.seen ∙ ap (λ (k : ℕ). record { who = k; op = End; reply = Ended } ∷ first) number))
      (record { legal = is.legal; callers = is.callers; calls = is.calls; in_reach = is.in_reach })

pub closes : (gate : Gates) (library_and_books : LibraryAndBooks) (plan : PlanData) (round : ℕ) (old mid : ScriptThread Seated) (seat : Caller Setting (ops.Op Share) (replies.Reply Share))
    (made : List Timed) (lines lines' lines'' : List OutLine) → library_and_books_of plan ≡ library_and_books → IsWorker gate plan old made → GivesUp gate library_and_books round old mid lines lines'
    → EndsSeat gate.locales round mid seat lines' lines'' → Closes gate plan round old seat made lines lines''
closes gate library_and_books plan round old mid seat made lines lines' lines'' same worker g e =
    let n : ℕ = old.side.number in
    let a = e.answered in
    let first : History = before (thread_of e.cached seat) in
    let w = g.works plan made same worker in
    let m : Timed = made_line Ends (end_line round mid (length first)) (length first) (length first) None not_asked in
    let all = ended_lines gate plan round mid seat e.cached e.place (w.more ++ made) w.worker a e.in_order in
    let line_is : end_line round mid e.place ≡ m.task_line.line = ap (end_line round mid) a.place_is in
    let behind = longer first mid.side.mine.seen a.later in
    let since = longer mid.side.mine.seen old.side.mine.seen w.later in
    record {
      more = m ∷ w.more;
      added = e.added ∙ ap (λ (x : OutLine). lines' ++ x ∷ []) line_is ∙ ap (λ (ls : List OutLine). ls ++ m.task_line.line ∷ []) w.added
          ∙ append_assoc lines (reverse (lines_in w.more)) (m.task_line.line ∷ []) ∙ ap (λ (ls : List OutLine). lines ++ ls) (sym (reverse-append (m.task_line.line ∷ []) (lines_in w.more)));
      turns = ap (λ (k : ℕ). closing_turn round k Ends ∷ turns_made w.more) g.number
          ∙ ap (λ (ts : List Turn). closing_turn round n Ends ∷ ts) w.turns
          ∙ sym (reverse-append (releases round n (open_holds old.side.mine.seen n)) (closing_turn round n Ends ∷ []));
      timed = front_timed (m ∷ w.more) made all.timed;
      since = All-cons (λ (x : Timed). length old.side.mine.seen ≤ x.moment) m w.more (omega arith) w.since;
      later = goes_further (thread_of 0 seat).seen mid.side.mine.seen old.side.mine.seen
          (subst (λ (H : History). GoesOnFrom H mid.side.mine.seen) (sym a.seen) (goes_one_more (record { who = mid.side.mine.number; op = End; reply = Ended }) first mid.side.mine.seen a.later)) w.later;
      made = all;
    }
