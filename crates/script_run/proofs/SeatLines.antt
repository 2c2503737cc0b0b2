-- What a turn leaves of a thread of the script, and what several turns leave.
use Rattle.std.proofs.Common.{◌≡◌, ℕ, ◌+◌, ◌≤◌, Bool, true, cond, not, List, [], ◌∷◌, ◌++◌, length, map, Option, Some, None, Result, Ok, Err, refl, sym, ap, ◌∙◌, subst, arith, eq-eqb, append_assoc, append-nil}
use Rattle.std.specs.Prelude.{◌==◌, ◌||◌, if◌then◌else◌, filter, reverse}
use Rattle.std.specs.List.{list_any}
use Rattle.std.proofs.lemmas.List.{reverse-append}
use Rattle.std.proofs.lemmas.List.Elements.{All-nil, All-cons, All-weaker}
use Rattle.turn_gate.specs.declared.entry.Terms.{Terms}
use Rattle.lc_base.specs.declared.handle.Handle.{Handle}
use Rattle.lc_base.specs.declared.handle.Named.TheVariants.{Of}
use Rattle.handle_table.specs.declared.op.Refusal.TheVariants.{NotHeld}
use Rattle.handle_table.specs.Entry.{Op, Release, Reply, Released, History, Setting}
use Rattle.handle_table.specs.History.{holding}
use Rattle.handle_table.specs.Answer.{answer, first_reason, unless}
use Rattle.handle_table.proofs.Numbering.{same_itself}
use Rattle.thread_current.specs.Thread.{Thread, IsInOrder, GoesOnFrom, entries_by}
use Rattle.script_out.specs.declared.output.OutLine.{OutLine}
use Rattle.script_out.specs.declared.output.Why.{Why}
use Rattle.script_lines.specs.declared.thread.Thread.{Thread as ScriptThread}
use Rattle.script_wishes.specs.declared.holds.OpenHold.{OpenHold}
use Rattle.script_wishes.specs.Holds.{without, holds_after, open_holds, is_of}
use Rattle.script_lines.specs.Lines.{Caller}
use Rattle.script_lines.specs.Outcome.{Outcome, with_call}
use Rattle.script_lines.specs.Thread.{BindsAs}
use Rattle.script_wishes.specs.Turns.{Releases, Turn, closing_turn}
use Rattle.script_wishes.specs.Variables.{Variable, Bindings, bound, Bound, bindings_of, bindings_after}
use Rattle.script_wishes.specs.Wishes.{Wish, Calls, ReadsOf, Reads, AsksSelection, AsksName, OpensCatalog, GetsMessage, ClosesCatalog, wish_of}
use Rattle.script_lines.specs.Board.{Moments, catalog_op, granted_at, AreMomentsOf, LeftCatalogs, LeavesTurn, turn_caller}
use Rattle.catalog_handles.specs.Entry as catalogs
use Rattle.catalog_handles.specs.Entry.{History as CatalogHistory}
use Rattle.catalog_handles.specs.Reader as readers
use Rattle.catalog_handles.proofs.Meeting as meeting
use Rattle.script_lines.specs.Catalogs.{Asked, catalog_setting}
use Rattle.script_plan.specs.Plan.{PlanData, books_of}
use Rattle.script_plan.specs.Prints.{bound_by}
use Rattle.script_seats.specs.declared.seated.Seated.{Seated}
use Rattle.script_seats.specs.Seated.{Gates, IsSeatedAt, IsAskingAt, MayFollow, MayFollowAsked, AreApart}
use Rattle.script_run.specs.Timed.{Timed, task_lines, lines_in, turn_made, turns_made, asked_in}
use Rattle.script_run.specs.Beside.{LibraryAndBooks, library_and_books_of, HasMade, IsWorker, Adds, HasAskedSince, Works, WorksOn}
use Rattle.script_run.proofs.AskedSeen.{AsksNext, asks_next}
use Rattle.script_seats.proofs.HoldLists.{holds_of, apart_holds, kept_all}
use Rattle.script_seats.proofs.SeatLemmas.{seated_as}
use Rattle.script_run.proofs.LineSteps.{IsStep, moment_of, stamp_by, granted_step, longer, goes_further, follow_holds, own_entry, own_holds}
use Rattle.script_run.proofs.MadeLines.{HasLines, made_line, more_lines}

-- ---- one turn

moments_seen : (c : Setting) (later : History → History → Type 0) (t : ℕ) (H : History) (wish : Result Wish Why) (m : Moments) → AreMomentsOf c later t H wish m → m.seen ≡ H
moments_seen c later t H (Err why) m of = of.seen
moments_seen c later t H (Ok (Calls chosen op)) m of = of.seen
moments_seen c later t H (Ok (ReadsOf n read)) m of = of.moments.seen
moments_seen c later t H (Ok (Reads read)) m of = of.seen
moments_seen c later t H (Ok AsksSelection) m of = of.seen
moments_seen c later t H (Ok (AsksName chosen)) m of = of.seen
moments_seen c later t H (Ok (OpensCatalog name)) m of = of.moments.seen
moments_seen c later t H (Ok (GetsMessage h set message default)) m of = of.moments.seen
moments_seen c later t H (Ok (ClosesCatalog h)) m of = of.moments.seen

pub lines_made : (terms : Terms Setting) (plan : PlanData) (t : ℕ) (S : History) (made : List Timed) (thread : Thread) → HasLines terms.setting plan t S made
    → t ≡ thread.number → S ≡ thread.seen → IsInOrder terms thread → HasMade terms plan thread made
lines_made terms plan t S made thread has number seen is =
    let now = subst (λ (H : History). HasLines terms.setting plan thread.number H made) seen (subst (λ (k : ℕ). HasLines terms.setting plan k S made) number has) in
    record { in_order = is; own = now.own; right = now.right; timed = now.timed; places = now.places }

-- one more line of a thread of the script
pub record AddsRight (gate : Gates) (plan : PlanData) (asked : Turn) (old new : ScriptThread Seated) (made : List Timed) (lines lines' : List OutLine) : Type 0 where
  pub newest : Timed
  pub added : lines' ≡ lines ++ newest.task_line.line ∷ []
  pub turn : turn_made newest ≡ asked
  pub since : length old.side.mine.seen ≤ newest.moment
  pub later : GoesOnFrom new.side.mine.seen old.side.mine.seen
  pub asked_since : HasAskedSince (length old.side.reader.seen) newest
  pub asked_later : readers.GoesOnFrom new.side.reader.seen old.side.reader.seen
  pub worker : IsWorker gate plan new (newest ∷ made)

-- where it leaves a thread with this number at the catalogs, and the stamp of what they have answered, if anything
abbrev LeftWith : (gate : Gates) (number : ℕ) (new : Seated) (M : CatalogHistory) (op : Option catalogs.Op) (low high : ℕ) (asked : Asked) (moment stamp : ℕ) → ℕ → Type 0
LeftWith gate number new M op low high asked moment stamp t =
    let c : Setting = gate.locales.terms.setting in
    (left : LeftCatalogs (catalog_setting c) (MayFollowAsked c number) (IsAskingAt gate.catalogs new) t M op low high asked)
    × (stamp ≡ stamp_by (catalog_setting c) (MayFollowAsked c number) (IsAskingAt gate.catalogs new) M t low high asked op left moment)

-- the step of a turn, and where it leaves the thread
record Stepped (gate : Gates) (plan : PlanData) (turn : Turn) (old new : ScriptThread Seated) (made : List Timed) (l : OutLine) : Type 0 where
  done : Outcome
  moment : ℕ
  stamp : ℕ
  line : l ≡ done.line
  op : Option catalogs.Op
  asked : Asked
  now_at : IsSeatedAt gate.locales new.side done.history
  step : IsStep gate.locales.terms.setting plan.library (books_of plan) (turn_caller old.lines turn) (wish_of plan.library (bindings_of turn.thread (bound_by (task_lines made))) turn.task) old.side.mine.seen done moment stamp op asked
  low : ℕ
  high : ℕ
  left : LeftWith gate old.side.number new.side old.side.reader.seen op low high asked moment stamp old.side.number

stepped : (gate : Gates) (plan : PlanData) (turn : Turn) (old new : ScriptThread Seated) (made : List Timed) (l : OutLine) → turn.thread ≡ old.side.number
    → LeavesTurn gate.locales.terms.setting plan.library (books_of plan) (MayFollow gate.locales.terms.setting old.side.number) (MayFollowAsked gate.locales.terms.setting old.side.number)
    (IsSeatedAt gate.locales new.side) (IsAskingAt gate.catalogs new.side) old.side.mine.seen old.side.reader.seen (bound_by (task_lines made)) old.lines turn l
    → Stepped gate plan turn old new made l
stepped gate plan turn old new made l own leaves =
    let c : Setting = gate.locales.terms.setting in
    let at : Caller = turn_caller old.lines turn in
    let S : History = old.side.mine.seen in
    let wish : Result Wish Why = wish_of plan.library (bindings_of turn.thread (bound_by (task_lines made))) turn.task in
    let m : Moments = leaves.0 in
    let of : AreMomentsOf c (MayFollow c turn.thread) turn.thread S wish m = subst (λ (k : ℕ). AreMomentsOf c (MayFollow c k) turn.thread S wish m) (sym own) leaves.1 in
    let done : Outcome = granted_at c plan.library (books_of plan) m at wish in
    let op : Option catalogs.Op = catalog_op c plan.library (books_of plan) m at.thread wish in
    let moment : ℕ = moment_of m at wish in
    let stamp : ℕ = stamp_by (catalog_setting c) (MayFollowAsked c old.side.number) (IsAskingAt gate.catalogs new.side) old.side.reader.seen at.thread (length m.first) (length m.second) m.asked op leaves.3 moment in
    record {
      done = done;
      moment = moment;
      stamp = stamp;
      op = op;
      asked = m.asked;
      low = length m.first;
      high = length m.second;
      left = subst (LeftWith gate old.side.number new.side old.side.reader.seen op (length m.first) (length m.second) m.asked moment stamp) own (leaves.3, refl);
      line = leaves.2.line;
      now_at = leaves.2.now_at;
      step = subst (λ (H : History). IsStep c plan.library (books_of plan) at wish H done moment stamp op m.asked) (moments_seen c (MayFollow c turn.thread) turn.thread S wish m of)
          (granted_step (catalog_setting c) (MayFollowAsked c old.side.number) (IsAskingAt gate.catalogs new.side) old.side.reader.seen c plan.library (books_of plan) at m wish S of leaves.3);
    }

step_right : (gate : Gates) (plan : PlanData) (turn : Turn) (old new : ScriptThread Seated) (lines lines' : List OutLine) (made : List Timed) → turn.thread ≡ old.side.number
    → IsWorker gate plan old made → (a : Adds gate (library_and_books_of plan) turn old new lines lines') → Stepped gate plan turn old new made a.line → AddsRight gate plan turn old new made lines lines'
step_right gate plan turn old new lines lines' made own worker a s =
    let c : Setting = gate.locales.terms.setting in
    let at : Caller = turn_caller old.lines turn in
    let S : History = old.side.mine.seen in
    let W : History = s.done.history in
    let l : OutLine = s.done.line in
    let m : Timed = made_line turn.task l s.moment s.stamp s.op s.asked in
    let was = worker.made in
    let number : old.side.mine.number ≡ turn.thread = worker.seated.knows.number ∙ sym own in
    let has : HasLines c plan turn.thread S made = subst (λ (k : ℕ). HasLines c plan k S made) number (record { own = was.own; right = was.right; timed = was.timed; places = was.places }) in
    let now : HasLines c plan turn.thread W (m ∷ made) = more_lines c plan at S s.done s.moment s.stamp s.op s.asked made turn.task has (ap (λ (n : ℕ). n + 1) worker.lines) s.step in
    let seen : W ≡ new.side.mine.seen = sym s.now_at.knows.seen in
    let mine : turn.thread ≡ new.side.mine.number = own ∙ sym a.adds.number ∙ sym s.now_at.knows.number in
    let thread : l.thread ≡ old.side.number = ap (λ (x : Caller). x.thread) s.step.caller ∙ own in
    let calls_new : length new.side.mine.calls ≡ length (entries_by turn.thread W) =
    ap (λ (H : History). length H) (sym s.now_at.in_order.calls ∙ ap (λ (k : ℕ). entries_by k new.side.mine.seen) (sym mine) ∙ ap (entries_by turn.thread) (sym seen)) in
    let holds_new : length (open_holds new.side.mine.seen new.side.number) ≡ length (open_holds W turn.thread) =
    ap (λ (H : History). length (open_holds H new.side.number)) (sym seen) ∙ ap (λ (k : ℕ). length (open_holds W k)) (a.adds.number ∙ sym own) in
    let calls_old : length old.side.mine.calls ≡ length (entries_by turn.thread S) =
    ap (λ (H : History). length H) (sym worker.seated.in_order.calls ∙ ap (λ (k : ℕ). entries_by k S) number) in
    let holds_old : length (open_holds S old.side.number) ≡ length (open_holds S turn.thread) = ap (λ (k : ℕ). length (open_holds S k)) (sym own) in
    let few_old = worker.few in
    let few_step = s.step.few in
    let more : new.lines ≡ old.lines + 1 = a.adds.lines in
    let count : old.lines ≡ length made = worker.lines in
    let asks : AsksNext gate.catalogs old.side new.side s.op s.asked made m =
    asks_next c gate.catalogs old.side new.side s.op s.asked s.low s.high s.moment made m worker.agree worker.asking worker.asked a.adds.number refl refl thread s.left.0 s.left.1
    in
    let bounds = bound_by (task_lines made) in
    let bound = a.adds.variables bounds worker.variables in
    record {
      newest = m;
      added = a.added ∙ ap (λ (x : OutLine). lines ++ x ∷ []) s.line;
      turn = ap (λ (x : Caller). record { round = x.round; thread = x.thread; task = turn.task }) s.step.caller;
      since = s.step.since;
      later = subst (λ (H : History). GoesOnFrom H S) seen s.step.later;
      asked_since = asks.since;
      asked_later = asks.later;
      worker = record {
        seated = seated_as gate.locales new.side W new.side.mine.seen seen s.now_at;
        asking = asks.asking;
        agree = worker.agree;
        asked = asks.has;
        made = lines_made gate.locales.terms plan turn.thread W (m ∷ made) new.side.mine now mine seen s.now_at.in_order;
        few = omega arith;
        variables = subst (λ (k : ℕ). BindsAs k new.variables (bindings_after l.thread bounds turn.task l.reply)) (sym a.adds.number)
            (subst (λ (k : ℕ). BindsAs old.side.number new.variables (bindings_after k bounds turn.task l.reply)) (sym thread)
            (subst (λ (x : OutLine). BindsAs old.side.number new.variables (bindings_after old.side.number bounds turn.task x.reply)) s.line bound));
        lines = omega arith;
      };
    }

pub line_right : (gate : Gates) (library_and_books : LibraryAndBooks) (plan : PlanData) (turn : Turn) (old new : ScriptThread Seated) (lines lines' : List OutLine) (made : List Timed)
    → library_and_books_of plan ≡ library_and_books → turn.thread ≡ old.side.number → IsWorker gate plan old made → Adds gate library_and_books turn old new lines lines' → AddsRight gate plan turn old new made lines lines'
line_right gate library_and_books plan turn old new lines lines' made same own worker adds =
    let a : Adds gate (library_and_books_of plan) turn old new lines lines' = subst (λ (x : LibraryAndBooks). Adds gate x turn old new lines lines') (sym same) adds in
    step_right gate plan turn old new lines lines' made own worker a (stepped gate plan turn old new made a.line own (a.adds.leaves (bound_by (task_lines made)) worker.variables))

-- ---- several turns

pub works_none : (gate : Gates) (library_and_books : LibraryAndBooks) (t : ScriptThread Seated) (lines : List OutLine) → WorksOn gate library_and_books [] t t lines lines
works_none gate library_and_books t lines plan made same worker = record {
  more = [];
  added = sym (append-nil lines);
  turns = refl;
  since = All-nil (λ (m : Timed). length t.side.mine.seen ≤ m.moment);
  later = ([], refl);
  asked_since = All-nil (HasAskedSince (length t.side.reader.seen));
  asked_later = meeting.goes_same t.side.reader.seen;
  worker = worker;
}

-- a line that has asked behind more has asked behind less
pub since_less : (n m : ℕ) (t : Timed) → m ≤ n → HasAskedSince n t → HasAskedSince m t
since_less n m t le since = All-weaker (λ (p : ℕ). n ≤ p) (λ (p : ℕ). m ≤ p) (λ p at. omega (arith, le, at)) (asked_in t) since

works_more : (gate : Gates) (plan : PlanData) (turns : List Turn) (turn : Turn) (old mid new : ScriptThread Seated) (made : List Timed) (lines lines' lines'' : List OutLine)
    → (w : Works gate plan turns old mid made lines lines') → AddsRight gate plan turn mid new (w.more ++ made) lines' lines'' → Works gate plan (turns ++ turn ∷ []) old new made lines lines''
works_more gate plan turns turn old mid new made lines lines' lines'' w r =
    let m : Timed = r.newest in
    let behind = longer mid.side.mine.seen old.side.mine.seen w.later in
    let since = r.since in
    record {
      more = m ∷ w.more;
      added = r.added ∙ ap (λ (ls : List OutLine). ls ++ m.task_line.line ∷ []) w.added ∙ append_assoc lines (reverse (lines_in w.more)) (m.task_line.line ∷ [])
          ∙ ap (λ (ls : List OutLine). lines ++ ls) (sym (reverse-append (m.task_line.line ∷ []) (lines_in w.more)));
      turns = ap (λ (x : Turn). x ∷ turns_made w.more) r.turn ∙ ap (λ (ts : List Turn). turn ∷ ts) w.turns ∙ sym (reverse-append turns (turn ∷ []));
      since = All-cons (λ (x : Timed). length old.side.mine.seen ≤ x.moment) m w.more (omega arith) w.since;
      later = goes_further new.side.mine.seen mid.side.mine.seen old.side.mine.seen r.later w.later;
      asked_since = All-cons (HasAskedSince (length old.side.reader.seen)) m w.more
          (since_less (length mid.side.reader.seen) (length old.side.reader.seen) m (meeting.as_long mid.side.reader.seen old.side.reader.seen w.asked_later) r.asked_since) w.asked_since;
      asked_later = meeting.goes_on mid.side.reader.seen old.side.reader.seen new.side.reader.seen r.asked_later w.asked_later;
      worker = r.worker;
    }

pub works_one_more : (gate : Gates) (library_and_books : LibraryAndBooks) (turns : List Turn) (turn : Turn) (old mid new : ScriptThread Seated) (lines lines' lines'' : List OutLine)
    → WorksOn gate library_and_books turns old mid lines lines' → turn.thread ≡ mid.side.number → Adds gate library_and_books turn mid new lines' lines'' → WorksOn gate library_and_books (turns ++ turn ∷ []) old new lines lines''
works_one_more gate library_and_books turns turn old mid new lines lines' lines'' works own adds plan made same worker =
    let w = works plan made same worker in
    works_more gate plan turns turn old mid new made lines lines' lines'' w (line_right gate library_and_books plan turn mid new lines' lines'' (w.more ++ made) same own w.worker adds)

-- ---- a Release of the first standing Hold

bounds_back : (t : ℕ) (bindings : Bindings) → bindings_of t (map (λ (b : Variable × Handle). record { thread = t; variable = b.0; handle = b.1 }) bindings) ≡ bindings
bounds_back t [] = refl
bounds_back t (b ∷ bindings) =
    let rest = map (λ (x : Variable × Handle). record { thread = t; variable = x.0; handle = x.1 }) bindings in
    let first : Bound = record { thread = t; variable = b.0; handle = b.1 } in
    ap (λ (x : Bool). map (λ (y : Bound). (y.variable, y.handle)) (cond x (first ∷ filter (λ (y : Bound). y.thread == t) rest) (filter (λ (y : Bound). y.thread == t) rest))) (eq-eqb t t refl)
    ∙ ap (λ (bs : Bindings). (b.0, b.1) ∷ bs) (bounds_back t bindings)

-- what giving up the first standing Hold leaves
pub record LeftBy (gate : Gates) (old new : ScriptThread Seated) (left : List OpenHold) : Type 0 where
  pub holds : open_holds new.side.mine.seen new.side.number ≡ left
  pub calls : length new.side.mine.calls ≡ length old.side.mine.calls + 1
  pub seated : IsSeatedAt gate.locales new.side new.side.mine.seen
  pub asking : IsAskingAt gate.catalogs new.side old.side.reader.seen

release_holds : (c : Setting) (t : ℕ) (first : History) (o : OpenHold) (os : List OpenHold) (S : History) → MayFollow c t first S → open_holds S t ≡ o ∷ os → AreApart (o ∷ os)
    → open_holds (with_call c first t (Release (Of o.handle))) t ≡ os
release_holds c t first o os S f standing apart =
    let op : Op = Release (Of o.handle) in
    let before : open_holds first t ≡ o ∷ os = follow_holds c t first S f ∙ standing in
    let there : list_any (is_of o.handle) (o ∷ os) ≡ true = ap (λ (b : Bool). b || list_any (is_of o.handle) os) (same_itself o.handle) in
    let held : holding first t o.handle ≡ true = sym (holds_of c first f.legal t o.handle) ∙ ap (list_any (is_of o.handle)) before ∙ there in
    let accepted : answer c first t op ≡ Released = ap (λ (b : Bool). unless (first_reason ((if b then None else Some NotHeld) ∷ [])) Released) held in
    own_holds c first t op
    ∙ ap (λ (r : Reply). holds_after (open_holds first t) op r) accepted
    ∙ ap (λ (xs : List OpenHold). without xs (Of o.handle)) before
    ∙ ap (λ (b : Bool). cond (not b) (o ∷ without os (Of o.handle)) (without os (Of o.handle))) (same_itself o.handle)
    ∙ kept_all o.handle os apart.0

release_calls : (c : Setting) (t : ℕ) (first S : History) (op : Op) → MayFollow c t first S → length (entries_by t (with_call c first t op)) ≡ length (entries_by t S) + 1
release_calls c t first S op f =
    ap (λ (H : History). length H) (own_entry c first t op ∙ ap (λ (H : History). record { who = t; op = op; reply = answer c first t op } ∷ H) f.others) ∙ (omega arith)

pub released : (gate : Gates) (library_and_books : LibraryAndBooks) (round : ℕ) (old new : ScriptThread Seated) (lines lines' : List OutLine) (o : OpenHold) (os : List OpenHold)
    → IsSeatedAt gate.locales old.side old.side.mine.seen → open_holds old.side.mine.seen old.side.number ≡ o ∷ os
    → Adds gate library_and_books (closing_turn round old.side.number (Releases o.handle)) old new lines lines' → LeftBy gate old new os
released gate library_and_books round old new lines lines' o os at standing a =
    let c : Setting = gate.locales.terms.setting in
    let t : ℕ = old.side.number in
    let S : History = old.side.mine.seen in
    let turn : Turn = closing_turn round t (Releases o.handle) in
    let back : bindings_of t (map (λ (b : Variable × Handle). record { thread = t; variable = b.0; handle = b.1 }) old.variables) ≡ old.variables = bounds_back t old.variables in
    let leaves = a.adds.leaves (map (λ (b : Variable × Handle). record { thread = t; variable = b.0; handle = b.1 }) old.variables) (λ v. ap (λ (bs : Bindings). bound bs v) (sym back)) in
    let m : Moments = leaves.0 in
    let f : MayFollow c t m.first S = subst (MayFollow c t m.first) leaves.1.seen leaves.1.first in
    let now = leaves.2.now_at in
    let op : Op = Release (Of o.handle) in
    let W : History = with_call c m.first t op in
    let apart : AreApart (o ∷ os) = subst AreApart standing (apart_holds c S at.in_order.legal t) in
    let mine : new.side.mine.number ≡ t = now.knows.number ∙ a.adds.number in
    let calls_new : length new.side.mine.calls ≡ length (entries_by t W) =
    ap (λ (H : History). length H) (sym now.in_order.calls ∙ ap (λ (k : ℕ). entries_by k new.side.mine.seen) mine ∙ ap (entries_by t) now.knows.seen) in
    let calls_old : length old.side.mine.calls ≡ length (entries_by t S) =
    ap (λ (H : History). length H) (sym at.in_order.calls ∙ ap (λ (k : ℕ). entries_by k S) at.knows.number) in
    record {
      holds = ap (λ (H : History). open_holds H new.side.number) now.knows.seen ∙ ap (open_holds W) a.adds.number ∙ release_holds c t m.first o os S f standing apart;
      calls = calls_new ∙ release_calls c t m.first S op f ∙ ap (λ (n : ℕ). n + 1) (sym calls_old);
      seated = seated_as gate.locales new.side W new.side.mine.seen (sym now.knows.seen) now;
      asking = leaves.3;
    }
