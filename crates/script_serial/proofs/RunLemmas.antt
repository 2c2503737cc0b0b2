-- A script after some of its turns.
use Rattle.std.proofs.Common.{◌≡◌, ℕ, suc, ◌+◌, ◌*◌, ◌^◌, ◌<◌, ◌≤◌, ◌-◌, Bool, cond, List, [], ◌∷◌, ◌++◌, length, map, drop, get_or, Option, Some, None, Result, sym, ap, subst, ◌∙◌, add-one, arith, length-append, inl, inr}
use Rattle.std.specs.Prelude.{◌≢◌, ◌==◌, filter, All, slice_index_or, slice_set}
use Rattle.std.proofs.Math.Seq.{drop-cons}
use Rattle.std.proofs.lemmas.List.{get_or-map, get_or-set_same, get_or-set_other, length-map, length-set}
use Rattle.std.proofs.lemmas.Bool.{ne_eqb}
use Rattle.std.proofs.lemmas.Bool.Decides.{eqb_tells}
use Rattle.category_store.specs.LibraryData.{LibraryData}
use Rattle.category_store.specs.Library.{opening}
use Rattle.lc_base.specs.declared.handle.Handle.{Handle}
use Rattle.handle_table.specs.Entry.{Setting, History}
use Rattle.catalog_handles.specs.Entry.{History as CatalogHistory}
use Rattle.script_out.specs.declared.output.OutLine.{OutLine}
use Rattle.script_out.specs.declared.output.Why.{Why}
use Rattle.script_wishes.specs.declared.turns.Turn.{Turn as LentTurn}
use Rattle.script_wishes.specs.Seen.{turn_seen, TaskFits, TurnFits}
use Rattle.script_wishes.specs.Turns.{Turn}
use Rattle.script_wishes.specs.Variables.{Variable, Bindings, bound, Bound, bindings_of, variable_bound, handle_said, with_binding, bindings_after}
use Rattle.script_wishes.specs.Wishes.{Wish, wish_of}
use Rattle.script_lines.specs.Lines.{Caller}
use Rattle.script_lines.specs.Catalogs.{Books}
use Rattle.script_lines.specs.Outcome.{granted}
use Rattle.script_plan.specs.Serial.{Run, TurnOutcome, lines_of_thread, next_caller, outcome, with_outcome, played}
use Rattle.script_lines.specs.Thread.{BindsAs}
use Rattle.script_lines.specs.Board.{Left, LeavesTurn, turn_caller}
use Rattle.script_serial.specs.Alone.{AloneSideData, Knows, AloneData}
use Rattle.script_serial.specs.Session.{ThreadData, Follows, IsAt, CatalogsAreAt, ops_answered, IsWith, AreAt, IsReady, GoesOn, IsNumberedThread, AreNumbered, CanPlay}
use Rattle.script_serial.proofs.AloneLemmas.{alone, alone_catalogs}
use Rattle.script_serial.proofs.OutcomeLemmas.{granted_thread, one_more_line, no_line_more, knows_granted}

-- ---- what variables stand for

abbrev pair : Bound → Variable × Handle
pair b = (b.variable, b.handle)

other_bound : (b : Bound) (bounds : List Bound) (t : ℕ) → b.thread ≢ t → bindings_of t (b ∷ bounds) ≡ bindings_of t bounds
other_bound b bounds t other =
    let rest : List Bound = filter (λ (x : Bound). x.thread == t) bounds in
    ap (λ (q : Bool). map pair (cond q (b ∷ rest) rest)) (ne_eqb b.thread t other)

-- what another thread's line binds is no concern
with_other : (t : ThreadData) (bounds : List Bound) (who : ℕ) (v : Option Variable) (h : Option Handle) → who ≢ t.side.number → BindsAs t.side.number t.variables bounds → BindsAs t.side.number t.variables (with_binding who bounds v h)
with_other t bounds who None h other is = is
with_other t bounds who (Some v) None other is = is
with_other t bounds who (Some v) (Some h) other is = λ x. is x ∙ sym (ap (λ (bs : Bindings). bound bs x) (other_bound (record { thread = who; variable = v; handle = h }) bounds t.side.number other))

-- ---- one turn

-- whose line the next turn of a thread prints
caller_is : (t : ThreadData) (run : Run) (turn : Turn) → Follows t run → turn.thread ≡ t.side.number → turn_caller t.lines turn ≡ next_caller run turn
caller_is t run turn f own =
    ap (λ (n : ℕ). record { round = turn.round; thread = turn.thread; index = n + 1 }) (f.lines ∙ ap (λ (k : ℕ). lines_of_thread k run.lines) (sym own))

-- a thread that has no turn
pub follows_other : (c : Setting) (library : LibraryData) (books : Books) (run : Run) (t : ThreadData) (turn : Turn) → turn.thread ≢ t.side.number → Follows t run → Follows t (with_outcome run turn (outcome c library books run turn))
follows_other c library books run t turn other f =
    let at : Caller = next_caller run turn in
    let done : TurnOutcome = outcome c library books run turn in
    let whose : done.line.thread ≡ turn.thread = granted_thread c library books run.history run.catalogs at (wish_of library (bindings_of turn.thread run.bindings) turn.task) in
    record {
      knows = knows_granted c library books run.history run.catalogs t.side at (wish_of library (bindings_of turn.thread run.bindings) turn.task) other f.knows;
      variables = with_other t run.bindings turn.thread (variable_bound turn.task) (handle_said done.line.reply) other f.variables;
      lines = f.lines ∙ sym (no_line_more t.side.number run.lines done.line (λ same. other (sym whose ∙ same)));
    }

-- the thread that has it, by what its line leaves
pub follows_own : (c : Setting) (library : LibraryData) (books : Books) (run : Run) (t u : ThreadData) (turn : Turn) → turn.thread ≡ t.side.number → u.side.number ≡ t.side.number → Follows t run
    → Knows u.side (outcome c library books run turn).history
    → BindsAs u.side.number u.variables (bindings_after t.side.number run.bindings turn.task (outcome c library books run turn).line.reply)
    → u.lines ≡ t.lines + 1
    → Follows u (with_outcome run turn (outcome c library books run turn))
follows_own c library books run t u turn own number f knows binds lines =
    let done : TurnOutcome = outcome c library books run turn in
    let whose : done.line.thread ≡ turn.thread = granted_thread c library books run.history run.catalogs (next_caller run turn) (wish_of library (bindings_of turn.thread run.bindings) turn.task) in
    record {
      knows = knows;
      variables = subst (λ (n : ℕ). BindsAs u.side.number u.variables (bindings_after n run.bindings turn.task done.line.reply)) (sym own) binds;
      lines =
          lines
          ∙ ap (λ (n : ℕ). n + 1) (f.lines ∙ ap (λ (n : ℕ). lines_of_thread n run.lines) (sym number))
          ∙ sym (one_more_line u.side.number run.lines done.line (whose ∙ own ∙ sym number));
    }

-- ---- all turns

-- the script after so many turns, and what the turns that are left make of it
pub record PlaysOn (c : Setting) (library : LibraryData) (books : Books) (turns : List Turn) (start : Run) (board : AloneData) (threads : List ThreadData) (lines : List OutLine) (i : ℕ) (run : Run) : Type 0 where
  pub at : AreAt board threads run
  pub printed : run.lines ≡ lines
  pub rest : played c library books run (drop i turns) ≡ played c library books start turns

-- the run after one more turn
abbrev pub next : Setting → LibraryData → Books → Run → Turn → Run
next c library books run turn = with_outcome run turn (outcome c library books run turn)

pub plays_on : (c : Setting) (library : LibraryData) (books : Books) (turns : List Turn) (start : Run) (board board' : AloneData) (threads threads' : List ThreadData) (lines lines' : List OutLine) (i : ℕ) (run : Run) (turn : Turn)
    → i < length turns → turn ≡ get_or turns i turn
    → PlaysOn c library books turns start board threads lines i run
    → lines' ≡ lines ++ (outcome c library books run turn).line ∷ []
    → AreAt board' threads' (next c library books run turn)
    → PlaysOn c library books turns start board' threads' lines' (i + 1) (next c library books run turn)
plays_on c library books turns start board board' threads threads' lines lines' i run turn lt is p pushed at = record {
  at = at;
  printed = ap (λ (ls : List OutLine). ls ++ (outcome c library books run turn).line ∷ []) p.printed ∙ sym pushed;
  rest =
      let cut : drop i turns ≡ turn ∷ drop (i + 1) turns = drop-cons turns i turn lt ∙ ap (λ (q : Turn). q ∷ drop (suc i) turns) (sym is) ∙ ap (λ (n : ℕ). turn ∷ drop n turns) (sym (add-one i)) in
      sym (ap (played c library books run) cut) ∙ p.rest;
}

-- ---- all threads after a turn of one

-- what holds of a list where one element is another one now
elsewhere : {X : Type 0} (P : ℕ → X → Type 0) (xs : List X) (i : ℕ) (x : X) → i < length xs → P i x
    → ((k : ℕ) (d : X) → k < length xs → k ≢ i → P k (slice_index_or xs k d))
    → (k : ℕ) (d : X) → k < length (slice_set xs i x) → P k (slice_index_or (slice_set xs i x) k d)
elsewhere {X} P xs i x lt here others = λ k d l.
    let long : length (slice_set xs i x) ≡ length xs = length-set xs i x in
    elim (eqb_tells k i) [
      | inl same ↦ subst (λ (m : ℕ). P m (slice_index_or (slice_set xs i x) m d)) (sym same.1) (subst (P i) (sym (get_or-set_same xs i x d lt)) here)
      | inr apart ↦ subst (P k) (sym (get_or-set_other xs i k x d apart.1)) (others k d (omega (arith, l, long)) apart.1)
    ]

pub all_follow : (c : Setting) (library : LibraryData) (books : Books) (run : Run) (turn : Turn) (threads : List ThreadData) (u : ThreadData) (lines : ℕ)
    → turn.thread < length threads → AreNumbered lines threads → All (λ (t : ThreadData). Follows t run) threads → Follows u (next c library books run turn)
    → All (λ (t : ThreadData). Follows t (next c library books run turn)) (slice_set threads turn.thread u)
all_follow c library books run turn threads u lines lt numbered follow own =
    elsewhere (λ (k : ℕ) (t : ThreadData). Follows t (next c library books run turn)) threads turn.thread u lt own (λ k d l apart.
    follows_other c library books run (slice_index_or threads k d) turn (λ same. apart (sym (numbered k d l).number ∙ sym same)) (follow k d l))

pub still_numbered : (threads : List ThreadData) (u : ThreadData) (i lines : ℕ) → i < length threads → AreNumbered lines threads → u.side.number ≡ i → u.lines ≤ lines + 1 → AreNumbered (lines + 1) (slice_set threads i u)
still_numbered threads u i lines lt numbered number few =
    elsewhere (IsNumberedThread (lines + 1)) threads i u lt (record { number = number; lines = few }) (λ k d l apart.
    let before = numbered k d l in record { number = before.number; lines = let le = before.lines in omega arith })

-- ---- what a turn leaves

-- a line is that of the turn's outcome, and the board and the thread are at the script after it
pub record IsTurned (c : Setting) (library : LibraryData) (books : Books) (run : Run) (board : AloneData) (t : ThreadData) (turn : Turn) (l : OutLine) : Type 0 where
  pub line : l ≡ (outcome c library books run turn).line
  pub there : IsWith board t (next c library books run turn)

pub turned : (c : Setting) (library : LibraryData) (books : Books) (run : Run) (old new : AloneData) (t u : ThreadData) (turn : Turn) (l : OutLine)
    → turn.thread ≡ t.side.number → u.side.number ≡ t.side.number → u.lines ≡ t.lines + 1
    → ((H : History) (M : CatalogHistory) (bounds : List Bound) → IsAt old.table t.side H → CatalogsAreAt old M → BindsAs t.side.number t.variables bounds
    → LeavesTurn c library books (λ (G K : History). G ≡ K) (λ (N K : CatalogHistory). N ≡ K) (IsAt new.table u.side) (CatalogsAreAt new) H M bounds t.lines turn l)
    → ((bounds : List Bound) → BindsAs t.side.number t.variables bounds → BindsAs t.side.number u.variables (bindings_after t.side.number bounds turn.task l.reply))
    → IsWith old t run → IsTurned c library books run new u turn l
turned c library books run old new t u turn l own number lines leaves binds is =
    let w : Result Wish Why = wish_of library (bindings_of turn.thread run.bindings) turn.task in
    let done : TurnOutcome = outcome c library books run turn in
    let H : History = run.history in
    let M : CatalogHistory = run.catalogs in
    let caller : Caller = turn_caller t.lines turn in
    let here : IsAt old.table t.side H = record { stands = is.stands; knows = is.follows.knows } in
    let all = leaves H M run.bindings here is.catalogs is.follows.variables in
    let left : Left (IsAt new.table u.side) (granted c library books H M caller w) l = alone c library books (IsAt new.table u.side) (CatalogsAreAt new) H M caller w l all in
    let catalogs : CatalogsAreAt new done.catalogs = alone_catalogs c library books (IsAt new.table u.side) (CatalogsAreAt new) H M caller w l all in
    let made : Left (IsAt new.table u.side) (granted c library books H M (next_caller run turn) w) l = subst (λ (a : Caller). Left (IsAt new.table u.side) (granted c library books H M a w) l) (caller_is t run turn is.follows own) left in
    let bound_by_task : BindsAs t.side.number u.variables (bindings_after t.side.number run.bindings turn.task done.line.reply) =
    subst (λ (x : OutLine). BindsAs t.side.number u.variables (bindings_after t.side.number run.bindings turn.task x.reply)) made.line (binds run.bindings is.follows.variables)
    in
    let named : BindsAs u.side.number u.variables (bindings_after t.side.number run.bindings turn.task done.line.reply) =
    subst (λ (n : ℕ). BindsAs n u.variables (bindings_after t.side.number run.bindings turn.task done.line.reply)) (sym number) bound_by_task
    in
    record { line = made.line; there = record { stands = made.now_at.stands; catalogs = catalogs; follows = follows_own c library books run t u turn own number is.follows made.now_at.knows named lines } }

-- a turn takes two steps at most
pub two_steps : (old new : AloneData) (t u : AloneSideData) → new.table.setting ≡ old.table.setting → IsReady 2 old t → ((n : ℕ) → IsReady (n + 2) old t → IsReady n new u) → GoesOn 2 old new
two_steps old new t u same ready leaves =
    let few : ops_answered old + 2 ≤ 2147483647 = ready.steps in
    let rest : ℕ = 2147483647 - (ops_answered old + 2) in
    let after : ops_answered new + rest ≤ 2147483647 = (leaves rest (record { number = ready.number; steps = omega arith })).steps in
    record { setting = same; steps = omega arith }

-- ---- what a turn needs

-- what the turn of a thread asks for
pub record CanTake (library : LibraryData) (board : AloneData) (t : ThreadData) (turn : Turn) : Type 0 where
  pub ready : IsReady 2 board t.side
  pub shelf : board.table.setting.opening ≡ opening library
  pub own : turn.thread ≡ t.side.number
  pub fits : TaskFits board.table.setting.threads turn.task
  pub few : t.lines + 1 < 2 ^ 32

-- the turn at a place
pub turn_at : (turns : List LentTurn) (i : ℕ) (item : LentTurn) → i < length turns → item ≡ get_or turns i item → turn_seen item ≡ get_or (map turn_seen turns) i (turn_seen item)
turn_at turns i item lt is = sym (get_or-map turn_seen turns i item (turn_seen item) lt ∙ ap turn_seen (sym is))

pub fits_at : (threads : ℕ) (turns : List LentTurn) (i : ℕ) (item : LentTurn) → All (TurnFits threads) (map turn_seen turns) → i < length turns → item ≡ get_or turns i item → TurnFits threads (turn_seen item)
fits_at threads turns i item fit lt is =
    let long : length (map turn_seen turns) ≡ length turns = length-map turns turn_seen in
    subst (TurnFits threads) (sym (turn_at turns i item lt is)) (fit i (turn_seen item) (omega arith))

pub can_take : (library : LibraryData) (start board : AloneData) (before threads : List ThreadData) (count lines i : ℕ) (turn : Turn) (d : ThreadData)
    → CanPlay library start before count → GoesOn (2 * i) start board → length threads ≡ length before → AreNumbered (lines + i) threads → lines + count < 2 ^ 32 → i < count
    → TurnFits (length before) turn → CanTake library board (get_or threads turn.thread d) turn
can_take library start board before threads count lines i turn d can on same numbered few lt fits =
    let t : ThreadData = get_or threads turn.thread d in
    let thread : turn.thread < length before = fits.thread in
    let within : turn.thread < length threads = omega arith in
    let own : IsNumberedThread (lines + i) turn.thread t = numbered turn.thread d within in
    let number : t.side.number ≡ turn.thread = own.number in
    let most : t.lines ≤ lines + i = own.lines in
    let many : board.table.setting.threads ≡ length before = ap (λ (s : Setting). s.threads) on.setting ∙ can.threads in
    let made : ops_answered board ≤ ops_answered start + 2 * i = on.steps in
    let room : ops_answered start + 2 * count ≤ 2147483647 = can.steps in
    record {
      ready = record { number = omega arith; steps = omega arith };
      shelf = ap (λ (s : Setting). s.opening) on.setting ∙ can.opening;
      own = sym number;
      fits = subst (λ (n : ℕ). TaskFits n turn.task) (sym many) fits.task;
      few = omega arith;
    }

-- the turn at a place of a list that can be played
pub taking : (library : LibraryData) (start board : AloneData) (before threads : List ThreadData) (turns : List LentTurn) (lines now i : ℕ) (item : LentTurn) (d : ThreadData)
    → CanPlay library start before (length turns) → GoesOn (2 * i) start board → length threads ≡ length before → AreNumbered now threads → now ≡ lines + i → lines + length turns < 2 ^ 32
    → All (TurnFits (length before)) (map turn_seen turns) → i < length turns → item ≡ get_or turns i item → CanTake library board (get_or threads item.thread d) (turn_seen item)
taking library start board before threads turns lines now i item d can on same numbered printed few fit lt is =
    can_take library start board before threads (length turns) lines i (turn_seen item) d can on same (subst (λ (n : ℕ). AreNumbered n threads) printed numbered) few lt (fits_at (length before) turns i item fit lt is)

-- ---- what the loop over turns keeps

pub more_lines : (lines lines' : List OutLine) (l : OutLine) (n i : ℕ) → lines' ≡ lines ++ l ∷ [] → length lines ≡ n + i → length lines' ≡ n + (i + 1)
more_lines lines lines' l n i pushed same =
    let long : length (lines ++ l ∷ []) ≡ length lines + 1 = length-append lines (l ∷ []) in
    let all : length lines' ≡ length (lines ++ l ∷ []) = ap (λ (ls : List OutLine). length ls) pushed in
    omega arith

pub numbered_on : (threads : List ThreadData) (d u : ThreadData) (k : ℕ) (lines lines' : List OutLine) (l : OutLine) → lines' ≡ lines ++ l ∷ [] → k < length threads → AreNumbered (length lines) threads
    → u.side.number ≡ (get_or threads k d).side.number → u.lines ≡ (get_or threads k d).lines + 1 → AreNumbered (length lines') (slice_set threads k u)
numbered_on threads d u k lines lines' l pushed lt numbered number more =
    let long : length (lines ++ l ∷ []) ≡ length lines + 1 = length-append lines (l ∷ []) in
    let all : length lines' ≡ length lines + 1 = ap (λ (ls : List OutLine). length ls) pushed ∙ long in
    let own : IsNumberedThread (length lines) k (get_or threads k d) = numbered k d lt in
    let most : (get_or threads k d).lines ≤ length lines = own.lines in
    subst (λ (n : ℕ). AreNumbered n (slice_set threads k u)) (sym all) (still_numbered threads u k (length lines) lt numbered (number ∙ own.number) (omega arith))

pub goes_on : (start board board' : AloneData) (i : ℕ) → GoesOn (2 * i) start board → GoesOn 2 board board' → GoesOn (2 * (i + 1)) start board'
goes_on start board board' i before after =
    let made : ops_answered board ≤ ops_answered start + 2 * i = before.steps in
    let more : ops_answered board' ≤ ops_answered board + 2 = after.steps in
    record { setting = after.setting ∙ before.setting; steps = omega arith }

-- the script after one more turn, where the thread at its place has left this
pub after_turn : (library : LibraryData) (books : Books) (turns : List LentTurn) (start : Run) (c : Setting) (board board' : AloneData) (threads : List ThreadData) (d u : ThreadData) (lines lines' : List OutLine) (l : OutLine) (i most : ℕ) (run : Run) (item : LentTurn)
    → board.table.setting ≡ c → i < length turns → item ≡ get_or turns i item → item.thread < length threads → AreNumbered most threads
    → ((r : Run) → IsWith board (get_or threads item.thread d) r → IsTurned board.table.setting library books r board' u (turn_seen item) l)
    → lines' ≡ lines ++ l ∷ []
    → PlaysOn c library books (map turn_seen turns) start board threads lines i run
    → PlaysOn c library books (map turn_seen turns) start board' (slice_set threads item.thread u) lines' (i + 1) (next c library books run (turn_seen item))
after_turn library books turns start c board board' threads d u lines lines' l i most run item same lt is within numbered leaves pushed p =
    let turn : Turn = turn_seen item in
    let long : length (map turn_seen turns) ≡ length turns = length-map turns turn_seen in
    let before : IsWith board (get_or threads item.thread d) run = record { stands = p.at.stands; catalogs = p.at.catalogs; follows = p.at.follow item.thread d within } in
    let after : IsWith board' u (next c library books run turn) = subst (λ (s : Setting). IsWith board' u (next s library books run turn)) same (leaves run before).there in
    let said : l ≡ (outcome c library books run turn).line = subst (λ (s : Setting). l ≡ (outcome s library books run turn).line) same (leaves run before).line in
    plays_on c library books (map turn_seen turns) start board board' threads (slice_set threads item.thread u) lines lines' i run turn (omega (arith, lt, long)) (turn_at turns i item lt is) p
    (pushed ∙ ap (λ (x : OutLine). lines ++ x ∷ []) said)
    (record { stands = after.stands; catalogs = after.catalogs; follow = all_follow c library books run turn threads u most within numbered p.at.follow after.follows })
