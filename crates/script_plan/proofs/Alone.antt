-- What a thread that keeps to itself prints, by its own calls alone; and the lines of a script are that.
use Rattle.std.proofs.Common.{◌≡◌, ℕ, suc, ◌+◌, ◌<◌, ◌≤◌, Bool, true, false, cond, List, [], ◌∷◌, ◌++◌, length, map, Option, Some, None, Result, Ok, Err, refl, sym, ap, subst, ◌∙◌, arith, inl, inr, append_assoc}
use Rattle.std.specs.Prelude.{◌==◌, if◌then◌else◌, zip, All}
use Rattle.std.proofs.lemmas.Bool.{eqb-true, eqb-false, eq-eqb, ne_eqb}
use Rattle.std.proofs.lemmas.List.Elements.{All-nil, All-cons, All-head, All-tail, All-append, All-weaker}
use Rattle.mask_compose.specs.Parts.{Parts}
use Rattle.category_store.specs.LibraryData.{LibraryData}
use Rattle.lc_base.specs.declared.handle.Named.{Named}
use Rattle.handle_table.specs.Entry as table
use Rattle.handle_table.specs.Entry.{Entry, History, Setting}
use Rattle.handle_table.specs.Shelf.{posix}
use Rattle.handle_table.specs.History.{sets, selection}
use Rattle.handle_table.specs.Answer.{answer, entry, own}
use Rattle.handle_table.specs.Isolation.{part_of, IsClosed}
use Rattle.handle_table.proofs.Isolated.{answer_apart}
use Rattle.catalog_handles.specs.Entry.{History as CatalogHistory}
use Rattle.script_commands.specs.declared.command.Read.{Read}
use Rattle.script_out.specs.declared.output.OutLine.{OutLine}
use Rattle.script_out.specs.declared.output.Places.{Places}
use Rattle.script_out.specs.declared.output.Places.TheVariants as places
use Rattle.script_out.specs.declared.output.Said.TheVariants as said
use Rattle.script_out.specs.declared.output.Why.{Why}
use Rattle.script_wishes.specs.Turns.{Task}
use Rattle.script_wishes.specs.Variables.{Bound, bindings_of, bindings_after, variable_bound}
use Rattle.script_wishes.specs.Wishes.{Wish, Calls, ReadsOf, Reads, AsksSelection, AsksName, OpensCatalog, GetsMessage, ClosesCatalog, wish_of, ops_of}
use Rattle.script_lines.specs.Lines.{Caller, plain_line, placed_line, object_line, global_read_line, global_name_line}
use Rattle.script_plan.specs.Plan.{PlanData}
use Rattle.script_plan.specs.Isolation.{SaysTheSameTo}
use Rattle.script_plan.specs.Prints.{TaskLine, bound_by, places_in, all_places, up_to_round, PlacedCall, call_of, calls_of, calls_after, with_placed, history_below, Around, around, behind_last, or_earlier, next_place, seen, lines_of, IsVersion, global_of, IsRead, IsGranted, AreAnswered, caller_of}
use Rattle.script_plan.proofs.Fronts.{part_says_the_same}
use Rattle.script_plan.proofs.PlacedCalls.{place_of, AreOnce, stands_at, below_legal}
use Rattle.script_plan.specs.Private.{placeless}
use Rattle.script_plan.proofs.Lists.{Rise}
use Rattle.script_plan.proofs.Parts.{IsPrivate, IsPrivateEntry, IsPrivateCall, either, its_own, private_closed, part_with, no_sets, first_global, private_below, IsOutside, same_part}
use Rattle.script_plan.proofs.Wishes.{IsOwnBound, IsOwnWish, keeps, task_own, own_next}

-- ---- what threads print by their own calls

-- the history of each thread's own calls
abbrev pub Histories : Type 0
Histories = ℕ → History

abbrev with_entry : Histories → Entry → Histories
with_entry K e = λ t. if t == e.who then e ∷ K t else K t

-- those after what a thread asks for
abbrev after_wish : Setting → Histories → ℕ → Result Wish Why → Histories
after_wish c K t (Err why) = K
after_wish c K t (Ok (Calls categories op)) = with_entry K (entry c (K t) t op)
after_wish c K t (Ok (ReadsOf n read)) = K
after_wish c K t (Ok (Reads read)) = K
after_wish c K t (Ok AsksSelection) = K
after_wish c K t (Ok (AsksName categories)) = K
after_wish c K t (Ok (OpensCatalog name)) = K
after_wish c K t (Ok (GetsMessage h set message default)) = K
after_wish c K t (Ok (ClosesCatalog h)) = K

-- the line of a read of the thread's own object, or of the global locale, which nobody sets
abbrev read_alone : Setting → LibraryData → Caller → Read → Option Parts → OutLine
read_alone c library at read (Some object) = object_line library at read object
read_alone c library at read None = global_read_line library at read 0 (posix c)

-- the line of what a thread asks for, without places, by the history of its own calls
abbrev line_alone : Setting → LibraryData → History → Caller → Result Wish Why → OutLine
line_alone c library H at (Err why) = plain_line at (said.Refused why)
line_alone c library H at (Ok (Calls categories op)) = placeless (placed_line library 0 at categories (answer c H at.thread op))
line_alone c library H at (Ok (ReadsOf n read)) = plain_line at said.Held
line_alone c library H at (Ok (Reads read)) = read_alone c library at read (own H at.thread)
line_alone c library H at (Ok AsksSelection) = plain_line at (said.Is (selection H at.thread))
line_alone c library H at (Ok (AsksName categories)) = global_name_line library at categories 0 (posix c)
line_alone c library H at (Ok (OpensCatalog name)) = plain_line at said.Held
line_alone c library H at (Ok (GetsMessage h set message default)) = plain_line at said.Held
line_alone c library H at (Ok (ClosesCatalog h)) = plain_line at said.Held

-- who asks, and what
pub record Asked : Type 0 where
  pub task : Task
  pub at : Caller

abbrev pub asked : TaskLine → Asked
asked d = record { task = d.task; at = caller_of d.line }

-- the lines of what is asked, each by the own calls of its thread
abbrev pub lines_alone : Setting → LibraryData → Histories → List Bound → List Asked → List OutLine
lines_alone c library K bounds [] = []
lines_alone c library K bounds (a ∷ more) =
    let t : ℕ = a.at.thread in
    let w : Result Wish Why = wish_of library (bindings_of t bounds) a.task in
    let l : OutLine = line_alone c library (K t) a.at w in
    l ∷ lines_alone c library (after_wish c K t w) (bindings_after t bounds a.task l.reply) more

-- ---- lines that are left of a script, where those before them stand

pub record Stands (c : Setting) (plan : PlanData) (lines : List OutLine) (M : CatalogHistory) (calls : List PlacedCall) (K : Histories) (before after : List TaskLine) : Type 0 where
  pub done : List PlacedCall
  pub is : calls ≡ done ++ calls_after plan.library before after
  pub are_answered : AreAnswered c plan lines M calls before after
  pub keep : All (λ (d : TaskLine). keeps d.task ≡ true) after
  pub own : All IsOwnBound (bound_by before)
  pub part : (t : ℕ) → part_of (t ∷ []) (history_below c calls (next_place t before)) ≡ K t
  pub behind : (t : ℕ) → All (λ (k : PlacedCall). k.thread ≡ t → k.place < next_place t before) done
  pub ahead : (t : ℕ) → All (λ (k : PlacedCall). k.thread ≡ t → next_place t before ≤ k.place) (calls_after plan.library before after)
  pub rise : Rise (calls_after plan.library before after)

abbrev next_with : ℕ → List TaskLine → Bool → Places → ℕ
next_with s before same at = if same then or_earlier (behind_last (places_in at)) (next_place s before) else next_place s before

-- what is known of the calls of a script whose threads keep to themselves
module _ (c : Setting) (plan : PlanData) (lines : List OutLine) (M : CatalogHistory) (calls : List PlacedCall) (once : AreOnce (map place_of calls)) (private : All IsPrivateCall calls) where
  abbrev Left : Histories → List TaskLine → List TaskLine → Type 0
  Left K before after = Stands c plan lines M calls K before after

  -- ---- a line without a call

  silent : (K : Histories) (before after : List TaskLine) (d : TaskLine) → Left K before (d ∷ after) → All IsOwnBound (bound_by (d ∷ before)) → d.line.places ≡ places.None
      → Left K (d ∷ before) after
  silent K before after d w own none =
      let rest : List PlacedCall = calls_after plan.library (d ∷ before) after in
      let here : calls_of plan.library (bound_by before) d ≡ [] =
      ap (λ (q : Places). map (call_of d.line.thread) (zip (places_in q) (ops_of (wish_of plan.library (bindings_of d.line.thread (bound_by before)) d.task)))) none
      in
      let next : (s : ℕ) → next_place s (d ∷ before) ≡ next_place s before =
      λ s. ap (next_with s before (d.line.thread == s)) none ∙ either (d.line.thread == s) (next_place s before)
      in
      record {
        done = w.done;
        is = w.is ∙ ap (λ (ks : List PlacedCall). w.done ++ (ks ++ rest)) here;
        are_answered = w.are_answered.1;
        keep = All-tail (λ (e : TaskLine). keeps e.task ≡ true) d after w.keep;
        own = own;
        part = λ s. ap (λ (n : ℕ). part_of (s ∷ []) (history_below c calls n)) (next s) ∙ w.part s;
        behind = λ s. subst (λ (n : ℕ). All (λ (k : PlacedCall). k.thread ≡ s → k.place < n) w.done) (sym (next s)) (w.behind s);
        ahead = λ s.
            subst (λ (n : ℕ). All (λ (k : PlacedCall). k.thread ≡ s → n ≤ k.place) rest) (sym (next s))
            (subst (λ (ks : List PlacedCall). All (λ (k : PlacedCall). k.thread ≡ s → next_place s before ≤ k.place) (ks ++ rest)) here (w.ahead s));
        rise = subst (λ (ks : List PlacedCall). Rise (ks ++ rest)) here w.rise;
      }

  -- ---- a line with a call

  -- a line with one call, which stands first of those that are left
  record Makes (K : Histories) (before after : List TaskLine) (d : TaskLine) (call : PlacedCall) : Type 0 where
    thread : call.thread ≡ d.line.thread
    left : Left K before (d ∷ after)
    places : d.line.places ≡ places.One call.place
    here : calls_of plan.library (bound_by before) d ≡ call ∷ []
    op : IsPrivate d.line.thread call.op

  module _ (K : Histories) (before after : List TaskLine) (d : TaskLine) (call : PlacedCall) (m : Makes K before after d call) where
    abbrev rest : List PlacedCall
    rest = calls_after plan.library (d ∷ before) after

    abbrev t : ℕ
    t = d.line.thread

    abbrev past_call : History
    past_call = history_below c calls call.place

    abbrev own_entry : Entry
    own_entry = entry c (K t) t call.op

    ahead_here : (s : ℕ) → All (λ (k : PlacedCall). k.thread ≡ s → next_place s before ≤ k.place) (call ∷ rest)
    ahead_here s = subst (λ (ks : List PlacedCall). All (λ (k : PlacedCall). k.thread ≡ s → next_place s before ≤ k.place) (ks ++ rest)) m.here (m.left.ahead s)

    rise_here : Rise (call ∷ rest)
    rise_here = subst (λ (ks : List PlacedCall). Rise (ks ++ rest)) m.here m.left.rise

    all_is : calls ≡ m.left.done ++ call ∷ rest
    all_is = m.left.is ∙ ap (λ (ks : List PlacedCall). m.left.done ++ (ks ++ rest)) m.here

    reached : (s : ℕ) → call.thread ≡ s → next_place s before ≤ call.place
    reached s = All-head (λ (k : PlacedCall). k.thread ≡ s → next_place s before ≤ k.place) call rest (ahead_here s)

    next_same : (s : ℕ) → (d.line.thread == s) ≡ true → next_place s (d ∷ before) ≡ suc call.place
    next_same s same =
        let behind : call.place + 1 ≡ suc call.place = omega arith in
        ap (λ (b : Bool). next_with s before b d.line.places) same ∙ ap (next_with s before true) m.places ∙ behind

    next_other : (s : ℕ) → (d.line.thread == s) ≡ false → next_place s (d ∷ before) ≡ next_place s before
    next_other s differs = ap (λ (b : Bool). next_with s before b d.line.places) differs

    -- nothing of the thread stands between its last call and this one
    outside : All (IsOutside t (next_place t before) call.place) calls
    outside =
        let Outside : PlacedCall → Type 0 = IsOutside t (next_place t before) call.place in
        subst (All Outside) (sym all_is)
        (All-append Outside m.left.done (call ∷ rest)
        (All-weaker (λ (k : PlacedCall). k.thread ≡ t → k.place < next_place t before) Outside (λ k below same. inl (below same)) m.left.done (m.left.behind t))
        (All-cons Outside call rest (λ same. inr (omega arith))
        (All-weaker (λ (k : PlacedCall). k.thread ≡ call.thread → call.place < k.place) Outside (λ k above same. let lt = above (same ∙ sym m.thread) in inr (omega (arith, lt))) rest rise_here.0)))

    part_here : part_of (t ∷ []) past_call ≡ K t
    part_here = same_part c calls t (next_place t before) call.place private (reached t m.thread) outside ∙ m.left.part t

    answer_is : answer c past_call t call.op ≡ answer c (K t) t call.op
    answer_is =
        let closed : IsClosed (t ∷ []) (entry c past_call t call.op ∷ past_call) =
        private_closed t (entry c past_call t call.op ∷ past_call) (All-cons IsPrivateEntry (entry c past_call t call.op) past_call m.op (private_below c calls private call.place))
        in
        answer_apart c (t ∷ []) past_call t call.op (below_legal c calls call.place) (its_own t) closed ∙ ap (λ (G : History). answer c G t call.op) part_here

    part_behind : part_of (t ∷ []) (history_below c calls (suc call.place)) ≡ own_entry ∷ K t
    part_behind =
        ap (λ (o : Option PlacedCall). part_of (t ∷ []) (with_placed c past_call o)) (stands_at calls m.left.done rest call all_is once).found
        ∙ ap (λ (w : ℕ). part_of (t ∷ []) (entry c past_call w call.op ∷ past_call)) m.thread
        ∙ part_with t (entry c past_call t call.op) past_call (eq-eqb t t refl)
        ∙ ap (λ (r : table.Reply). record { who = t; op = call.op; reply = r } ∷ part_of (t ∷ []) past_call) answer_is
        ∙ ap (λ (G : History). own_entry ∷ G) part_here

    part_next : (s : ℕ) (b : Bool) → (s == t) ≡ b → part_of (s ∷ []) (history_below c calls (next_place s (d ∷ before))) ≡ cond b (own_entry ∷ K s) (K s)
    part_next s true is =
        let same : t ≡ s = sym (eqb-true s t is) in
        ap (λ (n : ℕ). part_of (s ∷ []) (history_below c calls n)) (next_same s (eq-eqb t s same))
        ∙ subst (λ (r : ℕ). part_of (r ∷ []) (history_below c calls (suc call.place)) ≡ own_entry ∷ K r) same part_behind
    part_next s false is =
        ap (λ (n : ℕ). part_of (s ∷ []) (history_below c calls n)) (next_other s (ne_eqb t s (λ same. eqb-false s t is (sym same)))) ∙ m.left.part s

    behind_next : (s : ℕ) (b : Bool) → (t == s) ≡ b → All (λ (k : PlacedCall). k.thread ≡ s → k.place < next_place s (d ∷ before)) (m.left.done ++ call ∷ [])
    behind_next s true is =
        let Behind : PlacedCall → Type 0 = λ (k : PlacedCall). k.thread ≡ s → k.place < next_place s (d ∷ before) in
        let next = next_same s is in
        let low = reached s (m.thread ∙ eqb-true t s is) in
        All-append Behind m.left.done (call ∷ [])
        (All-weaker (λ (k : PlacedCall). k.thread ≡ s → k.place < next_place s before) Behind (λ k below same. let lt = below same in omega (arith, lt, low, next)) m.left.done (m.left.behind s))
        (All-cons Behind call [] (λ same. omega (arith, next)) (All-nil Behind))
    behind_next s false is =
        let Behind : PlacedCall → Type 0 = λ (k : PlacedCall). k.thread ≡ s → k.place < next_place s (d ∷ before) in
        let next = next_other s is in
        All-append Behind m.left.done (call ∷ [])
        (All-weaker (λ (k : PlacedCall). k.thread ≡ s → k.place < next_place s before) Behind (λ k below same. let lt = below same in omega (arith, lt, next)) m.left.done (m.left.behind s))
        (All-cons Behind call [] (λ same. absurd (eqb-false t s is (sym m.thread ∙ same))) (All-nil Behind))

    ahead_next : (s : ℕ) (b : Bool) → (t == s) ≡ b → All (λ (k : PlacedCall). k.thread ≡ s → next_place s (d ∷ before) ≤ k.place) rest
    ahead_next s true is =
        let next = next_same s is in
        All-weaker (λ (k : PlacedCall). k.thread ≡ call.thread → call.place < k.place) (λ (k : PlacedCall). k.thread ≡ s → next_place s (d ∷ before) ≤ k.place)
        (λ k above same. let lt = above (same ∙ sym (eqb-true t s is) ∙ sym m.thread) in omega (arith, lt, next)) rest rise_here.0
    ahead_next s false is =
        let next = next_other s is in
        All-weaker (λ (k : PlacedCall). k.thread ≡ s → next_place s before ≤ k.place) (λ (k : PlacedCall). k.thread ≡ s → next_place s (d ∷ before) ≤ k.place)
        (λ k above same. let le = above same in omega (arith, le, next)) rest
        (All-tail (λ (k : PlacedCall). k.thread ≡ s → next_place s before ≤ k.place) call rest (ahead_here s))

    calling : All IsOwnBound (bound_by (d ∷ before)) → Left (with_entry K own_entry) (d ∷ before) after
    calling own = record {
      done = m.left.done ++ call ∷ [];
      is = all_is ∙ sym (append_assoc m.left.done (call ∷ []) rest);
      are_answered = m.left.are_answered.1;
      keep = All-tail (λ (e : TaskLine). keeps e.task ≡ true) d after m.left.keep;
      own = own;
      part = λ s. part_next s (s == t) refl;
      behind = λ s. behind_next s (t == s) refl;
      ahead = λ s. ahead_next s (t == s) refl;
      rise = rise_here.1;
    }

  -- ---- what a line prints

  -- the line is the one of its thread alone, and those behind it stand as well
  record Follows (K : Histories) (before after : List TaskLine) (d : TaskLine) (w : Result Wish Why) : Type 0 where
    line : placeless d.line ≡ line_alone c plan.library (K d.line.thread) (caller_of d.line) w
    left : Left (after_wish c K d.line.thread w) (d ∷ before) after

  said_alone : (K : Histories) (before after : List TaskLine) (d : TaskLine) → Left K before (d ∷ after)
      → SaysTheSameTo c d.line.thread (seen (around c plan lines M calls before after) d.line.thread) (part_of (d.line.thread ∷ []) (seen (around c plan lines M calls before after) d.line.thread))
  said_alone K before after d w =
      let t : ℕ = d.line.thread in
      let n : ℕ = next_place t before in
      part_says_the_same c (t ∷ []) t (its_own t) (history_below c calls n) (below_legal c calls n) (private_closed t (history_below c calls n) (private_below c calls private n))

  -- a version is the first, since nobody sets the global locale
  first_version : (before after : List TaskLine) (at : Caller) (version : ℕ) → IsVersion (around c plan lines M calls before after) at version → version ≡ 0
  first_version before after at version v =
      let n : ℕ = length (all_places (up_to_round at.round lines)) in
      let none : sets (history_below c calls n) ≡ 0 = no_sets (history_below c calls n) (private_below c calls private n) in
      let le : version ≤ sets (history_below c calls n) = v.round in
      omega (arith, none, le)

  read_is : (before after : List TaskLine) (at : Caller) (l : OutLine) (read : Read) (o : Option Parts) → IsRead (around c plan lines M calls before after) at l read o
      → (placeless l ≡ read_alone c plan.library at read o) × (l.places ≡ places.None)
  read_is before after at l read (Some object) is = (ap placeless is, ap (λ (k : OutLine). k.places) is)
  read_is before after at l read None r =
      let x : Around = around c plan lines M calls before after in (
        ap placeless r.is
            ∙ ap (λ (v : ℕ). global_read_line plan.library at read v (global_of x v)) (first_version before after at r.version r.bounds)
            ∙ ap (global_read_line plan.library at read 0) (first_global c x.whole),
        ap (λ (k : OutLine). k.places) r.is,
      )

  follows : (K : Histories) (before after : List TaskLine) (d : TaskLine) (w : Result Wish Why) → wish_of plan.library (bindings_of d.line.thread (bound_by before)) d.task ≡ w → Left K before (d ∷ after)
      → IsGranted (around c plan lines M calls before after) (caller_of d.line) d.line w → IsOwnWish d.line.thread (variable_bound d.task) w → All IsOwnBound (bound_by (d ∷ before)) → Follows K before after d w
  follows K before after d (Err why) asks w is wished bounds = record { line = ap placeless is; left = silent K before after d w bounds (ap (λ (k : OutLine). k.places) is) }
  follows K before after d (Ok (Calls categories op)) asks w r wished bounds =
      let t : ℕ = d.line.thread in
      let at : d.line.places ≡ places.One r.place = ap (λ (k : OutLine). k.places) r.is in
      let call : PlacedCall = record { place = r.place; thread = t; op = op } in
      let m : Makes K before after d call = record {
        thread = refl;
        left = w;
        places = at;
        here =
            ap (λ (q : Places). map (call_of t) (zip (places_in q) (ops_of (wish_of plan.library (bindings_of t (bound_by before)) d.task)))) at
            ∙ ap (λ (asked : Result Wish Why). map (call_of t) (zip (r.place ∷ []) (ops_of asked))) asks;
        op = wished;
      }
      in
      record {
        line = ap placeless r.is ∙ ap (λ (reply : table.Reply). placeless (placed_line plan.library 0 (caller_of d.line) categories reply)) (answer_is K before after d call m);
        left = calling K before after d call m bounds;
      }
  follows K before after d (Ok (ReadsOf n read)) asks w is wished bounds = absurd wished
  follows K before after d (Ok (OpensCatalog name)) asks w is wished bounds = absurd wished
  follows K before after d (Ok (GetsMessage h set message default)) asks w is wished bounds = absurd wished
  follows K before after d (Ok (ClosesCatalog h)) asks w is wished bounds = absurd wished
  follows K before after d (Ok (Reads read)) asks w is wished bounds =
      let t : ℕ = d.line.thread in
      let x : Around = around c plan lines M calls before after in
      let same : own (seen x t) t ≡ own (K t) t = (said_alone K before after d w).own ∙ ap (λ (G : History). own G t) (w.part t) in
      let as_read = read_is before after (caller_of d.line) d.line read (own (K t) t) (subst (IsRead x (caller_of d.line) d.line read) same is) in
      record { line = as_read.0; left = silent K before after d w bounds as_read.1 }
  follows K before after d (Ok AsksSelection) asks w is wished bounds =
      let t : ℕ = d.line.thread in
      let same : selection (seen (around c plan lines M calls before after) t) t ≡ selection (K t) t = (said_alone K before after d w).selection ∙ ap (λ (G : History). selection G t) (w.part t) in
      record {
        line = ap placeless is ∙ ap (λ (n : Named). plain_line (caller_of d.line) (said.Is n)) same;
        left = silent K before after d w bounds (ap (λ (k : OutLine). k.places) is);
      }
  follows K before after d (Ok (AsksName categories)) asks w r wished bounds =
      let x : Around = around c plan lines M calls before after in
      record {
        line =
            ap placeless r.is
            ∙ ap (λ (v : ℕ). global_name_line plan.library (caller_of d.line) categories v (global_of x v)) (first_version before after (caller_of d.line) r.version r.bounds)
            ∙ ap (global_name_line plan.library (caller_of d.line) categories 0) (first_global c x.whole);
        left = silent K before after d w bounds (ap (λ (k : OutLine). k.places) r.is);
      }

  -- all lines that are left are those of their threads alone
  pub all_alone : (K : Histories) (before after : List TaskLine) → Left K before after → map placeless (lines_of after) ≡ lines_alone c plan.library K (bound_by before) (map asked after)
  all_alone K before [] w = refl
  all_alone K before (d ∷ after) w =
      let t : ℕ = d.line.thread in
      let library : LibraryData = plan.library in
      let asks : Result Wish Why = wish_of library (bindings_of t (bound_by before)) d.task in
      let x : Around = around c plan lines M calls before after in
      let wished : IsOwnWish t (variable_bound d.task) asks = task_own library t (bound_by before) d.task w.own (All-head (λ (e : TaskLine). keeps e.task ≡ true) d after w.keep) in
      let own : All IsOwnBound (bound_by (d ∷ before)) = own_next x (caller_of d.line) d.line (bound_by before) (variable_bound d.task) asks w.are_answered.0 wished w.own in
      let f : Follows K before after d asks = follows K before after d asks refl w w.are_answered.0 wished own in
      ap (λ (ls : List OutLine). placeless d.line ∷ ls) (all_alone (after_wish c K t asks) (d ∷ before) after f.left)
      ∙ ap (λ (l : OutLine). l ∷ lines_alone c library (after_wish c K t asks) (bindings_after t (bound_by before) d.task l.reply) (map asked after)) f.line
