-- The workers of a script before its first round.
use Rattle.std.proofs.Common.{◌≡◌, ℕ, suc, ◌+◌, ◌<◌, ◌≤◌, List, [], ◌∷◌, ◌++◌, length, map, refl, sym, ap, subst, ◌∙◌, arith, inl, inr, length-append}
use Rattle.std.specs.Prelude.{slice_index_or}
use Rattle.std.specs.List.{range_with_len}
use Rattle.std.proofs.lemmas.List.Elements.{All-nil}
use Rattle.std.proofs.Math.Seq.{get_or-append_seam}
use Rattle.std.proofs.lemmas.Bool.Decides.{eqb_tells}
use Rattle.std.proofs.lemmas.List.{append-nil, length-map, get_or_append_left}
use Rattle.std.proofs.lemmas.List.FromFn.{length-range_with_len, get_or-map-range_with_len}
use Rattle.turn_gate.specs.Callers.{Gate}
use Rattle.handle_table.specs.Entry.{History, Setting}
use Rattle.thread_current.specs.Thread.{Thread, IsInOrder, first_thread}
use Rattle.script_wishes.specs.Holds.{open_holds}
use Rattle.catalog_handles.specs.declared.setting.CatalogSetting.{CatalogSetting}
use Rattle.catalog_handles.specs.Entry.{History as CatalogHistory}
use Rattle.catalog_handles.specs.Reader as readers
use Rattle.catalog_handles.specs.Reader.{ReaderData, first_reader}
use Rattle.script_wishes.specs.Variables.{Bindings, bound}
use Rattle.script_plan.specs.Plan.{PlanData}
use Rattle.script_seats.specs.declared.seated.Seated.{Seated}
use Rattle.script_run.specs.declared.worker.Worker.{Worker}
use Rattle.script_seats.specs.Seated.{held_data, Gates}
use Rattle.script_run.specs.Timed.{Timed, IsInRound, IsAskedInRound, HasStanding, places_by, catalog_places_by}
use Rattle.script_run.specs.Beside.{IsWorker}
use Rattle.script_run.specs.Rounds.{Each, mine_of, reader_at, IsFor, IsForAsked, IsFirst, AreBetween}

first_in_order : (gate : Gate Setting) (i : ℕ) → i < gate.terms.seats → IsInOrder gate.terms (first_thread gate i)
first_in_order gate i lt = record { legal = tt; callers = tt; calls = refl; in_reach = lt }

first_asked_order : (gate : Gate CatalogSetting) (i : ℕ) → i < gate.terms.seats → readers.IsInOrder gate.terms (first_reader gate i)
first_asked_order gate i lt = record { legal = tt; rising = tt; callers = tt; calls = refl; in_reach = lt }

first_worker : (gate : Gates) (plan : PlanData) (mines : List Thread) (all : List ReaderData) (i : ℕ) (w : Worker) → IsForAsked gate.locales.terms gate.catalogs.terms → IsFirst mines all i w
    → mine_of w ≡ first_thread gate.locales i → reader_at w ≡ first_reader gate.catalogs i → i < gate.locales.terms.seats → IsWorker gate plan w.thread []
first_worker gate plan mines all i w for first same same_reader lt =
    let order : IsInOrder gate.locales.terms (mine_of w) = subst (IsInOrder gate.locales.terms) (sym same) (first_in_order gate.locales i lt) in
    let seats = for.seats in
    let asked_order : readers.IsInOrder gate.catalogs.terms (reader_at w) =
    subst (readers.IsInOrder gate.catalogs.terms) (sym same_reader) (first_asked_order gate.catalogs i (omega (arith, lt, seats)))
    in
    let asked_seen : (reader_at w).seen ≡ [] = ap (λ (r : ReaderData). r.seen) same_reader in
    let seen : (mine_of w).seen ≡ [] = ap (λ (t : Thread). t.seen) same in
    let calls : length (mine_of w).calls ≡ 0 = ap (λ (t : Thread). length t.calls) same in
    let holds : length (open_holds (mine_of w).seen w.thread.side.number) ≡ 0 = ap (λ (H : History). length (open_holds H w.thread.side.number)) seen in
    record {
      seated = record {
        thread = (ap (λ (t : Thread). t.table) same, ap (λ (t : Thread). t.terms) same);
        in_order = order;
        knows = record {
          seen = refl;
          number = ap (λ (t : Thread). t.number) same ∙ sym first.number;
          holds = first.holds ∙ sym (ap (λ (H : History). map held_data (open_holds H w.thread.side.number)) seen);
        };
      };
      asking = record {
        thread = (ap (λ (r : ReaderData). r.table) same_reader, ap (λ (r : ReaderData). r.terms) same_reader);
        in_order = asked_order;
        seen = refl;
        number = ap (λ (r : ReaderData). r.number) same_reader ∙ sym first.number;
      };
      agree = for.agree;
      asked = record {
        in_order = asked_order;
        standing = All-nil (HasStanding gate.catalogs.terms.setting (reader_at w).seen);
        places = ap (λ (V : CatalogHistory). catalog_places_by (reader_at w).number V) asked_seen;
      };
      made = record {
        in_order = order;
        own = All-nil (λ (m : Timed). m.task_line.line.thread ≡ (mine_of w).number);
        right = tt;
        timed = tt;
        places = ap (λ (H : History). places_by (mine_of w).number H) seen;
      };
      few = omega (arith, calls, holds);
      variables = λ v. ap (λ (b : Bindings). bound b v) first.variables;
      lines = first.no_lines;
    }

-- they have made no line, and there is no entry
pub between_first : (gate : Gates) (plan : PlanData) (mines : List Thread) (all : List ReaderData) (ws : List Worker) → IsFor plan gate.locales.terms → IsForAsked gate.locales.terms gate.catalogs.terms
    → mines ≡ map (first_thread gate.locales) (range_with_len 0 gate.locales.terms.setting.threads) → all ≡ map (first_reader gate.catalogs) (range_with_len 0 gate.locales.terms.setting.threads)
    → length ws ≡ length mines → Each ws (λ i w. IsFirst mines all i w) → AreBetween gate plan 0 [] ws
between_first gate plan mines all ws for for_asked are are_readers long first =
    let n : ℕ = gate.locales.terms.setting.threads in
    let count : length ws ≡ n =
    long ∙ ap (λ (ts : List Thread). length ts) are ∙ length-map (range_with_len 0 n) (first_thread gate.locales) ∙ length-range_with_len 0 n
    in
    record {
      met = [];
      made = [];
      whole = record {
        legal = tt;
        callers = tt;
        threads = All-nil (λ (t : Timed). t.task_line.line.thread < n);
        right = tt;
        timed = λ thread. tt;
        places = λ thread lt. refl;
        rounds = All-nil (IsInRound []);
      };
      asked = [];
      asked_whole = record {
        legal = tt;
        rising = tt;
        callers = tt;
        standing = All-nil (HasStanding gate.catalogs.terms.setting []);
        places = λ thread lt. refl;
        rounds = All-nil (IsAskedInRound []);
      };
      in_rounds = All-nil (λ (t : Timed). t.task_line.line.round ≤ 0);
      turns = refl;
      lines_are = refl;
      count = count;
      ready = λ i d lt.
          let w : Worker = slice_index_or ws i d in
          let here : IsFirst mines all i w = first i d lt in
          let below : i < n = omega (arith, lt, count) in
          let same : mine_of w ≡ first_thread gate.locales i =
          here.mine ∙ ap (λ (ts : List Thread). slice_index_or ts i (mine_of w)) are ∙ get_or-map-range_with_len (first_thread gate.locales) 0 n i i (mine_of w) below (omega arith)
          in
          let same_reader : reader_at w ≡ first_reader gate.catalogs i =
          here.reader ∙ ap (λ (rs : List ReaderData). slice_index_or rs i (reader_at w)) are_readers ∙ get_or-map-range_with_len (first_reader gate.catalogs) 0 n i i (reader_at w) below (omega arith)
          in
          record {
            number = here.number;
            worker = first_worker gate plan mines all i w for_asked here same same_reader (let seats = for.seats in omega (arith, below, seats));
            later = ((mine_of w).seen, sym (append-nil (mine_of w).seen));
            asked_later = ((reader_at w).seen, sym (append-nil (reader_at w).seen));
            given = here.given;
          };
    }

-- ---- made one after another

-- so many of the workers are made, and these threads and readers are left
pub record FirstSoFar (mines : List Thread) (all : List ReaderData) (ws : List Worker) (rest : List Thread) (left : List ReaderData) : Type 0 where
  pub first : Each ws (λ i w. IsFirst mines all i w)
  pub count : length ws + length rest ≡ length mines
  pub readers_count : length ws + length left ≡ length all
  pub rest_are : (i : ℕ) (d : Thread) → i < length rest → slice_index_or rest i d ≡ slice_index_or mines (length ws + i) d
  pub left_are : (i : ℕ) (d : ReaderData) → i < length left → slice_index_or left i d ≡ slice_index_or all (length ws + i) d

-- a reader is left for each thread that is left
pub reader_left : (mines : List Thread) (all : List ReaderData) (ws : List Worker) (mine : Thread) (rest : List Thread) (left : List ReaderData) → FirstSoFar mines all ws (mine ∷ rest) left → length all ≡ length mines → length left ≡ 0 → ⊥
reader_left mines all ws mine rest left was many none = let count = was.count in let readers_count = was.readers_count in omega (arith, count, readers_count, many, none)

pub first_next : (mines : List Thread) (readings : List ReaderData) (ws all : List Worker) (mine : Thread) (rest : List Thread) (reader : ReaderData) (left : List ReaderData) (w : Worker) (s : Seated)
    → FirstSoFar mines readings ws (mine ∷ rest) (reader ∷ left) → all ≡ ws ++ w ∷ []
    → w.thread.side ≡ s → s.number ≡ length ws → s.mine ≡ mine → s.holds.items ≡ [] → s.reader ≡ reader → w.thread.variables ≡ [] → w.thread.lines ≡ 0 → w.lines.items ≡ [] → FirstSoFar mines readings all rest left
first_next mines readings ws all mine rest reader left w s was all_is side number is holds reads variables counted given =
    let k : ℕ = length ws in
    let long : length all ≡ k + 1 = ap (λ (vs : List Worker). length vs) all_is ∙ length-append ws (w ∷ []) in
    let mine_is : mine_of w ≡ mine = ap (λ (t : Seated). t.mine) side ∙ is in
    let there : mine ≡ slice_index_or mines k (mine_of w) = was.rest_are 0 (mine_of w) (omega arith) ∙ ap (λ (j : ℕ). slice_index_or mines j (mine_of w)) (omega arith) in
    let reader_is : reader_at w ≡ reader = ap (λ (t : Seated). t.reader) side ∙ reads in
    let there_too : reader ≡ slice_index_or readings k (reader_at w) = was.left_are 0 (reader_at w) (omega arith) ∙ ap (λ (j : ℕ). slice_index_or readings j (reader_at w)) (omega arith) in
    let here : IsFirst mines readings k w = record {
      number = ap (λ (t : Seated). t.number) side ∙ number;
      mine = mine_is ∙ there;
      reader = reader_is ∙ there_too;
      holds = ap (λ (t : Seated). t.holds.items) side ∙ holds;
      variables = variables;
      no_lines = counted;
      given = given;
    } in
    record {
      first = λ i d lt. elim (eqb_tells i k) [
        | inl same ↦
            let at : slice_index_or all i d ≡ w = ap (λ (vs : List Worker). slice_index_or vs i d) all_is ∙ ap (λ (j : ℕ). slice_index_or (ws ++ w ∷ []) j d) same.1 ∙ get_or-append_seam ws w [] d in
            subst (λ (v : Worker). IsFirst mines readings i v) (sym at) (subst (λ (j : ℕ). IsFirst mines readings j w) (sym same.1) here)
        | inr apart ↦
            let below : i < k = let differs = apart.1 in omega (arith, lt, long, differs) in
            let at : slice_index_or all i d ≡ slice_index_or ws i d = ap (λ (vs : List Worker). slice_index_or vs i d) all_is ∙ get_or_append_left ws (w ∷ []) d i below in
            subst (IsFirst mines readings i) (sym at) (was.first i d below)
      ];
      count = let count = was.count in omega (arith, count, long);
      readers_count = let count = was.readers_count in omega (arith, count, long);
      rest_are = λ i d lt. was.rest_are (suc i) d (omega (arith, lt)) ∙ ap (λ (j : ℕ). slice_index_or mines j d) (omega (arith, long));
      left_are = λ i d lt. was.left_are (suc i) d (omega (arith, lt)) ∙ ap (λ (j : ℕ). slice_index_or readings j d) (omega (arith, long));
    }

pub as_many_threads : (gate : Gate Setting) (mines : List Thread) (n : ℕ) → mines ≡ map (first_thread gate) (range_with_len 0 n) → length mines ≡ n
as_many_threads gate mines n are = ap (λ (ts : List Thread). length ts) are ∙ length-map (range_with_len 0 n) (first_thread gate) ∙ length-range_with_len 0 n

pub as_many_readers : (gate : Gate CatalogSetting) (all : List ReaderData) (n : ℕ) → all ≡ map (first_reader gate) (range_with_len 0 n) → length all ≡ n
as_many_readers gate all n are = ap (λ (rs : List ReaderData). length rs) are ∙ length-map (range_with_len 0 n) (first_reader gate) ∙ length-range_with_len 0 n
