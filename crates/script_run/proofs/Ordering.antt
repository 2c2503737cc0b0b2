-- The printed lines are of one order of all calls, by the stamps of what was asked of the catalogs.
use Rattle.std.proofs.Common.{◌≡◌, ℕ, suc, ◌<◌, ◌≤◌, List, [], ◌∷◌, length, Option, Some, None, refl, sym, ap, subst, ◌∙◌, arith, reverse}
use Rattle.std.specs.Prelude.{◌==◌, nat_lt, nat_le, filter, unwrap_or, All}
use Rattle.std.proofs.lemmas.Bool.{le-leb, leb-true}
use Rattle.std.proofs.lemmas.List.{reverse-append, reverse-reverse}
use Rattle.std.proofs.lemmas.List.Elements.{All-nil, All-cons, All-head, All-tail, All-append, All-weaker, All-filter}
use Rattle.handle_table.specs.Entry.{History, Setting}
use Rattle.catalog_handles.specs.declared.setting.CatalogSetting.{CatalogSetting}
use Rattle.catalog_handles.specs.Entry as catalogs
use Rattle.catalog_handles.specs.Entry.{History as CatalogHistory}
use Rattle.catalog_handles.specs.Answer as catalog_answers
use Rattle.catalog_handles.specs.Stamps.{stamp_at}
use Rattle.script_out.specs.declared.output.OutLine.{OutLine}
use Rattle.script_out.specs.declared.output.Places.{Places}
use Rattle.script_out.specs.declared.output.Places.TheVariants as places
use Rattle.script_lines.specs.Catalogs.{Asked, catalog_setting}
use Rattle.script_plan.specs.Plan.{PlanData}
use Rattle.script_plan.specs.Prints.{places_in, catalog_places_in, all_places, all_catalog_places, of_thread, before_round, from_round, behind_last, HaveOneOrder}
use Rattle.script_plan.proofs.Orders as orders
use Rattle.script_plan.proofs.Orders.{IsFrom, IsUpTo, AreDone, AreToCome, Follow, stamp_stands, stand, cut_stands, follow_more}
use Rattle.script_run.specs.Timed.{Timed, end_of, last_end, AreTimed, lines_in, placed_back, own_lines, asked_place, in_rounds_before, in_rounds_to, IsInRound, IsWhole, StandsAsked, HasStanding, AreAsked}
use Rattle.script_run.proofs.Counted.{all_reversed, kept_lines}
use Rattle.script_run.proofs.Placed.{IsBetween, Spans, fewer_of, kept_with}
use Rattle.script_run.proofs.AskedPlaces.{Shows, all_show}

-- ---- a line between its moment and its end

-- a line with a place in the history of the catalogs has none in that of the table
not_both : (at : Places) (place : ℕ) → catalog_places_in at ≡ place ∷ [] → places_in at ≡ []
not_both places.None place is = absurd (cc is)
not_both (places.One n) place is = absurd (cc is)
not_both (places.Two hold release) place is = absurd (cc is)
not_both (places.Catalog n) place is = refl

module _ (cs : CatalogSetting) (V : CatalogHistory) where
  abbrev pub stamps : ℕ → ℕ
  stamps = stamp_at V

  -- what was asked has the line's stamp
  asked_between : (thread : ℕ) (op : Option catalogs.Op) (asked : Asked) (stamp moment end : ℕ) (at : Places) → StandsAsked cs V thread op asked stamp → catalog_places_in at ≡ asked_place op asked
      → end ≡ unwrap_or (behind_last (places_in at)) stamp → moment ≤ end → All (λ (q : ℕ). IsUpTo moment end (stamps q)) (asked_place op asked)
  asked_between thread None asked stamp moment end at is shows ends since = All-nil (λ (q : ℕ). IsUpTo moment end (stamps q))
  asked_between thread (Some op) asked stamp moment end at is shows ends since =
      let none : places_in at ≡ [] = not_both at asked.place shows in
      let same : end ≡ stamp = ends ∙ ap (λ (ps : List ℕ). unwrap_or (behind_last ps) stamp) none in
      let here : stamps asked.place ≡ stamp =
      ap stamps is.place ∙ ap (λ (W : CatalogHistory). stamp_at W (length is.before)) is.whole ∙ stamp_stands is.behind is.before (catalog_answers.entry cs is.before thread op stamp)
      in
      All-cons (λ (q : ℕ). IsUpTo moment end (stamps q)) asked.place [] (record { since = omega (arith, here, same, since); until = omega (arith, here, same) }) (All-nil (λ (q : ℕ). IsUpTo moment end (stamps q)))

  -- a line made its calls between its moment and its end
  abbrev SpansAll : Timed → Type 0
  SpansAll t = orders.Spans stamps t.moment (end_of t) t.task_line.line

  line_spans : (t : Timed) → Spans t → Shows t → HasStanding cs V t → SpansAll t
  line_spans t spans shows standing =
      let ps : List ℕ = places_in t.task_line.line.places in
      let between : All (IsBetween t.moment (end_of t)) ps =
      subst (All (IsBetween t.moment (end_of t))) (reverse-reverse ps) (all_reversed (IsBetween t.moment (end_of t)) (reverse ps) spans.between)
      in
      record {
        up = spans.since;
        table = All-weaker (IsBetween t.moment (end_of t)) (IsFrom t.moment (end_of t)) (λ p b. record { since = b.since; until = b.until }) ps between;
        catalogs = subst (All (λ (q : ℕ). IsUpTo t.moment (end_of t) (stamps q))) (sym shows)
            (asked_between t.task_line.line.thread t.op t.asked t.stamp t.moment (end_of t) t.task_line.line.places standing shows refl spans.since);
      }

  all_spans : (ts : List Timed) → All Spans ts → All Shows ts → All (HasStanding cs V) ts → All SpansAll ts
  all_spans [] spans shows standing = All-nil SpansAll
  all_spans (t ∷ ts) spans shows standing =
      All-cons SpansAll t ts (line_spans t (All-head Spans t ts spans) (All-head Shows t ts shows) (All-head (HasStanding cs V) t ts standing))
      (all_spans ts (All-tail Spans t ts spans) (All-tail Shows t ts shows) (All-tail (HasStanding cs V) t ts standing))

  -- ---- the lines of a thread

  -- a line that made its calls from a moment on made them from an earlier one on
  spans_from : (n low high : ℕ) (l : OutLine) → n ≤ low → orders.Spans stamps low high l → orders.Spans stamps n high l
  spans_from n low high l le s =
      let up : low ≤ high = s.up in record {
        up = omega (arith, le, up);
        table = All-weaker (IsFrom low high) (IsFrom n high) (λ p b. let since : low ≤ p = b.since in record { since = omega (arith, le, since); until = b.until }) (places_in l.places) s.table;
        catalogs = All-weaker (λ (q : ℕ). IsUpTo low high (stamps q)) (λ (q : ℕ). IsUpTo n high (stamps q))
            (λ q b. let since : low ≤ stamps q = b.since in record { since = omega (arith, le, since); until = b.until }) (catalog_places_in l.places) s.catalogs;
      }

  own_follow : (ts : List Timed) → AreTimed ts → All SpansAll ts → Follow stamps 0 (reverse (lines_in ts)) (last_end ts)
  own_follow [] timed spans = omega arith
  own_follow (t ∷ ts) timed spans =
      let l : OutLine = t.task_line.line in
      let older : List OutLine = lines_in ts in
      subst (λ (ls : List OutLine). Follow stamps 0 ls (end_of t)) (sym (reverse-append (l ∷ []) older))
      (follow_more stamps 0 (last_end ts) (end_of t) (reverse older) l (own_follow ts timed.1 (All-tail SpansAll t ts spans))
      (spans_from (last_end ts) t.moment (end_of t) l timed.0 (All-head SpansAll t ts spans)))

  -- ---- the rounds

  record LineIsDone (m : ℕ) (l : OutLine) : Type 0 where
    table : All (λ (p : ℕ). p < m) (places_in l.places)
    catalogs : All (λ (q : ℕ). stamps q ≤ m) (catalog_places_in l.places)

  record LineIsToCome (m : ℕ) (l : OutLine) : Type 0 where
    table : All (λ (p : ℕ). m ≤ p) (places_in l.places)
    catalogs : All (λ (q : ℕ). m ≤ stamps q) (catalog_places_in l.places)

  all_done : (m : ℕ) (lines : List OutLine) → All (LineIsDone m) lines → AreDone stamps m lines
  all_done m [] all = record { table = All-nil (λ (p : ℕ). p < m); catalogs = All-nil (λ (q : ℕ). stamps q ≤ m) }
  all_done m (l ∷ lines) all =
      let here : LineIsDone m l = All-head (LineIsDone m) l lines all in
      let rest : AreDone stamps m lines = all_done m lines (All-tail (LineIsDone m) l lines all) in record {
        table = All-append (λ (p : ℕ). p < m) (places_in l.places) (all_places lines) here.table rest.table;
        catalogs = All-append (λ (q : ℕ). stamps q ≤ m) (catalog_places_in l.places) (all_catalog_places lines) here.catalogs rest.catalogs;
      }

  all_to_come : (m : ℕ) (lines : List OutLine) → All (LineIsToCome m) lines → AreToCome stamps m lines
  all_to_come m [] all = record { table = All-nil (λ (p : ℕ). m ≤ p); catalogs = All-nil (λ (q : ℕ). m ≤ stamps q) }
  all_to_come m (l ∷ lines) all =
      let here : LineIsToCome m l = All-head (LineIsToCome m) l lines all in
      let rest : AreToCome stamps m lines = all_to_come m lines (All-tail (LineIsToCome m) l lines all) in record {
        table = All-append (λ (p : ℕ). m ≤ p) (places_in l.places) (all_places lines) here.table rest.table;
        catalogs = All-append (λ (q : ℕ). m ≤ stamps q) (catalog_places_in l.places) (all_catalog_places lines) here.catalogs rest.catalogs;
      }

  of_lines : (P : OutLine → Type 0) (us : List Timed) → All (λ (t : Timed). P t.task_line.line) us → All P (lines_in us)
  of_lines P [] all = All-nil P
  of_lines P (t ∷ us) all =
      let Each : Timed → Type 0 = λ (u : Timed). P u.task_line.line in
      All-cons P t.task_line.line (lines_in us) (All-head Each t us all) (of_lines P us (All-tail Each t us all))

  -- what is known of a line in its round
  record InRound (ts : List Timed) (t : Timed) : Type 0 where
    spans : SpansAll t
    round : IsInRound ts t

  in_rounds : (ts xs : List Timed) → All SpansAll xs → All (IsInRound ts) xs → All (InRound ts) xs
  in_rounds ts [] spans rounds = All-nil (InRound ts)
  in_rounds ts (x ∷ xs) spans rounds =
      All-cons (InRound ts) x xs (record { spans = All-head SpansAll x xs spans; round = All-head (IsInRound ts) x xs rounds })
      (in_rounds ts xs (All-tail SpansAll x xs spans) (All-tail (IsInRound ts) x xs rounds))

  abbrev back_places : Timed → List ℕ
  back_places t = reverse (places_in t.task_line.line.places)

  abbrev places_before : ℕ → List Timed → ℕ
  places_before round ts = length (placed_back (in_rounds_before round ts))

  earlier_done : (ts : List Timed) (round : ℕ) → All (InRound ts) ts → AreDone stamps (places_before round ts) (before_round round (reverse (lines_in ts)))
  earlier_done ts round known =
      let m : ℕ = places_before round ts in
      let each : All (λ (t : Timed). LineIsDone m t.task_line.line) (in_rounds_before round ts) =
      kept_with (InRound ts) (λ (t : Timed). LineIsDone m t.task_line.line) (λ (t : Timed). nat_lt t.task_line.line.round round) ts known
      (λ t earlier is.
      let until : end_of t ≤ length (placed_back (in_rounds_to t.task_line.line.round ts)) = is.round.until in
      let next : suc t.task_line.line.round ≤ round = leb-true (suc t.task_line.line.round) round earlier in
      let fewer : length (placed_back (in_rounds_to t.task_line.line.round ts)) ≤ m =
      fewer_of back_places (λ (x : Timed). nat_le x.task_line.line.round t.task_line.line.round) (λ (x : Timed). nat_lt x.task_line.line.round round) ts
      (λ x yes. let le : x.task_line.line.round ≤ t.task_line.line.round = leb-true x.task_line.line.round t.task_line.line.round yes in le-leb (suc x.task_line.line.round) round (omega (arith, le, next)))
      in
      record {
        table = All-weaker (IsFrom t.moment (end_of t)) (λ (p : ℕ). p < m) (λ p b. let below : p < end_of t = b.until in omega (arith, below, until, fewer)) (places_in t.task_line.line.places) is.spans.table;
        catalogs = All-weaker (λ (q : ℕ). IsUpTo t.moment (end_of t) (stamps q)) (λ (q : ℕ). stamps q ≤ m)
            (λ q b. let below : stamps q ≤ end_of t = b.until in omega (arith, below, until, fewer)) (catalog_places_in t.task_line.line.places) is.spans.catalogs;
      })
      in
      all_done m (before_round round (reverse (lines_in ts)))
      (subst (All (LineIsDone m)) (sym (kept_lines (λ (l : OutLine). nat_lt l.round round) ts))
      (all_reversed (LineIsDone m) (lines_in (in_rounds_before round ts)) (of_lines (LineIsDone m) (in_rounds_before round ts) each)))

  later_to_come : (ts : List Timed) (round : ℕ) → All (InRound ts) ts → AreToCome stamps (places_before round ts) (from_round round (reverse (lines_in ts)))
  later_to_come ts round known =
      let m : ℕ = places_before round ts in
      let later : List Timed = filter (λ (t : Timed). nat_le round t.task_line.line.round) ts in
      let each : All (λ (t : Timed). LineIsToCome m t.task_line.line) later =
      kept_with (InRound ts) (λ (t : Timed). LineIsToCome m t.task_line.line) (λ (t : Timed). nat_le round t.task_line.line.round) ts known
      (λ t late is.
      let since : places_before t.task_line.line.round ts ≤ t.moment = is.round.since in
      let le : round ≤ t.task_line.line.round = leb-true round t.task_line.line.round late in
      let fewer : m ≤ places_before t.task_line.line.round ts =
      fewer_of back_places (λ (x : Timed). nat_lt x.task_line.line.round round) (λ (x : Timed). nat_lt x.task_line.line.round t.task_line.line.round) ts
      (λ x yes. let next : suc x.task_line.line.round ≤ round = leb-true (suc x.task_line.line.round) round yes in le-leb (suc x.task_line.line.round) t.task_line.line.round (omega (arith, next, le)))
      in
      record {
        table = All-weaker (IsFrom t.moment (end_of t)) (λ (p : ℕ). m ≤ p) (λ p b. let behind : t.moment ≤ p = b.since in omega (arith, since, fewer, behind)) (places_in t.task_line.line.places) is.spans.table;
        catalogs = All-weaker (λ (q : ℕ). IsUpTo t.moment (end_of t) (stamps q)) (λ (q : ℕ). m ≤ stamps q)
            (λ q b. let behind : t.moment ≤ stamps q = b.since in omega (arith, since, fewer, behind)) (catalog_places_in t.task_line.line.places) is.spans.catalogs;
      })
      in
      all_to_come m (from_round round (reverse (lines_in ts)))
      (subst (All (LineIsToCome m)) (sym (kept_lines (λ (l : OutLine). nat_le round l.round) ts))
      (all_reversed (LineIsToCome m) (lines_in later) (of_lines (LineIsToCome m) later each)))

-- ---- the whole

pub one_order : (c : Setting) (plan : PlanData) (W : History) (V : CatalogHistory) (ts : List Timed) → IsWhole c plan W ts → AreAsked (catalog_setting c) V ts → All Spans ts → HaveOneOrder V (reverse (lines_in ts))
one_order c plan W V ts w a spans =
    let cs : CatalogSetting = catalog_setting c in
    let all : All (SpansAll cs V) ts = all_spans cs V ts spans (all_show c plan W ts w.right) a.standing in
    let known : All (InRound cs V ts) ts = in_rounds cs V ts ts all w.rounds in
    record {
      rising = a.rising;
      threads = λ thread before after is.
          let own : List Timed = own_lines thread ts in
          let mine : All (SpansAll cs V) own = All-filter (λ (t : Timed). t.task_line.line.thread == thread) (SpansAll cs V) ts all in
          cut_stands (stamp_at V) 0 (last_end own) (of_thread thread (reverse (lines_in ts))) before after
          (subst (λ (ls : List OutLine). Follow (stamp_at V) 0 ls (last_end own)) (sym (kept_lines (λ (l : OutLine). l.thread == thread) ts)) (own_follow cs V own (w.timed thread) mine)) is;
      rounds = λ round. stand (stamp_at V) (places_before cs V round ts) (before_round round (reverse (lines_in ts))) (from_round round (reverse (lines_in ts)))
          (earlier_done cs V ts round known) (later_to_come cs V ts round known);
    }
