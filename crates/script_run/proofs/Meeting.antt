-- Workers meet: the first one each other, twice.
use Rattle.std.proofs.Common.{◌≡◌, ℕ, ◌+◌, ◌<◌, ◌≤◌, ◌⊎◌, List, [], ◌∷◌, ◌++◌, length, refl, sym, ap, subst, ◌∙◌, arith, inl, inr, get_or-set_same, get_or-set_other, length-append}
use Rattle.std.specs.Prelude.{slice_index_or}
use Rattle.std.proofs.Math.ListN.{set}
use Rattle.std.proofs.lemmas.Bool.Decides.{eqb_tells}
use Rattle.std.proofs.Math.Seq.{get_or-append_seam}
use Rattle.std.proofs.lemmas.List.{get_or_default, get_or_append_left}
use Rattle.handle_table.specs.Entry.{History}
use Rattle.catalog_handles.specs.Entry.{History as CatalogHistory}
use Rattle.catalog_handles.specs.Reader as readers
use Rattle.catalog_handles.specs.Reader.{ReaderData}
use Rattle.catalog_handles.proofs.Meeting as reading
use Rattle.thread_current.specs.Thread.{Thread, IsInOrder, SawMore, GoesOnFrom}
use Rattle.script_seats.specs.declared.seated.Seated.{Seated}
use Rattle.script_run.specs.declared.worker.Worker.{Worker}
use Rattle.script_seats.specs.Seated.{Gates}
use Rattle.script_run.specs.Rounds.{Each, EachTwo, mine_of, reader_at, IsOfBoth, IsOrderly, HasSeenOf, with_both, SeesMore, HasMet, AllMet}
use Rattle.script_run.proofs.Seeing.{goes_on}

-- ---- a worker that sees more, and more again

saw_again : (t u v : Thread) → SawMore t u → SawMore u v → SawMore t v
saw_again t u v first then = record {
  same = record {
    table = then.same.table ∙ first.same.table;
    terms = then.same.terms ∙ first.same.terms;
    number = then.same.number ∙ first.same.number;
  };
  later = goes_on u.seen t.seen v.seen then.later first.later;
  calls = then.calls ∙ first.calls;
}

pub sees_again : (gate : Gates) (t u v : Worker) → SeesMore gate t u → SeesMore gate u v → SeesMore gate t v
sees_again gate t u v first then = record {
  same = then.same ∙ ap (λ (w : Worker). with_both w (mine_of v) (reader_at v)) first.same;
  saw = saw_again (mine_of t) (mine_of u) (mine_of v) first.saw then.saw;
  in_order = λ order. then.in_order (first.in_order order);
  asked_saw = reading.saw_again (reader_at t) (reader_at u) (reader_at v) first.asked_saw then.asked_saw;
  asked_order = λ order. then.asked_order (first.asked_order order);
}

-- what two that meet leave of one of them
pub record MeetsBoth (gate : Gates) (w other : Worker) (mine : Thread) (reader : ReaderData) : Type 0 where
  pub saw : SawMore (mine_of w) mine
  pub seen : GoesOnFrom mine.seen (mine_of other).seen
  pub order : IsInOrder gate.locales.terms mine
  pub asked_saw : readers.SawMore (reader_at w) reader
  pub asked_seen : readers.GoesOnFrom reader.seen (reader_at other).seen
  pub asked_order : readers.IsInOrder gate.catalogs.terms reader

sees_by : (gate : Gates) (w other : Worker) (mine : Thread) (reader : ReaderData) → MeetsBoth gate w other mine reader → SeesMore gate w (with_both w mine reader)
sees_by gate w other mine reader m = record { same = refl; saw = m.saw; in_order = λ before. m.order; asked_saw = m.asked_saw; asked_order = λ before. m.asked_order }

-- ---- the first worker has met so many of the others

pub record MeetsTo (gate : Gates) (first0 first : Worker) (others0 others : List Worker) (k : ℕ) : Type 0 where
  pub sees : SeesMore gate first0 first
  pub met : (i : ℕ) (d : Worker) → i < k → HasMet gate (mine_of first0).seen (reader_at first0).seen (slice_index_or others0 i d) (slice_index_or others i d)
  pub seen : (i : ℕ) (d : Worker) → i < k → HasSeenOf (slice_index_or others0 i d) first
  pub left : (i : ℕ) (d : Worker) → k ≤ i → slice_index_or others i d ≡ slice_index_or others0 i d

pub meets_next : (gate : Gates) (first0 first : Worker) (others0 others : List Worker) (k : ℕ) (other : Worker) (mine others_mine : Thread) (reader others_reader : ReaderData)
    → MeetsTo gate first0 first others0 others k → k < length others → other ≡ slice_index_or others k other → MeetsBoth gate first other mine reader → MeetsBoth gate other first others_mine others_reader
    → MeetsTo gate first0 (with_both first mine reader) others0 (set others k (with_both other others_mine others_reader)) (k + 1)
meets_next gate first0 first others0 others k other mine others_mine reader others_reader was within at one two =
    let new : Worker = with_both other others_mine others_reader in
    let here : (d : Worker) → slice_index_or others0 k d ≡ other = λ d. sym (was.left k d (omega arith)) ∙ get_or_default others k d other within ∙ sym at in
    let there : (d : Worker) → slice_index_or (set others k new) k d ≡ new = λ d. get_or-set_same others k new d within in
    let elsewhere : (i : ℕ) (d : Worker) → (i ≡ k → ⊥) → slice_index_or (set others k new) i d ≡ slice_index_or others i d = λ i d apart. get_or-set_other others k i new d apart in
    let met_here : HasMet gate (mine_of first0).seen (reader_at first0).seen other new = record {
      more = sees_by gate other first others_mine others_reader two;
      other = goes_on (mine_of first).seen (mine_of first0).seen others_mine.seen two.seen was.sees.saw.later;
      asked_other = reading.goes_on (reader_at first).seen (reader_at first0).seen others_reader.seen two.asked_seen was.sees.asked_saw.later;
    } in
    let Met : Worker → Worker → Type 0 = HasMet gate (mine_of first0).seen (reader_at first0).seen in
    let seen_here : HasSeenOf other (with_both first mine reader) = record { seen = one.seen; asked = one.asked_seen } in
    record {
      sees = sees_again gate first0 first (with_both first mine reader) was.sees (sees_by gate first other mine reader one);
      met = λ i d lt. elim (eqb_tells i k) [
        | inl same ↦
            subst (λ (j : ℕ). Met (slice_index_or others0 j d) (slice_index_or (set others k new) j d)) (sym same.1)
            (subst (λ (w : Worker). Met w (slice_index_or (set others k new) k d)) (sym (here d)) (subst (Met other) (sym (there d)) met_here))
        | inr apart ↦ subst (Met (slice_index_or others0 i d)) (sym (elsewhere i d apart.1)) (was.met i d (let differs = apart.1 in omega (arith, lt, differs)))
      ];
      seen = λ i d lt. elim (eqb_tells i k) [
        | inl same ↦
            subst (λ (j : ℕ). HasSeenOf (slice_index_or others0 j d) (with_both first mine reader)) (sym same.1) (subst (λ (w : Worker). HasSeenOf w (with_both first mine reader)) (sym (here d)) seen_here)
        | inr apart ↦
            let earlier : HasSeenOf (slice_index_or others0 i d) first = was.seen i d (let differs = apart.1 in omega (arith, lt, differs)) in
            record {
              seen = goes_on (mine_of first).seen (mine_of (slice_index_or others0 i d)).seen mine.seen one.saw.later earlier.seen;
              asked = reading.goes_on (reader_at first).seen (reader_at (slice_index_or others0 i d)).seen reader.seen one.asked_saw.later earlier.asked;
            }
      ];
      left = λ i d le. elsewhere i d (λ same. omega (arith, same, le)) ∙ was.left i d (omega (arith, le));
    }

-- a worker with another side
abbrev pub with_side : Worker → Seated → Worker
with_side w side = record w { thread = record w.thread { side = side } }

-- the same, where the sides of the two that met are given
pub meets_step : (gate : Gates) (first0 first : Worker) (others0 others : List Worker) (k : ℕ) (other : Worker) (one two : Seated) → MeetsTo gate first0 first others0 others k → k < length others → other ≡ slice_index_or others k other
    → one ≡ record first.thread.side { mine = one.mine; reader = one.reader } → two ≡ record other.thread.side { mine = two.mine; reader = two.reader }
    → MeetsBoth gate first other one.mine one.reader → MeetsBoth gate other first two.mine two.reader → MeetsTo gate first0 (with_side first one) others0 (set others k (with_side other two)) (k + 1)
meets_step gate first0 first others0 others k other one two was within at same_one same_two met_one met_two =
    subst (λ (w : Worker). MeetsTo gate first0 w others0 (set others k (with_side other two)) (k + 1)) (sym (ap (with_side first) same_one))
    (subst (λ (w : Worker). MeetsTo gate first0 (with_both first one.mine one.reader) others0 (set others k w) (k + 1)) (sym (ap (with_side other) same_two))
    (meets_next gate first0 first others0 others k other one.mine two.mine one.reader two.reader was within at met_one met_two))

-- ---- all have met, where the last one has met each other twice

-- a place in a list with one more element at its end
at_end : {A : Type 0} (xs : List A) (x : A) (i : ℕ) (d : A) → i < length (xs ++ x ∷ [])
    → ((i < length xs) × (slice_index_or (xs ++ x ∷ []) i d ≡ slice_index_or xs i d)) ⊎ ((i ≡ length xs) × (slice_index_or (xs ++ x ∷ []) i d ≡ x))
at_end xs x i d lt =
    let long : length (xs ++ x ∷ []) ≡ length xs + 1 = length-append xs (x ∷ []) in
    elim (eqb_tells i (length xs)) [
      | inl same ↦ inr (same.1, ap (λ (j : ℕ). slice_index_or (xs ++ x ∷ []) j d) same.1 ∙ get_or-append_seam xs x [] d)
      | inr apart ↦
          let below : i < length xs = let differs = apart.1 in omega (arith, lt, long, differs) in
          inl (below, get_or_append_left xs (x ∷ []) d i below)
    ]

-- a fact of each element of such a list, and of those of two such lists
each_end : {A : Type 0} (P : A → Type 0) (xs : List A) (x : A) → Each xs (λ i y. P y) → P x → Each (xs ++ x ∷ []) (λ i y. P y)
each_end P xs x each here = λ i d lt. elim (at_end xs x i d lt) [
  | inl before ↦ subst P (sym before.1) (each i d before.0)
  | inr last ↦ subst P (sym last.1) here
]

two_end : (P : Worker → Worker → Type 0) (xs ys : List Worker) (x y : Worker) → length ys ≡ length xs → EachTwo xs ys (λ i v w. P v w) → P x y → EachTwo (xs ++ x ∷ []) (ys ++ y ∷ []) (λ i v w. P v w)
two_end P xs ys x y long each here = λ i d lt.
    let same : length (xs ++ x ∷ []) ≡ length (ys ++ y ∷ []) =
    let a = length-append xs (x ∷ []) in let b = length-append ys (y ∷ []) in omega (arith, a, b, long)
    in
    elim (at_end xs x i d lt) [
      | inl before ↦
          let there : slice_index_or (ys ++ y ∷ []) i d ≡ slice_index_or ys i d = get_or_append_left ys (y ∷ []) d i (let below = before.0 in omega (arith, below, long)) in
          subst (λ (v : Worker). P v (slice_index_or (ys ++ y ∷ []) i d)) (sym before.1) (subst (P (slice_index_or xs i d)) (sym there) (each i d before.0))
      | inr last ↦
          let at : i ≡ length ys = let is = last.0 in omega (arith, is, long) in
          let there : slice_index_or (ys ++ y ∷ []) i d ≡ y = ap (λ (j : ℕ). slice_index_or (ys ++ y ∷ []) j d) at ∙ get_or-append_seam ys y [] d in
          subst (λ (v : Worker). P v (slice_index_or (ys ++ y ∷ []) i d)) (sym last.1) (subst (P x) (sym there) here)
    ]

pub all_met : (gate : Gates) (f0 f1 f2 : Worker) (os0 os1 os2 : List Worker) → SeesMore gate f0 f1 → SeesMore gate f1 f2
    → EachTwo os0 os1 (λ i old new. HasMet gate (mine_of f0).seen (reader_at f0).seen old new) → EachTwo os1 os2 (λ i old new. HasMet gate (mine_of f1).seen (reader_at f1).seen old new)
    → Each os0 (λ i w. HasSeenOf w f1) → length os1 ≡ length os0 → length os2 ≡ length os1 → IsOrderly gate f0 → AllMet gate (os0 ++ f0 ∷ []) (os2 ++ f2 ∷ [])
all_met gate f0 f1 f2 os0 os1 os2 first second one two seen long longer order = record {
  met = (mine_of f1).seen;
  legal = (first.in_order order.0).legal;
  callers = (first.in_order order.0).callers;
  more = two_end (λ (old new : Worker). SeesMore gate old new) os0 os2 f0 f2 (longer ∙ long)
      (λ i d lt. sees_again gate (slice_index_or os0 i d) (slice_index_or os1 i d) (slice_index_or os2 i d) (one i d lt).more (two i d (omega (arith, lt, long))).more)
      (sees_again gate f0 f1 f2 first second);
  from = each_end (λ (w : Worker). GoesOnFrom (mine_of f1).seen (mine_of w).seen) os0 f0 (λ i d lt. (seen i d lt).seen) first.saw.later;
  on = each_end (λ (w : Worker). GoesOnFrom (mine_of w).seen (mine_of f1).seen) os2 f2 (λ i d lt. (two i d (omega (arith, lt, longer))).other) second.saw.later;
  asked = (reader_at f1).seen;
  asked_legal = (first.asked_order order.1).legal;
  asked_rising = (first.asked_order order.1).rising;
  asked_callers = (first.asked_order order.1).callers;
  asked_from = each_end (λ (w : Worker). readers.GoesOnFrom (reader_at f1).seen (reader_at w).seen) os0 f0 (λ i d lt. (seen i d lt).asked) first.asked_saw.later;
  asked_on = each_end (λ (w : Worker). readers.GoesOnFrom (reader_at w).seen (reader_at f1).seen) os2 f2 (λ i d lt. (two i d (omega (arith, lt, longer))).asked_other) second.asked_saw.later;
}

-- ---- threads of the table and of the catalogs

pub of_both_kept : (gate : Gates) (t u : Worker) → IsOfBoth gate t → SeesMore gate t u → IsOfBoth gate u
of_both_kept gate t u is sees = (
  (sees.saw.same.table ∙ is.0.0, sees.saw.same.terms ∙ is.0.1),
  (sees.asked_saw.same.table ∙ is.1.0, sees.asked_saw.same.terms ∙ is.1.1),
)

-- those that have met are threads of both as before
pub met_threads : (gate : Gates) (seen : History) (asked : CatalogHistory) (olds news : List Worker) → length news ≡ length olds → EachTwo olds news (λ i old new. HasMet gate seen asked old new)
    → Each olds (λ i w. IsOfBoth gate w) → Each news (λ i w. IsOfBoth gate w)
met_threads gate seen asked olds news long met are = λ i d lt.
    let below : i < length olds = omega (arith, lt, long) in
    of_both_kept gate (slice_index_or olds i d) (slice_index_or news i d) (are i d below) (met i d below).more

-- the workers but the last one, and that one
pub others_of : (P : Worker → Type 0) (all others : List Worker) (one : Worker) → all ≡ others ++ one ∷ [] → Each all (λ i w. P w) → Each others (λ i w. P w)
others_of P all others one is are = λ i d lt.
    let long : length all ≡ length others + 1 = ap (λ (ws : List Worker). length ws) is ∙ length-append others (one ∷ []) in
    subst P (ap (λ (ws : List Worker). slice_index_or ws i d) is ∙ get_or_append_left others (one ∷ []) d i lt) (are i d (omega (arith, lt, long)))

pub last_is : (P : Worker → Type 0) (all others : List Worker) (one : Worker) → all ≡ others ++ one ∷ [] → Each all (λ i w. P w) → P one
last_is P all others one is are =
    let long : length all ≡ length others + 1 = ap (λ (ws : List Worker). length ws) is ∙ length-append others (one ∷ []) in
    subst P (ap (λ (ws : List Worker). slice_index_or ws (length others) one) is ∙ get_or-append_seam others one [] one) (are (length others) one (omega (arith, long)))
