-- Lines that several threads have made concurrently are right behind all earlier lines, for one history of their calls.
use Rattle.std.proofs.Common.{◌≡◌, ℕ, zero, suc, ◌+◌, ◌<◌, ◌≤◌, true, false, List, [], ◌∷◌, ◌++◌, length, refl, sym, ap, subst, ◌∙◌, arith, inl, inr}
use Rattle.std.specs.Prelude.{◌≢◌, ◌==◌, nat_lt, nat_le, All}
use Rattle.std.specs.List.{range_with_len}
use Rattle.std.proofs.lemmas.Bool.{cases_lt, eq-eqb, ne_eqb, le-leb, lt-leb}
use Rattle.std.proofs.lemmas.List.{append_assoc}
use Rattle.std.proofs.lemmas.List.Elements.{All-nil, All-cons, All-head, All-tail, All-append, All-weaker, filter-append}
use Rattle.handle_table.specs.Entry.{History, Setting}
use Rattle.handle_table.specs.Kept.{AreThreads}
use Rattle.handle_table.specs.Answer.{IsLegal}
use Rattle.thread_current.specs.Thread.{GoesOnFrom}
use Rattle.script_plan.specs.Plan.{PlanData}
use Rattle.script_plan.proofs.LineLists.{filter_all, filter_none}
use Rattle.script_run.specs.Timed.{places_by, Timed, end_of, AreTimed, placed_back, stacked, own_lines, AreRight, in_rounds_before, in_rounds_to, IsInRound, IsWhole}
use Rattle.script_run.proofs.Apart.{right_onto}
use Rattle.script_run.proofs.Counted.{whole_length}
use Rattle.script_run.proofs.Growth.{are_right_grow}

-- ---- the lines of one thread among those of all

abbrev pub AreOf : ℕ → List Timed → Type 0
AreOf thread ts = All (λ (t : Timed). t.task_line.line.thread ≡ thread) ts

pub all_own : (i : ℕ) (ts : List Timed) → AreOf i ts → own_lines i ts ≡ ts
all_own i ts own =
    filter_all (λ (t : Timed). t.task_line.line.thread == i) ts
    (All-weaker (λ (t : Timed). t.task_line.line.thread ≡ i) (λ (t : Timed). (t.task_line.line.thread == i) ≡ true) (λ t is. eq-eqb t.task_line.line.thread i is) ts own)

pub none_own : (i k : ℕ) (ts : List Timed) → k ≢ i → AreOf k ts → own_lines i ts ≡ []
none_own i k ts apart own =
    filter_none (λ (t : Timed). t.task_line.line.thread == i) ts
    (All-weaker (λ (t : Timed). t.task_line.line.thread ≡ k) (λ (t : Timed). (t.task_line.line.thread == i) ≡ false) (λ t is. ne_eqb t.task_line.line.thread i (λ same. apart (sym is ∙ same))) ts own)

pub own_both : (i : ℕ) (xs ys : List Timed) → own_lines i (xs ++ ys) ≡ own_lines i xs ++ own_lines i ys
own_both i xs ys = filter-append (λ (t : Timed). t.task_line.line.thread == i) xs ys

-- the first n threads have lines of their own
abbrev pub EachOwn : (ℕ → List Timed) → ℕ → Type 0
EachOwn more n = (k : ℕ) → k < n → AreOf k (more k)

fewer_own : (more : ℕ → List Timed) (n : ℕ) → EachOwn more (suc n) → EachOwn more n
fewer_own more n own k lt = own k (omega (arith, lt))

pub own_past : (more : ℕ → List Timed) (made : List Timed) (n i : ℕ) → EachOwn more n → n ≤ i → own_lines i (stacked more made n) ≡ own_lines i made
own_past more made zero i own le = refl
own_past more made (suc n) i own le =
    own_both i (more n) (stacked more made n)
    ∙ ap (λ (ts : List Timed). ts ++ own_lines i (stacked more made n)) (none_own i n (more n) (λ same. omega (arith, same, le)) (own n (omega arith)))
    ∙ own_past more made n i (fewer_own more n own) (omega (arith, le))

pub own_stacked : (more : ℕ → List Timed) (made : List Timed) (n i : ℕ) → EachOwn more n → i < n → own_lines i (stacked more made n) ≡ more i ++ own_lines i made
own_stacked more made zero i own lt = absurd (omega (arith, lt))
own_stacked more made (suc n) i own lt =
    let rest : List Timed = stacked more made n in
    elim (cases_lt i n) [
      | inl below ↦
          own_both i (more n) rest
          ∙ ap (λ (ts : List Timed). ts ++ own_lines i rest) (none_own i n (more n) (λ same. omega (arith, same, below)) (own n (omega arith)))
          ∙ own_stacked more made n i (fewer_own more n own) below
      | inr past ↦
          let is : n ≡ i = omega (arith, past, lt) in
          own_both i (more n) rest
          ∙ ap (λ (ts : List Timed). own_lines i (more n) ++ ts) (own_past more made n i (fewer_own more n own) past)
          ∙ ap (λ (ts : List Timed). ts ++ own_lines i made) (all_own i (more n) (subst (λ (k : ℕ). AreOf k (more n)) is (own n (omega arith))))
          ∙ ap (λ (k : ℕ). more k ++ own_lines i made) is
    ]

-- ---- what holds of all

pub all_stacked : (P : Timed → Type 0) (more : ℕ → List Timed) (made : List Timed) (n : ℕ) → ((k : ℕ) → k < n → All P (more k)) → All P made → All P (stacked more made n)
all_stacked P more made zero each all = all
all_stacked P more made (suc n) each all =
    All-append P (more n) (stacked more made n) (each n (omega arith)) (all_stacked P more made n (λ k lt. each k (omega (arith, lt))) all)

pub stacked_onto : (more : ℕ → List Timed) (made : List Timed) (n : ℕ) → stacked more made n ≡ stacked more [] n ++ made
stacked_onto more made zero = refl
stacked_onto more made (suc n) = ap (λ (ts : List Timed). more n ++ ts) (stacked_onto more made n) ∙ sym (append_assoc (more n) (stacked more [] n) made)

pub right_stacked : (c : Setting) (plan : PlanData) (W : History) (more : ℕ → List Timed) (made : List Timed) (n : ℕ) → EachOwn more n
    → ((k : ℕ) → k < n → AreRight c plan W (more k ++ own_lines k made)) → AreRight c plan W made → AreRight c plan W (stacked more made n)
right_stacked c plan W more made zero own ours right = right
right_stacked c plan W more made (suc n) own ours right =
    let rest : List Timed = stacked more made n in
    right_onto c plan W n (more n) rest (own n (omega arith))
    (subst (λ (ts : List Timed). AreRight c plan W (more n ++ ts)) (sym (own_past more made n n (fewer_own more n own) (omega arith))) (ours n (omega arith)))
    (right_stacked c plan W more made n (fewer_own more n own) (λ k lt. ours k (omega (arith, lt))) right)

-- ---- the turns that made them

range_more : (a n : ℕ) → range_with_len a (suc n) ≡ range_with_len a n ++ (a + n) ∷ []
range_more a zero = ap (λ (k : ℕ). k ∷ []) (omega arith)
range_more a (suc n) =
    let same : (a + 1) + n ≡ a + suc n = omega arith in
    ap (λ (ks : List ℕ). a ∷ ks) (range_more (a + 1) n ∙ ap (λ (k : ℕ). range_with_len (a + 1) n ++ k ∷ []) same)

-- ---- each line in its round

right_within : (c : Setting) (plan : PlanData) (W : History) (ts : List Timed) → AreRight c plan W ts → All (λ (t : Timed). end_of t ≤ length W) ts
right_within c plan W [] right = All-nil (λ (t : Timed). end_of t ≤ length W)
right_within c plan W (t ∷ ts) right = All-cons (λ (x : Timed). end_of x ≤ length W) t ts right.0.within (right_within c plan W ts right.1)

all_left : (P : Timed → Type 0) (xs ys : List Timed) → All P (xs ++ ys) → All P xs
all_left P [] ys all = All-nil P
all_left P (x ∷ xs) ys all = All-cons P x xs (All-head P x (xs ++ ys) all) (all_left P xs ys (All-tail P x (xs ++ ys) all))

module _ (round : ℕ) (added made : List Timed) (after : All (λ (t : Timed). t.task_line.line.round ≡ round) added) (before : All (λ (t : Timed). t.task_line.line.round < round) made) where
  pub earlier_before : (r : ℕ) → r ≤ round → in_rounds_before r (added ++ made) ≡ in_rounds_before r made
  earlier_before r le =
      filter-append (λ (t : Timed). nat_lt t.task_line.line.round r) added made
      ∙ ap (λ (ts : List Timed). ts ++ in_rounds_before r made)
      (filter_none (λ (t : Timed). nat_lt t.task_line.line.round r) added
      (All-weaker (λ (t : Timed). t.task_line.line.round ≡ round) (λ (t : Timed). nat_lt t.task_line.line.round r ≡ false) (λ t is. lt-leb (suc t.task_line.line.round) r (omega (arith, is, le))) added after))

  pub earlier_to : (r : ℕ) → r < round → in_rounds_to r (added ++ made) ≡ in_rounds_to r made
  earlier_to r lt =
      filter-append (λ (t : Timed). nat_le t.task_line.line.round r) added made
      ∙ ap (λ (ts : List Timed). ts ++ in_rounds_to r made)
      (filter_none (λ (t : Timed). nat_le t.task_line.line.round r) added
      (All-weaker (λ (t : Timed). t.task_line.line.round ≡ round) (λ (t : Timed). nat_le t.task_line.line.round r ≡ false) (λ t is. lt-leb t.task_line.line.round r (omega (arith, is, lt))) added after))

  pub all_before : in_rounds_before round made ≡ made
  all_before =
      filter_all (λ (t : Timed). nat_lt t.task_line.line.round round) made
      (All-weaker (λ (t : Timed). t.task_line.line.round < round) (λ (t : Timed). nat_lt t.task_line.line.round round ≡ true) (λ t lt. le-leb (suc t.task_line.line.round) round (omega (arith, lt))) made before)

  pub all_to : in_rounds_to round (added ++ made) ≡ added ++ made
  all_to =
      filter_all (λ (t : Timed). nat_le t.task_line.line.round round) (added ++ made)
      (All-append (λ (t : Timed). nat_le t.task_line.line.round round ≡ true) added made
      (All-weaker (λ (t : Timed). t.task_line.line.round ≡ round) (λ (t : Timed). nat_le t.task_line.line.round round ≡ true) (λ t is. le-leb t.task_line.line.round round (omega (arith, is))) added after)
      (All-weaker (λ (t : Timed). t.task_line.line.round < round) (λ (t : Timed). nat_le t.task_line.line.round round ≡ true) (λ t lt. le-leb t.task_line.line.round round (omega (arith, lt))) made before))

  -- an earlier line stays in its round
  old_in_round : (t : Timed) → t.task_line.line.round < round → IsInRound made t → IsInRound (added ++ made) t
  old_in_round t lt is =
      let r : ℕ = t.task_line.line.round in
      let since : length (placed_back (in_rounds_before r made)) ≤ t.moment = is.since in
      let until : end_of t ≤ length (placed_back (in_rounds_to r made)) = is.until in
      let first : length (placed_back (in_rounds_before r (added ++ made))) ≡ length (placed_back (in_rounds_before r made)) = ap (λ (ts : List Timed). length (placed_back ts)) (earlier_before r (omega (arith, lt))) in
      let last : length (placed_back (in_rounds_to r (added ++ made))) ≡ length (placed_back (in_rounds_to r made)) = ap (λ (ts : List Timed). length (placed_back ts)) (earlier_to r lt) in
      record { since = omega (arith, since, first); until = omega (arith, until, last) }

  -- a new line is in its own
  new_in_round : (t : Timed) → t.task_line.line.round ≡ round → length (placed_back made) ≤ t.moment → end_of t ≤ length (placed_back (added ++ made)) → IsInRound (added ++ made) t
  new_in_round t is moment end =
      let first : length (placed_back (in_rounds_before t.task_line.line.round (added ++ made))) ≡ length (placed_back made) =
      ap (λ (r : ℕ). length (placed_back (in_rounds_before r (added ++ made)))) is ∙ ap (λ (ts : List Timed). length (placed_back ts)) (earlier_before round (omega arith) ∙ all_before)
      in
      let last : length (placed_back (in_rounds_to t.task_line.line.round (added ++ made))) ≡ length (placed_back (added ++ made)) =
      ap (λ (r : ℕ). length (placed_back (in_rounds_to r (added ++ made)))) is ∙ ap (λ (ts : List Timed). length (placed_back ts)) all_to
      in
      record { since = omega (arith, moment, first); until = omega (arith, end, last) }

  olds_in_round : (xs : List Timed) → All (λ (t : Timed). t.task_line.line.round < round) xs → All (IsInRound made) xs → All (IsInRound (added ++ made)) xs
  olds_in_round [] lts all = All-nil (IsInRound (added ++ made))
  olds_in_round (x ∷ xs) lts all =
      All-cons (IsInRound (added ++ made)) x xs (old_in_round x (All-head (λ (t : Timed). t.task_line.line.round < round) x xs lts) (All-head (IsInRound made) x xs all))
      (olds_in_round xs (All-tail (λ (t : Timed). t.task_line.line.round < round) x xs lts) (All-tail (IsInRound made) x xs all))

  news_in_round : (xs : List Timed) → All (λ (t : Timed). t.task_line.line.round ≡ round) xs → All (λ (t : Timed). length (placed_back made) ≤ t.moment) xs
      → All (λ (t : Timed). end_of t ≤ length (placed_back (added ++ made))) xs → All (IsInRound (added ++ made)) xs
  news_in_round [] rounds moments ends = All-nil (IsInRound (added ++ made))
  news_in_round (x ∷ xs) rounds moments ends =
      let Round : Timed → Type 0 = λ (t : Timed). t.task_line.line.round ≡ round in
      let Moment : Timed → Type 0 = λ (t : Timed). length (placed_back made) ≤ t.moment in
      let End : Timed → Type 0 = λ (t : Timed). end_of t ≤ length (placed_back (added ++ made)) in
      All-cons (IsInRound (added ++ made)) x xs (new_in_round x (All-head Round x xs rounds) (All-head Moment x xs moments) (All-head End x xs ends))
      (news_in_round xs (All-tail Round x xs rounds) (All-tail Moment x xs moments) (All-tail End x xs ends))

  pub rounds_onto : All (IsInRound made) made → All (λ (t : Timed). length (placed_back made) ≤ t.moment) added → All (λ (t : Timed). end_of t ≤ length (placed_back (added ++ made))) added
      → All (IsInRound (added ++ made)) (added ++ made)
  rounds_onto old moments ends = All-append (IsInRound (added ++ made)) added made (news_in_round added after moments ends) (olds_in_round made before old)

-- ---- the whole

-- the lines that a thread has added in a round, for a history that goes on from that of the earlier rounds
pub record HasAdded (c : Setting) (plan : PlanData) (M W : History) (round : ℕ) (made : List Timed) (i : ℕ) (added : List Timed) : Type 0 where
  pub own : AreOf i added
  pub of_round : All (λ (t : Timed). t.task_line.line.round ≡ round) added
  pub since : All (λ (t : Timed). length M ≤ t.moment) added
  pub right : AreRight c plan W (added ++ own_lines i made)
  pub timed : AreTimed (added ++ own_lines i made)
  pub places : places_by i W ≡ placed_back (added ++ own_lines i made)

pub whole_stacked : (c : Setting) (plan : PlanData) (M W : History) (made : List Timed) (more : ℕ → List Timed) (round : ℕ) → IsWhole c plan M made
    → All (λ (t : Timed). t.task_line.line.round < round) made → IsLegal c W → AreThreads c.threads W → GoesOnFrom W M
    → ((i : ℕ) → i < c.threads → HasAdded c plan M W round made i (more i)) → IsWhole c plan W (stacked more made c.threads)
whole_stacked c plan M W made more round whole before legal callers on each =
    let n : ℕ = c.threads in
    let own : EachOwn more n = λ k lt. (each k lt).own in
    let all : List Timed = stacked more made n in
    let added : List Timed = stacked more [] n in
    let split : all ≡ added ++ made = stacked_onto more made n in
    let threads : All (λ (t : Timed). t.task_line.line.thread < n) all =
    all_stacked (λ (t : Timed). t.task_line.line.thread < n) more made n
    (λ k lt. All-weaker (λ (t : Timed). t.task_line.line.thread ≡ k) (λ (t : Timed). t.task_line.line.thread < n) (λ t is. omega (arith, is, lt)) (more k) (own k lt)) whole.threads
    in
    let right : AreRight c plan W all = right_stacked c plan W more made n own (λ k lt. (each k lt).right) (are_right_grow c plan W M made on whole.right) in
    let places : (i : ℕ) → i < n → places_by i W ≡ placed_back (own_lines i all) = λ i lt. (each i lt).places ∙ sym (ap placed_back (own_stacked more made n i own lt)) in
    let timed : (i : ℕ) → AreTimed (own_lines i all) = λ i.
    elim (cases_lt i n) [
      | inl lt ↦ subst AreTimed (sym (own_stacked more made n i own lt)) (each i lt).timed
      | inr ge ↦ subst AreTimed (sym (own_past more made n i own ge)) (whole.timed i)
    ]
    in
    let long : length (placed_back all) ≡ length W = whole_length n W all callers places threads in
    let earlier : length (placed_back made) ≡ length M = whole_length n M made whole.callers whole.places whole.threads in
    let of_round : All (λ (t : Timed). t.task_line.line.round ≡ round) added =
    all_stacked (λ (t : Timed). t.task_line.line.round ≡ round) more [] n (λ k lt. (each k lt).of_round) (All-nil (λ (t : Timed). t.task_line.line.round ≡ round))
    in
    let moments : All (λ (t : Timed). length (placed_back made) ≤ t.moment) added =
    all_stacked (λ (t : Timed). length (placed_back made) ≤ t.moment) more [] n
    (λ k lt. All-weaker (λ (t : Timed). length M ≤ t.moment) (λ (t : Timed). length (placed_back made) ≤ t.moment) (λ t le. omega (arith, le, earlier)) (more k) (each k lt).since)
    (All-nil (λ (t : Timed). length (placed_back made) ≤ t.moment))
    in
    let within : All (λ (t : Timed). end_of t ≤ length W) (added ++ made) = subst (All (λ (t : Timed). end_of t ≤ length W)) split (right_within c plan W all right) in
    let longer : length (placed_back (added ++ made)) ≡ length W = ap (λ (ts : List Timed). length (placed_back ts)) (sym split) ∙ long in
    let ends : All (λ (t : Timed). end_of t ≤ length (placed_back (added ++ made))) added =
    All-weaker (λ (t : Timed). end_of t ≤ length W) (λ (t : Timed). end_of t ≤ length (placed_back (added ++ made))) (λ t le. omega (arith, le, longer)) added
    (all_left (λ (t : Timed). end_of t ≤ length W) added made within)
    in
    let rounds : All (IsInRound all) all =
    subst (λ (ts : List Timed). All (IsInRound ts) ts) (sym split) (rounds_onto round added made of_round before whole.rounds moments ends)
    in
    record { legal = legal; callers = callers; threads = threads; right = right; timed = timed; places = places; rounds = rounds }
