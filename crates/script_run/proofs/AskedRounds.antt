-- What lines have asked of the catalogs stands in their history when it grows, and when threads have asked concurrently.
use Rattle.std.proofs.Common.{◌≡◌, ℕ, ◌+◌, ◌<◌, ◌≤◌, List, [], ◌∷◌, ◌++◌, length, Option, Some, None, sym, ap, subst, ◌∙◌, arith, length-append, append_assoc}
use Rattle.std.specs.Prelude.{All}
use Rattle.std.proofs.lemmas.List.Elements.{All-nil, All-cons, All-head, All-tail, All-append, All-weaker}
use Rattle.catalog_handles.specs.declared.setting.CatalogSetting.{CatalogSetting}
use Rattle.catalog_handles.specs.Entry as catalogs
use Rattle.catalog_handles.specs.Entry.{History as CatalogHistory}
use Rattle.catalog_handles.specs.Answer as catalog_answers
use Rattle.catalog_handles.specs.Stamps.{IsRising}
use Rattle.catalog_handles.specs.Reader.{GoesOnFrom}
use Rattle.script_lines.specs.Catalogs.{Asked}
use Rattle.script_run.specs.Timed.{Timed, catalog_places_by, asked_place, asked_in, asked_back, own_lines, stacked, in_rounds_before, in_rounds_to, StandsAsked, HasStanding, IsWithin, IsAskedInRound, AreAsked}
use Rattle.script_run.specs.Beside.{HasAskedSince}
use Rattle.script_run.proofs.AskedPlaces.{asked_length}
use Rattle.script_run.proofs.Stacked.{EachOwn, own_stacked, all_stacked, stacked_onto, earlier_before, earlier_to, all_before, all_to}

-- ---- when the history grows

stands_grow : (c : CatalogSetting) (V' V : CatalogHistory) (thread : ℕ) (op : Option catalogs.Op) (asked : Asked) (stamp : ℕ) → GoesOnFrom V' V → StandsAsked c V thread op asked stamp → StandsAsked c V' thread op asked stamp
stands_grow c V' V thread None asked stamp on is = tt
stands_grow c V' V thread (Some op) asked stamp on is = record {
  before = is.before;
  behind = on.0 ++ is.behind;
  whole = on.1 ∙ ap (λ (M : CatalogHistory). on.0 ++ M) is.whole ∙ sym (append_assoc on.0 is.behind (catalog_answers.entry c is.before thread op stamp ∷ is.before));
  place = is.place;
  reply = is.reply;
}

pub standing_grow : (c : CatalogSetting) (V' V : CatalogHistory) (ts : List Timed) → GoesOnFrom V' V → All (HasStanding c V) ts → All (HasStanding c V') ts
standing_grow c V' V ts on all = All-weaker (HasStanding c V) (HasStanding c V') (λ t is. stands_grow c V' V t.task_line.line.thread t.op t.asked t.stamp on is) ts all

-- what was asked stands within the history
stands_within : (c : CatalogSetting) (V : CatalogHistory) (thread : ℕ) (op : Option catalogs.Op) (asked : Asked) (stamp : ℕ) → StandsAsked c V thread op asked stamp → All (λ (p : ℕ). p < length V) (asked_place op asked)
stands_within c V thread None asked stamp is = All-nil (λ (p : ℕ). p < length V)
stands_within c V thread (Some op) asked stamp is =
    let place : asked.place ≡ length is.before = is.place in
    let long : length V ≡ length is.behind + length (catalog_answers.entry c is.before thread op stamp ∷ is.before) =
    ap (λ (M : CatalogHistory). length M) is.whole ∙ length-append is.behind (catalog_answers.entry c is.before thread op stamp ∷ is.before)
    in
    All-cons (λ (p : ℕ). p < length V) asked.place [] (omega (arith, place, long)) (All-nil (λ (p : ℕ). p < length V))

-- ---- what threads ask in a round

-- what a thread has asked in a round, for a history that goes on from that of the earlier rounds
pub record HasAskedMore (c : CatalogSetting) (V0 V : CatalogHistory) (made : List Timed) (i : ℕ) (more : List Timed) : Type 0 where
  pub standing : All (HasStanding c V) more
  pub since : All (HasAskedSince (length V0)) more
  pub places : catalog_places_by i V ≡ asked_back (more ++ own_lines i made)

module _ (round : ℕ) (added made : List Timed) (after : All (λ (t : Timed). t.task_line.line.round ≡ round) added) (before : All (λ (t : Timed). t.task_line.line.round < round) made) where
  -- an earlier line stays in its round
  old_in : (t : Timed) → t.task_line.line.round < round → IsAskedInRound made t → IsAskedInRound (added ++ made) t
  old_in t lt is =
      let r : ℕ = t.task_line.line.round in
      let first : in_rounds_before r (added ++ made) ≡ in_rounds_before r made = earlier_before round added made after before r (omega (arith, lt)) in
      let last : in_rounds_to r (added ++ made) ≡ in_rounds_to r made = earlier_to round added made after before r lt in
      subst (λ (ts : List Timed). All (IsWithin (length (asked_back ts)) (length (asked_back (in_rounds_to r (added ++ made))))) (asked_in t)) (sym first)
      (subst (λ (ts : List Timed). All (IsWithin (length (asked_back (in_rounds_before r made))) (length (asked_back ts))) (asked_in t)) (sym last) is)

  -- a new line is in its own
  new_in : (t : Timed) → t.task_line.line.round ≡ round → All (IsWithin (length (asked_back made)) (length (asked_back (added ++ made)))) (asked_in t) → IsAskedInRound (added ++ made) t
  new_in t is within =
      let first : in_rounds_before t.task_line.line.round (added ++ made) ≡ made =
      ap (λ (r : ℕ). in_rounds_before r (added ++ made)) is ∙ earlier_before round added made after before round (omega arith) ∙ all_before round added made after before
      in
      let last : in_rounds_to t.task_line.line.round (added ++ made) ≡ added ++ made = ap (λ (r : ℕ). in_rounds_to r (added ++ made)) is ∙ all_to round added made after before in
      subst (λ (ts : List Timed). All (IsWithin (length (asked_back ts)) (length (asked_back (in_rounds_to t.task_line.line.round (added ++ made))))) (asked_in t)) (sym first)
      (subst (λ (ts : List Timed). All (IsWithin (length (asked_back made)) (length (asked_back ts))) (asked_in t)) (sym last) within)

  olds_in : (xs : List Timed) → All (λ (t : Timed). t.task_line.line.round < round) xs → All (IsAskedInRound made) xs → All (IsAskedInRound (added ++ made)) xs
  olds_in [] lts all = All-nil (IsAskedInRound (added ++ made))
  olds_in (x ∷ xs) lts all =
      All-cons (IsAskedInRound (added ++ made)) x xs (old_in x (All-head (λ (t : Timed). t.task_line.line.round < round) x xs lts) (All-head (IsAskedInRound made) x xs all))
      (olds_in xs (All-tail (λ (t : Timed). t.task_line.line.round < round) x xs lts) (All-tail (IsAskedInRound made) x xs all))

  news_in : (xs : List Timed) → All (λ (t : Timed). t.task_line.line.round ≡ round) xs → All (λ (t : Timed). All (IsWithin (length (asked_back made)) (length (asked_back (added ++ made)))) (asked_in t)) xs
      → All (IsAskedInRound (added ++ made)) xs
  news_in [] rounds within = All-nil (IsAskedInRound (added ++ made))
  news_in (x ∷ xs) rounds within =
      let Round : Timed → Type 0 = λ (t : Timed). t.task_line.line.round ≡ round in
      let Within : Timed → Type 0 = λ (t : Timed). All (IsWithin (length (asked_back made)) (length (asked_back (added ++ made)))) (asked_in t) in
      All-cons (IsAskedInRound (added ++ made)) x xs (new_in x (All-head Round x xs rounds) (All-head Within x xs within)) (news_in xs (All-tail Round x xs rounds) (All-tail Within x xs within))

  rounds_with : All (IsAskedInRound made) made → All (λ (t : Timed). All (IsWithin (length (asked_back made)) (length (asked_back (added ++ made)))) (asked_in t)) added → All (IsAskedInRound (added ++ made)) (added ++ made)
  rounds_with old within = All-append (IsAskedInRound (added ++ made)) added made (news_in added after within) (olds_in made before old)

-- between both bounds
both_bounds : (low high : ℕ) (ps : List ℕ) → All (λ (p : ℕ). low ≤ p) ps → All (λ (p : ℕ). p < high) ps → All (IsWithin low high) ps
both_bounds low high [] lows highs = All-nil (IsWithin low high)
both_bounds low high (p ∷ ps) lows highs =
    All-cons (IsWithin low high) p ps (record { since = All-head (λ (q : ℕ). low ≤ q) p ps lows; until = All-head (λ (q : ℕ). q < high) p ps highs })
    (both_bounds low high ps (All-tail (λ (q : ℕ). low ≤ q) p ps lows) (All-tail (λ (q : ℕ). q < high) p ps highs))

within_all : (c : CatalogSetting) (V : CatalogHistory) (low high : ℕ) (ts : List Timed) → length V ≡ high → All (HasAskedSince low) ts → All (HasStanding c V) ts → All (λ (t : Timed). All (IsWithin low high) (asked_in t)) ts
within_all c V low high [] long since standing = All-nil (λ (t : Timed). All (IsWithin low high) (asked_in t))
within_all c V low high (t ∷ ts) long since standing =
    All-cons (λ (x : Timed). All (IsWithin low high) (asked_in x)) t ts
    (both_bounds low high (asked_in t) (All-head (HasAskedSince low) t ts since)
    (subst (λ (n : ℕ). All (λ (p : ℕ). p < n) (asked_in t)) long (stands_within c V t.task_line.line.thread t.op t.asked t.stamp (All-head (HasStanding c V) t ts standing))))
    (within_all c V low high ts long (All-tail (HasAskedSince low) t ts since) (All-tail (HasStanding c V) t ts standing))

-- what all threads have asked, with what they ask in one round more
pub asked_stacked : (c : CatalogSetting) (V0 V : CatalogHistory) (made : List Timed) (more : ℕ → List Timed) (round : ℕ) → AreAsked c V0 made → All (λ (t : Timed). t.task_line.line.round < round) made
    → All (λ (t : Timed). t.task_line.line.thread < c.threads) made → All (λ (t : Timed). t.task_line.line.thread < c.threads) (stacked more made c.threads)
    → catalog_answers.IsLegal c V → IsRising V → catalog_answers.AreThreads c.threads V → GoesOnFrom V V0 → EachOwn more c.threads
    → ((i : ℕ) → i < c.threads → All (λ (t : Timed). t.task_line.line.round ≡ round) (more i)) → ((i : ℕ) → i < c.threads → HasAskedMore c V0 V made i (more i)) → AreAsked c V (stacked more made c.threads)
asked_stacked c V0 V made more round was before threads₀ threads legal rising callers on own of_round each =
    let n : ℕ = c.threads in
    let all : List Timed = stacked more made n in
    let added : List Timed = stacked more [] n in
    let split : all ≡ added ++ made = stacked_onto more made n in
    let places : (i : ℕ) → i < n → catalog_places_by i V ≡ asked_back (own_lines i all) = λ i lt. (each i lt).places ∙ sym (ap asked_back (own_stacked more made n i own lt)) in
    let long : length V ≡ length (asked_back (added ++ made)) = sym (asked_length n V all callers places threads) ∙ ap (λ (ts : List Timed). length (asked_back ts)) split in
    let earlier : length V0 ≡ length (asked_back made) = sym (asked_length n V0 made was.callers was.places threads₀) in
    let after : All (λ (t : Timed). t.task_line.line.round ≡ round) added =
    all_stacked (λ (t : Timed). t.task_line.line.round ≡ round) more [] n of_round (All-nil (λ (t : Timed). t.task_line.line.round ≡ round))
    in
    let since : All (HasAskedSince (length (asked_back made))) added =
    subst (λ (k : ℕ). All (HasAskedSince k) added) earlier (all_stacked (HasAskedSince (length V0)) more [] n (λ i lt. (each i lt).since) (All-nil (HasAskedSince (length V0))))
    in
    let standing : All (HasStanding c V) added = all_stacked (HasStanding c V) more [] n (λ i lt. (each i lt).standing) (All-nil (HasStanding c V)) in
    record {
      legal = legal;
      rising = rising;
      callers = callers;
      standing = all_stacked (HasStanding c V) more made n (λ i lt. (each i lt).standing) (standing_grow c V V0 made on was.standing);
      places = places;
      rounds = subst (λ (ts : List Timed). All (IsAskedInRound ts) ts) (sym split)
          (rounds_with round added made after before was.rounds (within_all c V (length (asked_back made)) (length (asked_back (added ++ made))) added long since standing));
    }
