-- What stands before a place of a history, and what is the same at two places between which a thread has made no call.
use Rattle.std.proofs.Common.{◌≡◌, ℕ, ◌+◌, ◌<◌, ◌≤◌, ◌⊎◌, Bool, true, false, List, [], ◌∷◌, ◌++◌, length, refl, sym, ap, subst, ◌∙◌, arith, inl, inr, le_refl}
use Rattle.std.specs.Prelude.{◌==◌, ◌&&◌, if◌then◌else◌, All, Some, None}
use Rattle.std.proofs.lemmas.Bool.{cases_lt, eq-eqb, false≢true}
use Rattle.std.proofs.lemmas.Bool.Decides.{eqb_tells}
use Rattle.std.proofs.lemmas.List.Elements.{All-cons, All-head, All-tail, All-weaker}
use Rattle.mask_compose.specs.Parts.{Parts}
use Rattle.lc_base.specs.declared.handle.Named.{Named}
use Rattle.lc_base.specs.declared.handle.Named.TheVariants.{Global, Of}
use Rattle.handle_table.specs.declared.op.Refusal.TheVariants as refusals
use Rattle.handle_table.specs.Entry as table
use Rattle.handle_table.specs.Entry.{Entry, History, Setting, is_accepted}
use Rattle.handle_table.specs.History.{sets, global, global_at, holding, holding_after}
use Rattle.handle_table.specs.Answer.{answer, unless, first_reason}
use Rattle.handle_table.specs.Kept.{AreThreads}
use Rattle.script_wishes.specs.Holds.{object_held}
use Rattle.script_lines.specs.Outcome.{with_call}
use Rattle.script_plan.proofs.LineLists.{all_right}
use Rattle.script_plan.proofs.GoingOn.{GoesOnFrom, goes_nowhere, one_entry, goes_on}
use Rattle.script_plan.proofs.VersionLemmas.{sets_on, global_on, released_after}
use Rattle.script_run.specs.Timed.{oldest, places_by}
use Rattle.script_run.proofs.Counted.{GoDown, down_right, places_down}
use Rattle.script_run.proofs.Growth.{oldest_here, oldest_below, oldest_whole, oldest_all, oldest_length}

-- ---- the oldest entries of a history

pub oldest_none : (H : History) → oldest 0 H ≡ []
oldest_none [] = refl
oldest_none (e ∷ H) = oldest_below 0 e H (omega arith) ∙ oldest_none H

-- they are those before the place behind them
pub oldest_again : (p : ℕ) (H : History) → oldest (length (oldest p H)) H ≡ oldest p H
oldest_again p H =
    elim (cases_lt p (length H)) [
      | inl lt ↦ ap (λ (n : ℕ). oldest n H) (oldest_length p H (omega (arith, lt)))
      | inr ge ↦ let all : oldest p H ≡ H = oldest_whole p H ge in ap (λ (G : History). oldest (length G) H) all ∙ oldest_all H ∙ sym all
    ]

-- the history goes on from them, and so do more of them
pub oldest_begins : (p : ℕ) (H : History) → GoesOnFrom (oldest p H) H
oldest_begins p [] = goes_nowhere []
oldest_begins p (e ∷ H) =
    elim (cases_lt (length H) p) [
      | inl lt ↦ subst (λ (G : History). GoesOnFrom G (e ∷ H)) (sym (oldest_here p e H lt)) (goes_nowhere (e ∷ H))
      | inr ge ↦ subst (λ (G : History). GoesOnFrom G (e ∷ H)) (sym (oldest_below p e H ge)) (goes_on (oldest p H) H (e ∷ H) (oldest_begins p H) (one_entry H e))
    ]

oldest_within : (p q : ℕ) (H : History) → p ≤ q → GoesOnFrom (oldest p H) (oldest q H)
oldest_within p q [] le = goes_nowhere []
oldest_within p q (e ∷ H) le =
    elim (cases_lt (length H) q) [
      | inl lt ↦ subst (GoesOnFrom (oldest p (e ∷ H))) (sym (oldest_here q e H lt)) (oldest_begins p (e ∷ H))
      | inr ge ↦
          subst (λ (G : History). GoesOnFrom G (oldest q (e ∷ H))) (sym (oldest_below p e H (omega (arith, le, ge))))
          (subst (GoesOnFrom (oldest p H)) (sym (oldest_below q e H ge)) (oldest_within p q H le))
    ]

-- versions of the global locale go up, and the object of each stays
pub sets_within : (p q : ℕ) (H : History) → p ≤ q → sets (oldest p H) ≤ sets (oldest q H)
sets_within p q H le = sets_on (oldest p H) (oldest q H) (oldest_within p q H le)

pub version_at : (c : Setting) (p : ℕ) (H : History) → global_at c H (sets (oldest p H)) ≡ global c (oldest p H)
version_at c p H = global_on c (oldest p H) H (oldest_begins p H)

-- ---- the places of a thread's entries

pub one_off : (P : ℕ → Type 0) (b : Bool) (n : ℕ) (ps : List ℕ) → All P (if b then n ∷ ps else ps) → All P ps
one_off P true n ps h = All-tail P n ps h
one_off P false n ps h = h

there_if : (P : ℕ → Type 0) (b : Bool) (n : ℕ) (ps : List ℕ) → b ≡ true → All P (if b then n ∷ ps else ps) → P n
there_if P true n ps is h = All-head P n ps h
there_if P false n ps is h = absurd (false≢true is)

-- an entry stands at the place of one of its caller's
pub missing : (n p : ℕ) (W : History) → AreThreads n W → p < length W → ((t : ℕ) → t < n → All (λ (q : ℕ). (q == p) ≡ false) (places_by t W)) → ⊥
missing n p [] threads lt none = omega (arith, lt)
missing n p (e ∷ W) threads lt none =
    let Other : ℕ → Type 0 = λ (q : ℕ). (q == p) ≡ false in
    elim (eqb_tells (length W) p) [
      | inl same ↦ false≢true (sym (there_if Other (e.who == e.who) (length W) (places_by e.who W) (eq-eqb e.who e.who refl) (none e.who threads.0)) ∙ same.0)
      | inr apart ↦
          let differs = apart.1 in
          missing n p W threads.1 (omega (arith, differs, lt)) (λ (t : ℕ) within. one_off Other (e.who == t) (length W) (places_by t W) (none t within))
    ]

-- ---- two calls of a thread, between which it has made none

-- a place that is not among those from one to another
abbrev pub IsOutside : ℕ → ℕ → ℕ → Type 0
IsOutside a b q = (q < a) ⊎ (b ≤ q)

pub record IsBetween (t : ℕ) (W : History) (hold release : ℕ) : Type 0 where
  pub up : hold < release
  pub none : All (IsOutside (hold + 1) release) (places_by t W)

outside_two : (A B : List ℕ) (release hold : ℕ) → GoDown (A ++ release ∷ hold ∷ B) → All (IsOutside (hold + 1) release) (A ++ release ∷ hold ∷ B)
outside_two [] B release hold down =
    let P : ℕ → Type 0 = IsOutside (hold + 1) release in
    All-cons P release (hold ∷ B) (inr (le_refl release))
    (All-cons P hold B (inl (omega arith)) (All-weaker (λ (q : ℕ). q < hold) P (λ q lt. inl (omega (arith, lt))) B down.1.0))
outside_two (p ∷ A) B release hold down =
    let lt : release < p = All-head (λ (q : ℕ). q < p) release (hold ∷ B) (all_right (λ (q : ℕ). q < p) A (release ∷ hold ∷ B) down.0) in
    All-cons (IsOutside (hold + 1) release) p (A ++ release ∷ hold ∷ B) (inr (omega (arith, lt))) (outside_two A B release hold down.1)

pub is_between : (t : ℕ) (W : History) (A B : List ℕ) (hold release : ℕ) → places_by t W ≡ A ++ release ∷ hold ∷ B → IsBetween t W hold release
is_between t W A B hold release is =
    let down : GoDown (A ++ release ∷ hold ∷ B) = subst GoDown is (places_down t W) in
    let two : GoDown (release ∷ hold ∷ B) = down_right A (release ∷ hold ∷ B) down in
    record {
      up = All-head (λ (q : ℕ). q < release) hold B two.0;
      none = subst (All (IsOutside (hold + 1) release)) (sym is) (outside_two A B release hold down);
    }

not_outside : (a b n : ℕ) → a ≤ n → n < b → IsOutside a b n → ⊥
not_outside a b n le lt (inl below) = omega (arith, le, below)
not_outside a b n le lt (inr above) = omega (arith, lt, above)

is_other : (own : Bool) (a b n : ℕ) (ps : List ℕ) → a ≤ n → n < b → All (IsOutside a b) (if own then n ∷ ps else ps) → own ≡ false
is_other true a b n ps le lt out = absurd (not_outside a b n le lt (All-head (IsOutside a b) n ps out))
is_other false a b n ps le lt out = refl

outside_less : (a b n q : ℕ) → n ≤ b → IsOutside a b q → IsOutside a n q
outside_less a b n q le (inl below) = inl below
outside_less a b n q le (inr above) = inr (omega (arith, le, above))

-- what depends on a thread's own entries alone is the same at both places
none_between : {X : Type 0} (f : History → X) (t : ℕ) → ((e : Entry) (H : History) → (e.who == t) ≡ false → f (e ∷ H) ≡ f H) → (a b : ℕ) (W : History)
    → a ≤ b → b ≤ length W → All (IsOutside a b) (places_by t W) → f (oldest b W) ≡ f (oldest a W)
none_between f t other a b [] le within out = refl
none_between f t other a b (e ∷ W) le within out =
    let rest : All (IsOutside a b) (places_by t W) = one_off (IsOutside a b) (e.who == t) (length W) (places_by t W) out in
    elim (cases_lt (length W) b) [
      | inl all ↦ elim (cases_lt (length W) a) [
        | inl lt ↦ ap f (oldest_here b e W all) ∙ sym (ap f (oldest_here a e W lt))
        | inr ge ↦
            let apart : (e.who == t) ≡ false = is_other (e.who == t) a b (length W) (places_by t W) ge all out in
            let fewer : All (IsOutside a (length W)) (places_by t W) = All-weaker (IsOutside a b) (IsOutside a (length W)) (λ q. outside_less a b (length W) q (omega (arith, all))) (places_by t W) rest in
            ap f (oldest_here b e W all) ∙ other e W apart ∙ ap f (sym (oldest_all W))
            ∙ none_between f t other a (length W) W ge (le_refl (length W)) fewer
            ∙ sym (ap f (oldest_below a e W ge))
      ]
      | inr some ↦ ap f (oldest_below b e W some) ∙ none_between f t other a b W le some rest ∙ sym (ap f (oldest_below a e W (omega (arith, le, some))))
    ]

release_other : (c : Setting) (t : ℕ) (n : Named) (e : Entry) (H : History) → (e.who == t) ≡ false → answer c (e ∷ H) t (table.Release n) ≡ answer c H t (table.Release n)
release_other c t Global e H apart = refl
release_other c t (Of h) e H apart =
    ap (λ (b : Bool). unless (first_reason (None ∷ (if (if b && is_accepted e.reply then holding_after e.op h (holding H t h) else holding H t h) then None else Some refusals.NotHeld) ∷ [])) table.Released) apart

-- what a thread holds it may give back, however others have called meanwhile
pub released_between : (c : Setting) (W : History) (t : ℕ) (n : Named) (object : Parts) (hold release : ℕ) → release ≤ length W → IsBetween t W hold release
    → oldest (hold + 1) W ≡ with_call c (oldest hold W) t (table.Hold n) → object_held (answer c (oldest hold W) t (table.Hold n)) ≡ Some object
    → answer c (oldest release W) t (table.Release n) ≡ table.Released
released_between c W t n object hold release within between entry held =
    let up = between.up in
    none_between (λ (G : History). answer c G t (table.Release n)) t (λ e H apart. release_other c t n e H apart) (hold + 1) release W (omega (arith, up)) within between.none
    ∙ ap (λ (G : History). answer c G t (table.Release n)) entry
    ∙ released_after c (oldest hold W) t n object held
