-- Lines that follow each other in one order of all calls.
use Rattle.std.proofs.Common.{◌≡◌, ℕ, ◌+◌, ◌<◌, ◌≤◌, Bool, true, false, cond, List, [], ◌∷◌, ◌++◌, length, refl, ap, subst, ◌∙◌, arith, eq-eqb, ne_eqb, length-append}
use Rattle.std.specs.Prelude.{filter, All}
use Rattle.std.proofs.lemmas.List.Elements.{All-nil, All-cons, All-head, All-tail, All-append, All-weaker}
use Rattle.catalog_handles.specs.Entry.{Entry, History}
use Rattle.catalog_handles.specs.Stamps.{stamp_at}
use Rattle.script_out.specs.declared.output.OutLine.{OutLine}
use Rattle.script_plan.specs.Prints.{places_in, catalog_places_in, all_places, all_catalog_places, StandBefore}

-- a number is from one on, and below another
pub record IsFrom (low high p : ℕ) : Type 0 where
  pub since : low ≤ p
  pub until : p < high

-- a number is from one to another
pub record IsUpTo (low high n : ℕ) : Type 0 where
  pub since : low ≤ n
  pub until : n ≤ high

pub all_from : (low high : ℕ) (ps : List ℕ) → All (λ (p : ℕ). low ≤ p) ps → All (λ (p : ℕ). p < high) ps → All (IsFrom low high) ps
all_from low high [] from below = All-nil (IsFrom low high)
all_from low high (p ∷ ps) from below =
    All-cons (IsFrom low high) p ps (record { since = All-head (λ (q : ℕ). low ≤ q) p ps from; until = All-head (λ (q : ℕ). q < high) p ps below })
    (all_from low high ps (All-tail (λ (q : ℕ). low ≤ q) p ps from) (All-tail (λ (q : ℕ). q < high) p ps below))

-- the stamp of an entry that stands in a history
pub stamp_stands : (behind before : History) (e : Entry) → stamp_at (behind ++ e ∷ before) (length before) ≡ e.stamp
stamp_stands [] before e = ap (λ (b : Bool). cond b e.stamp (stamp_at before (length before))) (eq-eqb (length before) (length before) refl)
stamp_stands (d ∷ behind) before e =
    let long : length (behind ++ e ∷ before) ≡ length behind + length (e ∷ before) = length-append behind (e ∷ before) in
    ap (λ (b : Bool). cond b d.stamp (stamp_at (behind ++ e ∷ before) (length before))) (ne_eqb (length (behind ++ e ∷ before)) (length before) (λ is. omega (arith, is, long)))
    ∙ stamp_stands behind before e

-- what is before a moment of the order, and what is not, where these are the stamps of the catalogs' entries
pub record AreDone (stamps : ℕ → ℕ) (m : ℕ) (lines : List OutLine) : Type 0 where
  pub table : All (λ (p : ℕ). p < m) (all_places lines)
  pub catalogs : All (λ (q : ℕ). stamps q ≤ m) (all_catalog_places lines)

pub record AreToCome (stamps : ℕ → ℕ) (m : ℕ) (lines : List OutLine) : Type 0 where
  pub table : All (λ (p : ℕ). m ≤ p) (all_places lines)
  pub catalogs : All (λ (q : ℕ). m ≤ stamps q) (all_catalog_places lines)

-- a line made its calls between two moments
pub record Spans (stamps : ℕ → ℕ) (low high : ℕ) (l : OutLine) : Type 0 where
  pub up : low ≤ high
  pub table : All (IsFrom low high) (places_in l.places)
  pub catalogs : All (λ (q : ℕ). IsUpTo low high (stamps q)) (catalog_places_in l.places)

-- the lines made theirs one after another, between two moments
abbrev pub Follow : (ℕ → ℕ) → ℕ → List OutLine → ℕ → Type 0
Follow stamps low [] high = low ≤ high
Follow stamps low (l ∷ lines) high = (mid : ℕ) × Spans stamps low mid l × Follow stamps mid lines high

module _ (stamps : ℕ → ℕ) where
  pub stand : (m : ℕ) (before after : List OutLine) → AreDone stamps m before → AreToCome stamps m after → StandBefore stamps before after
  stand m before after done come = record {
    table = All-weaker (λ (p : ℕ). p < m) (λ (p : ℕ). All (λ (q : ℕ). p < stamps q) (all_catalog_places after))
        (λ p lt. All-weaker (λ (q : ℕ). m ≤ stamps q) (λ (q : ℕ). p < stamps q) (λ q le. omega (arith, lt, le)) (all_catalog_places after) come.catalogs)
        (all_places before) done.table;
    catalogs = All-weaker (λ (q : ℕ). stamps q ≤ m) (λ (q : ℕ). All (λ (p : ℕ). stamps q ≤ p) (all_places after))
        (λ q le. All-weaker (λ (p : ℕ). m ≤ p) (λ (p : ℕ). stamps q ≤ p) (λ p from. omega (arith, le, from)) (all_places after) come.table)
        (all_catalog_places before) done.catalogs;
  }

  come_less : (n m : ℕ) (lines : List OutLine) → n ≤ m → AreToCome stamps m lines → AreToCome stamps n lines
  come_less n m lines le come = record {
    table = All-weaker (λ (p : ℕ). m ≤ p) (λ (p : ℕ). n ≤ p) (λ p from. omega (arith, le, from)) (all_places lines) come.table;
    catalogs = All-weaker (λ (q : ℕ). m ≤ stamps q) (λ (q : ℕ). n ≤ stamps q) (λ q from. omega (arith, le, from)) (all_catalog_places lines) come.catalogs;
  }

  none_done : (m : ℕ) → AreDone stamps m []
  none_done m = record { table = All-nil (λ (p : ℕ). p < m); catalogs = All-nil (λ (q : ℕ). stamps q ≤ m) }

  -- one more line that is done, and one more to come
  one_done : (low mid m : ℕ) (l : OutLine) (lines : List OutLine) → Spans stamps low mid l → mid ≤ m → AreDone stamps m lines → AreDone stamps m (l ∷ lines)
  one_done low mid m l lines is le done = record {
    table = All-append (λ (p : ℕ). p < m) (places_in l.places) (all_places lines)
        (All-weaker (IsFrom low mid) (λ (p : ℕ). p < m) (λ p b. let until : p < mid = b.until in omega (arith, le, until)) (places_in l.places) is.table) done.table;
    catalogs = All-append (λ (q : ℕ). stamps q ≤ m) (catalog_places_in l.places) (all_catalog_places lines)
        (All-weaker (λ (q : ℕ). IsUpTo low mid (stamps q)) (λ (q : ℕ). stamps q ≤ m) (λ q b. let until : stamps q ≤ mid = b.until in omega (arith, le, until)) (catalog_places_in l.places) is.catalogs) done.catalogs;
  }

  one_to_come : (low mid : ℕ) (l : OutLine) (lines : List OutLine) → Spans stamps low mid l → AreToCome stamps low lines → AreToCome stamps low (l ∷ lines)
  one_to_come low mid l lines is come = record {
    table = All-append (λ (p : ℕ). low ≤ p) (places_in l.places) (all_places lines)
        (All-weaker (IsFrom low mid) (λ (p : ℕ). low ≤ p) (λ p b. b.since) (places_in l.places) is.table) come.table;
    catalogs = All-append (λ (q : ℕ). low ≤ stamps q) (catalog_places_in l.places) (all_catalog_places lines)
        (All-weaker (λ (q : ℕ). IsUpTo low mid (stamps q)) (λ (q : ℕ). low ≤ stamps q) (λ q b. b.since) (catalog_places_in l.places) is.catalogs) come.catalogs;
  }

  follow_come : (low high : ℕ) (lines : List OutLine) → Follow stamps low lines high → AreToCome stamps low lines
  follow_come low high [] follow = record { table = All-nil (λ (p : ℕ). low ≤ p); catalogs = All-nil (λ (q : ℕ). low ≤ stamps q) }
  follow_come low high (l ∷ lines) follow =
      one_to_come low follow.0 l lines follow.1 (come_less low follow.0 lines follow.1.up (follow_come follow.0 high lines follow.2))

  -- a moment between two parts of lines
  cut : (low high : ℕ) (before after : List OutLine) → Follow stamps low (before ++ after) high → (m : ℕ) × (low ≤ m) × AreDone stamps m before × AreToCome stamps m after
  cut low high [] after follow = (low, omega arith, none_done low, follow_come low high after follow)
  cut low high (l ∷ before) after follow =
      let rest = cut follow.0 high before after follow.2 in
      let up : low ≤ follow.0 = follow.1.up in
      let further : follow.0 ≤ rest.0 = rest.1 in
      (rest.0, omega (arith, up, further), one_done low follow.0 rest.0 l before follow.1 further rest.2, rest.3)

  -- so what is before a cut stands before what is behind it
  pub cut_stands : (low high : ℕ) (lines before after : List OutLine) → Follow stamps low lines high → lines ≡ before ++ after → StandBefore stamps before after
  cut_stands low high lines before after follow is =
      let c = cut low high before after (subst (λ (ls : List OutLine). Follow stamps low ls high) is follow) in
      stand c.0 before after c.2 c.3

  pub follow_lower : (n low high : ℕ) (lines : List OutLine) → n ≤ low → Follow stamps low lines high → Follow stamps n lines high
  follow_lower n low high [] le follow = omega (arith, le, follow)
  follow_lower n low high (l ∷ lines) le follow =
      let up : low ≤ follow.0 = follow.1.up in (
        follow.0,
        record {
          up = omega (arith, le, up);
          table = All-weaker (IsFrom low follow.0) (IsFrom n follow.0) (λ p b. let since : low ≤ p = b.since in record { since = omega (arith, le, since); until = b.until }) (places_in l.places) follow.1.table;
          catalogs = All-weaker (λ (q : ℕ). IsUpTo low follow.0 (stamps q)) (λ (q : ℕ). IsUpTo n follow.0 (stamps q))
              (λ q b. let since : low ≤ stamps q = b.since in record { since = omega (arith, le, since); until = b.until }) (catalog_places_in l.places) follow.1.catalogs;
        },
        follow.2,
      )

  kept_if : (low mid high : ℕ) (l : OutLine) (kept : List OutLine) (b : Bool) → Spans stamps low mid l → Follow stamps mid kept high → Follow stamps low (cond b (l ∷ kept) kept) high
  kept_if low mid high l kept true is follow = (mid, is, follow)
  kept_if low mid high l kept false is follow = follow_lower low mid high kept is.up follow

  -- some of the lines follow each other as well
  pub follow_kept : (keep : OutLine → Bool) (low high : ℕ) (lines : List OutLine) → Follow stamps low lines high → Follow stamps low (filter keep lines) high
  follow_kept keep low high [] follow = follow
  follow_kept keep low high (l ∷ lines) follow =
      kept_if low follow.0 high l (filter keep lines) (keep l) follow.1 (follow_kept keep follow.0 high lines follow.2)

  -- one line more
  pub follow_more : (low mid high : ℕ) (lines : List OutLine) (l : OutLine) → Follow stamps low lines mid → Spans stamps mid high l → Follow stamps low (lines ++ l ∷ []) high
  follow_more low mid high [] l follow is = follow_lower low mid high (l ∷ []) follow (high, is, omega arith)
  follow_more low mid high (m ∷ lines) l follow is = (follow.0, follow.1, follow_more follow.0 mid high lines l follow.2 is)
