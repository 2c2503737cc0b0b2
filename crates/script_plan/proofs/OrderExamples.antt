-- One order of all calls, at worked examples: two threads that wait for each other in a circle have none.
use Rattle.std.proofs.Common.{◌≡◌, ℕ, ◌<◌, ◌≤◌, Bool, true, false, cond, List, [], ◌∷◌, None, refl, sym, ap, subst, ◌∙◌, arith, inl, inr}
use Rattle.std.specs.Prelude.{◌==◌, nat_lt, nat_le, All}
use Rattle.std.proofs.lemmas.Bool.{cases_lt, le-ltb, lt-leb, eqb-true}
use Rattle.std.proofs.lemmas.List.Elements.{All-nil, All-cons, All-head}
use Rattle.catalog_handles.specs.Entry as catalog
use Rattle.catalog_handles.specs.Entry.{Entry, History}
use Rattle.catalog_handles.specs.Stamps.{stamp_at}
use Rattle.script_out.specs.declared.output.OutLine.{OutLine}
use Rattle.script_out.specs.declared.output.Places.TheVariants as places
use Rattle.script_out.specs.declared.output.Said.TheVariants as said
use Rattle.script_plan.specs.Prints.{all_places, all_catalog_places, of_thread, before_round, from_round, StandBefore, HaveOneOrder}
use Rattle.script_plan.proofs.Examples.{line_of, first_of}
use Rattle.script_plan.proofs.LineLists.{filter_none}
use Rattle.script_plan.proofs.Lists.{each}
use Rattle.script_plan.proofs.Orders.{IsFrom, IsUpTo, Follow, cut_stands}

-- a newlocale, and a catclose
abbrev made : ℕ → ℕ → ℕ → OutLine
made thread index place = line_of 1 thread index (places.One place) None (said.Handle (first_of thread))

abbrev closed : ℕ → ℕ → ℕ → OutLine
closed thread index place = line_of 1 thread index (places.Catalog place) None said.Closed

-- ---- the first thread makes its object behind the second one's, and closes its catalog before it; and the second one the other way

abbrev circle : List OutLine
circle = made 0 1 1 ∷ closed 0 2 0 ∷ closed 1 1 1 ∷ made 1 2 0 ∷ []

-- no stamps put them in one order, though each history alone may have its places
circle_has_none : (a b : Entry) → HaveOneOrder (b ∷ a ∷ []) circle → ⊥
circle_has_none a b order =
    let V : History = b ∷ a ∷ [] in
    let first = order.threads 0 (made 0 1 1 ∷ []) (closed 0 2 0 ∷ []) refl in
    let second = order.threads 1 (closed 1 1 1 ∷ []) (made 1 2 0 ∷ []) refl in
    let low : 1 < a.stamp = All-head (λ (q : ℕ). 1 < stamp_at V q) 0 [] (All-head (λ (p : ℕ). All (λ (q : ℕ). p < stamp_at V q) (0 ∷ [])) 1 [] first.table) in
    let high : b.stamp ≤ 0 = All-head (λ (p : ℕ). stamp_at V 1 ≤ p) 0 [] (All-head (λ (q : ℕ). All (λ (p : ℕ). stamp_at V q ≤ p) (0 ∷ [])) 1 [] second.catalogs) in
    let up : a.stamp ≤ b.stamp = order.rising.0 in
    omega (arith, low, high, up)

-- ---- the same with the catalogs the other way round

abbrev mixed : List OutLine
mixed = made 0 1 1 ∷ closed 0 2 1 ∷ closed 1 1 0 ∷ made 1 2 0 ∷ []

abbrev entry_of : ℕ → ℕ → Entry
entry_of who stamp = record { who = who; op = catalog.Close (record { owner = who; row = 0; generation = 1 }); reply = catalog.Closed; stamp = stamp }

-- the second thread closes its catalog before all, and the first one behind both objects
abbrev entries : History
entries = entry_of 0 2 ∷ entry_of 1 0 ∷ []

abbrev kept_last : Bool → List OutLine
kept_last y = cond y (closed 1 1 0 ∷ cond y (made 1 2 0 ∷ []) []) (cond y (made 1 2 0 ∷ []) [])

abbrev kept : Bool → Bool → List OutLine
kept x y = cond x (made 0 1 1 ∷ cond x (closed 0 2 1 ∷ kept_last y) (kept_last y)) (cond x (closed 0 2 1 ∷ kept_last y) (kept_last y))

kept_follow : (x y : Bool) → (x ≡ true → y ≡ true → ⊥) → Follow (stamp_at entries) 0 (kept x y) 2
kept_follow true true apart = absurd (apart refl refl)
kept_follow true false apart = (
  2,
  record {
    up = omega arith;
    table = All-cons (IsFrom 0 2) 1 [] (record { since = omega arith; until = omega arith }) (All-nil (IsFrom 0 2));
    catalogs = All-nil (λ (q : ℕ). IsUpTo 0 2 (stamp_at entries q));
  },
  (
    2,
    record {
      up = omega arith;
      table = All-nil (IsFrom 2 2);
      catalogs = All-cons (λ (q : ℕ). IsUpTo 2 2 (stamp_at entries q)) 1 [] (record { since = omega arith; until = omega arith }) (All-nil (λ (q : ℕ). IsUpTo 2 2 (stamp_at entries q)));
    },
    omega arith,
  ),
)
kept_follow false true apart = (
  0,
  record {
    up = omega arith;
    table = All-nil (IsFrom 0 0);
    catalogs = All-cons (λ (q : ℕ). IsUpTo 0 0 (stamp_at entries q)) 0 [] (record { since = omega arith; until = omega arith }) (All-nil (λ (q : ℕ). IsUpTo 0 0 (stamp_at entries q)));
  },
  (
    1,
    record {
      up = omega arith;
      table = All-cons (IsFrom 0 1) 0 [] (record { since = omega arith; until = omega arith }) (All-nil (IsFrom 0 1));
      catalogs = All-nil (λ (q : ℕ). IsUpTo 0 1 (stamp_at entries q));
    },
    omega arith,
  ),
)
kept_follow false false apart = omega arith

thread_follows : (thread : ℕ) → Follow (stamp_at entries) 0 (of_thread thread mixed) 2
thread_follows thread =
    kept_follow (0 == thread) (1 == thread) (λ zero one. let none = eqb-true 0 thread zero in let some = eqb-true 1 thread one in absurd (omega (arith, none, some)))

nothing_behind : (s : ℕ → ℕ) (before : List OutLine) → StandBefore s before []
nothing_behind s before = record {
  table = each (λ (p : ℕ). All (λ (q : ℕ). p < s q) []) (all_places before) (λ p. All-nil (λ (q : ℕ). p < s q));
  catalogs = each (λ (q : ℕ). All (λ (p : ℕ). s q ≤ p) []) (all_catalog_places before) (λ q. All-nil (λ (p : ℕ). s q ≤ p));
}

nothing_before : (s : ℕ → ℕ) (after : List OutLine) → StandBefore s [] after
nothing_before s after = record {
  table = All-nil (λ (p : ℕ). All (λ (q : ℕ). p < s q) (all_catalog_places after));
  catalogs = All-nil (λ (q : ℕ). All (λ (p : ℕ). s q ≤ p) (all_places after));
}

all_mixed : (P : OutLine → Type 0) → ((l : OutLine) → l.round ≡ 1 → P l) → All P mixed
all_mixed P one =
    All-cons P (made 0 1 1) (closed 0 2 1 ∷ closed 1 1 0 ∷ made 1 2 0 ∷ []) (one (made 0 1 1) refl)
    (All-cons P (closed 0 2 1) (closed 1 1 0 ∷ made 1 2 0 ∷ []) (one (closed 0 2 1) refl)
    (All-cons P (closed 1 1 0) (made 1 2 0 ∷ []) (one (closed 1 1 0) refl) (All-cons P (made 1 2 0) [] (one (made 1 2 0) refl) (All-nil P))))

rounds_stand : (round : ℕ) → StandBefore (stamp_at entries) (before_round round mixed) (from_round round mixed)
rounds_stand round =
    let s : ℕ → ℕ = stamp_at entries in
    elim (cases_lt 1 round) [
      | inl lt ↦
          let none : from_round round mixed ≡ [] =
          filter_none (λ (l : OutLine). nat_le round l.round) mixed
          (all_mixed (λ (l : OutLine). nat_le round l.round ≡ false) (λ l is. ap (nat_le round) is ∙ lt-leb round 1 lt))
          in
          subst (λ (ls : List OutLine). StandBefore s (before_round round mixed) ls) (sym none) (nothing_behind s (before_round round mixed))
      | inr le ↦
          let none : before_round round mixed ≡ [] =
          filter_none (λ (l : OutLine). nat_lt l.round round) mixed
          (all_mixed (λ (l : OutLine). nat_lt l.round round ≡ false) (λ l is. ap (λ (r : ℕ). nat_lt r round) is ∙ le-ltb 1 round le))
          in
          subst (λ (ls : List OutLine). StandBefore s ls (from_round round mixed)) (sym none) (nothing_before s (from_round round mixed))
    ]

mixed_has_one : HaveOneOrder entries mixed
mixed_has_one = record {
  rising = (omega arith, (omega arith, tt));
  threads = λ thread before after is. cut_stands (stamp_at entries) 0 2 (of_thread thread mixed) before after (thread_follows thread) is;
  rounds = rounds_stand;
}
