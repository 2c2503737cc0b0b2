-- That each entry of the catalogs stands behind as many entries of the table as its stamp says is one order of all calls: of two calls
-- one is before the other, none is before itself, and what is before a call is before all that is behind it.
use Rattle.std.proofs.Common.{◌≡◌, ℕ, ◌<◌, ◌≤◌, ◌⊎◌, Bool, cond, [], ◌∷◌, length, ap, ◌∙◌, arith, inl, inr, ne_eqb}
use Rattle.std.proofs.lemmas.Bool.{cases_lt}
use Rattle.catalog_handles.specs.Entry.{Entry, History}
use Rattle.catalog_handles.specs.Stamps.{last_stamp, IsRising, stamp_at}
use Rattle.script_plan.proofs.Orders.{stamp_stands}

-- ---- stamps that never fall

rest_at : (e : Entry) (M : History) (p : ℕ) → p < length M → stamp_at (e ∷ M) p ≡ stamp_at M p
rest_at e M p lt = ap (λ (b : Bool). cond b e.stamp (stamp_at M p)) (ne_eqb (length M) p (λ is. omega (arith, is, lt)))

below_last : (M : History) → IsRising M → (p : ℕ) → p < length M → stamp_at M p ≤ last_stamp M
below_last [] rising p lt = absurd (omega (arith, lt))
below_last (e ∷ M) rising p lt =
    elim (cases_lt p (length M)) [
      | inl low ↦
          let here : stamp_at (e ∷ M) p ≡ stamp_at M p = rest_at e M p low in
          let le : stamp_at M p ≤ last_stamp M = below_last M rising.1 p low in
          let up : last_stamp M ≤ e.stamp = rising.0 in
          omega (arith, here, le, up)
      | inr high ↦
          let last : p ≡ length M = omega (arith, lt, high) in
          let here : stamp_at (e ∷ M) p ≡ e.stamp = ap (stamp_at (e ∷ M)) last ∙ stamp_stands [] M e in
          omega (arith, here)
    ]

rise : (M : History) → IsRising M → (p q : ℕ) → p ≤ q → q < length M → stamp_at M p ≤ stamp_at M q
rise [] rising p q le lt = absurd (omega (arith, lt))
rise (e ∷ M) rising p q le lt =
    elim (cases_lt q (length M)) [
      | inl low ↦
          let first : stamp_at (e ∷ M) p ≡ stamp_at M p = rest_at e M p (omega (arith, le, low)) in
          let second : stamp_at (e ∷ M) q ≡ stamp_at M q = rest_at e M q low in
          let up : stamp_at M p ≤ stamp_at M q = rise M rising.1 p q le low in
          omega (arith, first, second, up)
      | inr high ↦
          let last : q ≡ length M = omega (arith, lt, high) in
          let second : stamp_at (e ∷ M) q ≡ e.stamp = ap (stamp_at (e ∷ M)) last ∙ stamp_stands [] M e in
          let below : stamp_at (e ∷ M) p ≤ e.stamp = below_last (e ∷ M) rising p (omega (arith, le, lt)) in
          omega (arith, second, below)
    ]

-- ---- the order

-- a call, by its place in the history of the table or in that of the catalogs
pub data Call : Type 0 where
  OfTable : ℕ → Call
  OfCatalogs : ℕ → Call

-- a call of this history of the catalogs, or of any of the table
abbrev IsOf : History → Call → Type 0
IsOf M (OfTable p) = Unit {0}
IsOf M (OfCatalogs q) = q < length M

-- a call is before another: in each history by the places, and between the two as StandBefore says
abbrev pub Before : History → Call → Call → Type 0
Before M (OfTable p) (OfTable q) = p < q
Before M (OfTable p) (OfCatalogs q) = p < stamp_at M q
Before M (OfCatalogs p) (OfTable q) = stamp_at M p ≤ q
Before M (OfCatalogs p) (OfCatalogs q) = p < q

pub none_before_itself : (M : History) (a : Call) → Before M a a → ⊥
none_before_itself M (OfTable p) lt = omega (arith, lt)
none_before_itself M (OfCatalogs p) lt = omega (arith, lt)

places_differ : (make : ℕ → Call) (p q : ℕ) → (make p ≡ make q) ⊎ ((p < q) ⊎ (q < p))
places_differ make p q =
    elim (cases_lt p q) [
      | inl lt ↦ inr (inl lt)
      | inr ge ↦
          elim (cases_lt q p) [
            | inl gt ↦ inr (inr gt)
            | inr le ↦ let same : p ≡ q = omega (arith, ge, le) in inl (ap make same)
          ]
    ]

table_or_catalogs : (M : History) (p q : ℕ) → Before M (OfTable p) (OfCatalogs q) ⊎ Before M (OfCatalogs q) (OfTable p)
table_or_catalogs M p q = cases_lt p (stamp_at M q)

pub one_before_the_other : (M : History) (a b : Call) → (a ≡ b) ⊎ (Before M a b ⊎ Before M b a)
one_before_the_other M (OfTable p) (OfTable q) = places_differ OfTable p q
one_before_the_other M (OfTable p) (OfCatalogs q) = inr (table_or_catalogs M p q)
one_before_the_other M (OfCatalogs p) (OfTable q) =
    elim (table_or_catalogs M q p) [
      | inl after ↦ inr (inr after)
      | inr before ↦ inr (inl before)
    ]
one_before_the_other M (OfCatalogs p) (OfCatalogs q) = places_differ OfCatalogs p q

pub before_all_behind : (M : History) → IsRising M → (a b c : Call) → IsOf M a → IsOf M b → IsOf M c → Before M a b → Before M b c → Before M a c
before_all_behind M rising (OfTable p) (OfTable q) (OfTable r) x y z first second = omega (arith, first, second)
before_all_behind M rising (OfTable p) (OfTable q) (OfCatalogs r) x y z first second = omega (arith, first, second)
before_all_behind M rising (OfTable p) (OfCatalogs q) (OfTable r) x y z first second = omega (arith, first, second)
before_all_behind M rising (OfTable p) (OfCatalogs q) (OfCatalogs r) x y z first second =
    let up : stamp_at M q ≤ stamp_at M r = rise M rising q r (omega (arith, second)) z in
    omega (arith, first, up)
before_all_behind M rising (OfCatalogs p) (OfTable q) (OfTable r) x y z first second = omega (arith, first, second)
before_all_behind M rising (OfCatalogs p) (OfTable q) (OfCatalogs r) x y z first second =
    elim (cases_lt p r) [
      | inl lt ↦ lt
      | inr ge ↦ let up : stamp_at M r ≤ stamp_at M p = rise M rising r p ge x in absurd (omega (arith, first, second, up))
    ]
before_all_behind M rising (OfCatalogs p) (OfCatalogs q) (OfTable r) x y z first second =
    let up : stamp_at M p ≤ stamp_at M q = rise M rising p q (omega (arith, first)) y in
    omega (arith, second, up)
before_all_behind M rising (OfCatalogs p) (OfCatalogs q) (OfCatalogs r) x y z first second = omega (arith, first, second)
