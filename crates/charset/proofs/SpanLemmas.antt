-- Spans by their ends.
use Rattle.std.proofs.Common.{◌≡◌, ◌≢◌, ℕ, zero, suc, ◌+◌, ◌-◌, max, ◌<◌, ◌≤◌, ◌⊎◌, inl, inr, ⊎_elim, Bool, true, false, cond, leb, MatchBool, List, [], ◌∷◌, ◌++◌, length, get_or, Option, Some, None, refl, sym, ◌∙◌, ap, subst, arith, length-append}
use Rattle.std.specs.BTreeMap.{BTreeMap, is_at}
use Rattle.std.specs.BTreeMap.Range.{IsRangeOf}
use Rattle.std.specs.List.{find}
use Rattle.std.specs.Map.{lookup}
use Rattle.std.specs.Option.{IsSome, option_to_list}
use Rattle.std.specs.Ordering.{nat_cmp, ordering_then, is_gt, is_eq, MatchOrdering}
use Rattle.std.specs.declared.cmp.Ordering.{Ordering}
use Rattle.std.specs.declared.cmp.Ordering.TheVariants.{Less, Equal, Greater}
use Rattle.std.specs.declared.ops.Bound.TheVariants.{Included, Unbounded}
use Rattle.std.proofs.Math.ListN.{get_or-append}
use Rattle.std.proofs.Math.Seq.{get_or-append_seam}
use Rattle.std.proofs.lemmas.Bool.{cases_eq, cases_lt, cases_order, false_from_ne_true}
use Rattle.std.proofs.lemmas.Bool.Decides.{nat_tests}
use Rattle.std.proofs.lemmas.List.{same_from_push}
use Rattle.std.proofs.lemmas.List.Elements.{at_read}
use Rattle.std.proofs.lemmas.Cmp.{ranked, nat_cmp_total, tied_itself}
use Rattle.charset.specs.declared.spans.Span.{Span}
use Rattle.charset.specs.Spans.{Spot, last_of, end_of, is_in, spot_at, Meets, IsClear, spot_cmp, ending_at, IsFirstFrom, IsAt, IsNext, AreApart, IsIndexed}

-- ---- the order of spots

-- one number is below another, or they are the same and what follows decides
abbrev IsBefore : ℕ → ℕ → Type 0 → Type 0
IsBefore a b P = (a < b) ⊎ ((a ≡ b) × P)

-- a number that is not above another
nat_upto : (a b : ℕ) → is_gt (nat_cmp a b) ≡ false → a ≤ b
nat_upto a b h = grind (arith, nat_tests)

-- what an order of two numbers that is not above says
before_from : (a b : ℕ) (o : Ordering) (P : Type 0) → (is_gt o ≡ false → P) → is_gt (ordering_then (nat_cmp a b) o) ≡ false → IsBefore a b P
before_from a b o P next h =
    let Q : Ordering → Type 0 = λ r. MatchOrdering r (a < b) (a ≡ b) (b < a) → is_gt (ordering_then r o) ≡ false → IsBefore a b P in
    (elim (nat_cmp a b) as Q [ Less ↦ λ less k. inl less | Equal ↦ λ same k. inr (same, next k) | Greater ↦ λ more k. absurd (cc) ]) (ranked a b (nat_cmp a b) refl) h

-- orders one after another, in another grouping
then_then : (a b c : Ordering) → ordering_then (ordering_then a b) c ≡ ordering_then a (ordering_then b c)
then_then Less b c = refl
then_then Equal b c = refl
then_then Greater b c = refl

-- a spot that is not above another is before it, or has its front and its width and no greater number
spot_upto : (a b : Spot) → is_gt (spot_cmp a b) ≡ false → IsBefore a.0 b.0 (IsBefore a.1 b.1 (a.2 ≤ b.2))
spot_upto a b h =
    before_from a.0 b.0 (ordering_then (nat_cmp a.1 b.1) (nat_cmp a.2 b.2)) (IsBefore a.1 b.1 (a.2 ≤ b.2))
    (λ k. before_from a.1 b.1 (nat_cmp a.2 b.2) (a.2 ≤ b.2) (nat_upto a.2 b.2) k)
    (rw (then_then (nat_cmp a.0 b.0) (nat_cmp a.1 b.1) (nat_cmp a.2 b.2)) at h)

-- a number is itself
nat_same : (a : ℕ) → nat_cmp a a ≡ Equal
nat_same a = tied_itself nat_cmp_total a

-- a number that is not below another
nat_later : (a b : ℕ) → a ≤ b → is_gt (nat_cmp a b) ≡ false
nat_later a b later = grind (arith, nat_tests)

-- a later number of the same front and width is not below
spot_later : (a : Spot) (n : ℕ) → a.2 ≤ n → is_gt (spot_cmp a (a.0, a.1, n)) ≡ false
spot_later a n later = rw (nat_same a.0, nat_same a.1) (nat_later a.2 n later)

-- numbers that tie are the same
tied_from : (a b : ℕ) (o : Ordering) → is_eq (ordering_then (nat_cmp a b) o) ≡ true → (a ≡ b) × (is_eq o ≡ true)
tied_from a b o h =
    let Q : Ordering → Type 0 = λ r. MatchOrdering r (a < b) (a ≡ b) (b < a) → is_eq (ordering_then r o) ≡ true → (a ≡ b) × (is_eq o ≡ true) in
    (elim (nat_cmp a b) as Q [ Less ↦ λ less k. absurd (cc) | Equal ↦ λ same k. (same, k) | Greater ↦ λ more k. absurd (cc) ]) (ranked a b (nat_cmp a b) refl) h

-- one number that ties
tied_one : (a b : ℕ) → is_eq (nat_cmp a b) ≡ true → a ≡ b
tied_one a b h = grind (arith, nat_tests)

-- spots that tie are one
spot_tied : (a b : Spot) → is_eq (spot_cmp a b) ≡ true → a ≡ b
spot_tied a b h =
    let first = tied_from a.0 b.0 (ordering_then (nat_cmp a.1 b.1) (nat_cmp a.2 b.2)) (rw (then_then (nat_cmp a.0 b.0) (nat_cmp a.1 b.1) (nat_cmp a.2 b.2)) at h) in
    let second = tied_from a.1 b.1 (nat_cmp a.2 b.2) first.1 in
    let third : a.2 ≡ b.2 = tied_one a.2 b.2 second.1 in
    ap {B = Spot} (λ (x : ℕ). (x, a.1, a.2)) first.0 ∙ ap {B = Spot} (λ (x : ℕ). (b.0, x, a.2)) second.0 ∙ ap {B = Spot} (λ (x : ℕ). (b.0, b.1, x)) third

-- a spot ties with itself
spot_same : (a : Spot) → is_eq (spot_cmp a a) ≡ true
spot_same a = rw (nat_same a.0, nat_same a.1, nat_same a.2) refl

-- ---- the first end from a spot on

-- an empty range has none
pub no_end : (ends : BTreeMap Spot ℕ) (spot : Spot) (r : List (Spot × ℕ)) → r ≡ [] → IsRangeOf spot_cmp (Included spot) Unbounded ends r → IsFirstFrom ends spot None
no_end ends spot r empty range = λ n later. range.5 empty (spot.0, spot.1, n) (spot_later spot n later, tt)

-- the first end of a range is the first from the spot on
pub first_end : (ends : BTreeMap Spot ℕ) (spot : Spot) (r t : List (Spot × ℕ)) (e : Spot × ℕ) → r ≡ e ∷ t → IsRangeOf spot_cmp (Included spot) Unbounded ends r → IsFirstFrom ends spot (Some e)
first_end ends spot r t e is range =
    let whole : IsRangeOf spot_cmp (Included spot) Unbounded ends (e ∷ t) = subst (λ (es : List (Spot × ℕ)). IsRangeOf spot_cmp (Included spot) Unbounded ends es) is range in
    let from = spot_upto spot e.0 (whole.1).0.0 in (
      (whole.1).1,
      λ front width. grind arith,
      λ n later some.
          let upto = spot_upto e.0 (spot.0, spot.1, n) (whole.2 (spot.0, spot.1, n) (spot_later spot n later, tt) some) in
          grind arith,
    )

-- ---- the next span

-- no span of a front and a width ends from a spot on
pub next_none : (spans : List Span) (ends : BTreeMap Spot ℕ) (spot : Spot) → IsIndexed spans ends → ((n : ℕ) → spot.2 ≤ n → ending_at ends (spot.0, spot.1, n) ≡ None) → IsNext spans spot None
next_none spans ends spot index none = λ i d within at.
    let s = get_or spans i d in
    let place : end_of s ≡ (spot.0, spot.1, last_of s) = ap {B = Spot} (λ (x : ℕ). (x, s.block.width, last_of s)) at.0 ∙ ap {B = Spot} (λ (x : ℕ). (spot.0, x, last_of s)) at.1 in
    ⊎_elim
    (λ below. below)
    (λ later.
    let found : ending_at ends (spot.0, spot.1, last_of s) ≡ Some i = rw place at (index.found i d within) in
    let not_there : ending_at ends (spot.0, spot.1, last_of s) ≡ None = none (last_of s) later in
    absurd (cc))
    (cases_lt (last_of s) spot.2)

-- an option that is not there is none
none_from_not : {X : Type 0} (o : Option X) → (IsSome o → ⊥) → o ≡ None
none_from_not None h = refl
none_from_not (Some x) h = absurd (h refl)

-- an option that is some is there
some_from : (o : Option ℕ) (n : ℕ) → o ≡ Some n → IsSome o
some_from None n h = cc
some_from (Some m) n h = refl

-- where the first end from a spot on has another front or width, there is none
pub next_other : (spans : List Span) (ends : BTreeMap Spot ℕ) (spot : Spot) (e : Spot × ℕ) → IsIndexed spans ends → IsFirstFrom ends spot (Some e) → (e.0.0 ≢ spot.0) ⊎ (e.0.1 ≢ spot.1) → IsNext spans spot None
next_other spans ends spot e index first other =
    next_none spans ends spot index (λ n later. none_from_not (ending_at ends (spot.0, spot.1, n)) (λ some.
    let same = first.2 n later some in
    ⊎_elim (λ apart. apart same.0) (λ apart. apart same.1) other))

-- it is the next span
pub next_some : (spans : List Span) (ends : BTreeMap Spot ℕ) (spot : Spot) (e : Spot × ℕ) (s : Span) → IsIndexed spans ends → IsFirstFrom ends spot (Some e) → e.0.0 ≡ spot.0 → e.0.1 ≡ spot.1
    → s ≡ get_or spans e.1 s → IsNext spans spot (Some s)
next_some spans ends spot e s index first front width is =
    let there = index.there e.0 e.1 s first.0 in
    let here : (d : Span) → get_or spans e.1 d ≡ s = at_read spans (λ (t : Span). t ≡ s) e.1 s there.0 is refl in
    let end : end_of s ≡ e.0 = rw (here s) at there.1 in
    let own_front : s.front ≡ e.0.0 = ap (λ (x : Spot). x.0) end in
    let own_width : s.block.width ≡ e.0.1 = ap (λ (x : Spot). x.1) end in
    let own_last : last_of s ≡ e.0.2 = ap (λ (x : Spot). x.2) end in (
      e.1,
      there.0,
      here,
      (own_front ∙ front, own_width ∙ width),
      omega (arith, first.1 front width),
      λ j d within at.
          let t = get_or spans j d in
          let fronts : s.front ≡ t.front = own_front ∙ front ∙ sym at.0 in
          let widths : s.block.width ≡ t.block.width = own_width ∙ width ∙ sym at.1 in
          let P = (j ≡ e.1) ⊎ ((last_of t < spot.2) ⊎ (last_of s < t.block.first)) in
          let before : (last_of t < s.block.first) → P = λ earlier. ⊎_elim
          (λ below. inr (inl below))
          (λ later.
          let place : end_of t ≡ (spot.0, spot.1, last_of t) = ap {B = Spot} (λ (x : ℕ). (x, t.block.width, last_of t)) at.0 ∙ ap {B = Spot} (λ (x : ℕ). (spot.0, x, last_of t)) at.1 in
          let found : ending_at ends (spot.0, spot.1, last_of t) ≡ Some j = rw place at (index.found j d within) in
          let upto : e.0.2 ≤ last_of t = (first.2 (last_of t) later (some_from _ j found)).2 in
          absurd (omega arith))
          (cases_lt (last_of t) spot.2)
          in
          elim (cases_order j e.1) [
            | inl same ↦ inl same
            | inr apart ↦ ⊎_elim
                (λ earlier. ⊎_elim before (λ after. inr (inr after)) (rw (here d) at (index.apart j e.1 d earlier there.0) (sym fronts) (sym widths)))
                (λ later. ⊎_elim (λ after. inr (inr after)) before (rw (here d) at (index.apart e.1 j d later within) fronts widths))
                apart
          ],
    )

-- ---- the span that has a spot

-- a test that no element passes finds nothing
find_none : (p : Span → Bool) (spans : List Span) → ((i : ℕ) (d : Span) → i < length spans → p (get_or spans i d) ≡ false) → find p spans ≡ None
find_none p [] fails = refl
find_none p (s ∷ spans) fails =
    rw (fails 0 s (omega arith)) (find_none p spans (λ i d within. fails (suc i) d (omega arith)))

-- a test that one element passes, and no other, finds that one
find_one : (p : Span → Bool) (spans : List Span) (i : ℕ) (s : Span) → i < length spans → ((d : Span) → get_or spans i d ≡ s) → p s ≡ true → ((j : ℕ) (d : Span) → j < length spans → (j ≡ i) ⊎ (p (get_or spans j d) ≡ false)) → find p spans ≡ Some s
find_one p [] i s within here passes others = absurd (omega arith)
find_one p (t ∷ spans) zero s within here passes others =
    let same : t ≡ s = here s in
    rw (same, passes) refl
find_one p (t ∷ spans) (suc i) s within here passes others =
    let fails : p t ≡ false = ⊎_elim (λ (e : 0 ≡ suc i). absurd (omega arith)) (λ f. f) (others 0 t (omega arith)) in
    rw fails (find_one p spans i s (omega arith) here passes (λ j d in_spans. ⊎_elim (λ (e : suc j ≡ suc i). inl (omega arith)) (λ f. inr f) (others (suc j) d (omega arith))))

-- a test that some element passes finds one
find_some : (p : Span → Bool) (spans : List Span) (i : ℕ) (s : Span) → i < length spans → ((d : Span) → get_or spans i d ≡ s) → p s ≡ true → IsSome (find p spans)
find_some p [] i s within here passes = absurd (omega arith)
find_some p (t ∷ spans) zero s within here passes =
    let same : t ≡ s = here s in
    rw (same, passes) refl
find_some p (t ∷ spans) (suc i) s within here passes =
    let P : Bool → Type 0 = λ b. IsSome (cond b (Some t) (find p spans)) in
    elim (p t) as P [ true ↦ refl | false ↦ find_some p spans i s (omega arith) here passes ]

-- a span has a spot where its front, its width and its numbers say so
has_spot : (spot : Spot) (s : Span) → IsAt spot s → s.block.first ≤ spot.2 → spot.2 ≤ last_of s → is_in spot s ≡ true
has_spot spot s at above below = rw (at.0, at.1) (grind (arith, nat_tests))

-- else it has it not
lacks_spot : (spot : Spot) (s : Span) → (IsAt spot s → (spot.2 < s.block.first) ⊎ (last_of s < spot.2)) → is_in spot s ≡ false
lacks_spot spot s outside = false_from_ne_true (is_in spot s) (λ e.
    let front : s.front ≡ spot.0 = grind (arith, nat_tests) in
    let width : s.block.width ≡ spot.1 = grind (arith, nat_tests) in
    let within : (s.block.first ≤ spot.2) × (spot.2 ≤ last_of s) = grind (arith, nat_tests) in
    ⊎_elim (λ low. omega arith) (λ high. omega arith) (outside (front, width)))

-- without a next span no span has the spot
pub found_none : (spans : List Span) (spot : Spot) → IsNext spans spot None → find (is_in spot) spans ≡ None
found_none spans spot next = find_none (is_in spot) spans (λ i d within. lacks_spot spot (get_or spans i d) (λ at. inr (next i d within at)))

-- the next span has it, if it begins before it
pub found_next : (spans : List Span) (spot : Spot) (s : Span) → IsNext spans spot (Some s) → s.block.first ≤ spot.2 → find (is_in spot) spans ≡ Some s
found_next spans spot s next begins = find_one (is_in spot) spans next.0 s next.1 next.2 (has_spot spot s next.3 begins next.4)
    (λ j d within. elim (cases_eq j next.0) [
      | inl same ↦ inl same
      | inr other ↦ inr (lacks_spot spot (get_or spans j d) (λ at. ⊎_elim (λ same. absurd (other same)) (λ apart. ⊎_elim (λ low. inr low) (λ high. inl (omega (arith, next.4))) apart) (next.5 j d within at)))
    ])

-- where numbers from the spot on, up to this one, stand before the next span, no span has one of them
pub free_before : (spans : List Span) (spot : Spot) (s : Span) (n : ℕ) → IsNext spans spot (Some s) → spot.2 ≤ n → n < s.block.first → find (is_in (spot.0, spot.1, n)) spans ≡ None
free_before spans spot s n next later before = find_none (is_in (spot.0, spot.1, n)) spans (λ j d within.
    lacks_spot (spot.0, spot.1, n) (get_or spans j d) (λ at. ⊎_elim
    (λ same.
    let is : get_or spans j d ≡ s = ap (λ k. get_or spans k d) same ∙ next.2 d in
    inl (omega (arith, ap (λ (t : Span). t.block.first) is)))
    (λ apart. ⊎_elim (λ low. inr (omega arith)) (λ high. inl (omega arith)) apart)
    (next.5 j d within at)))

-- the same without a next span
pub free_after : (spans : List Span) (spot : Spot) (n : ℕ) → IsNext spans spot None → spot.2 ≤ n → find (is_in (spot.0, spot.1, n)) spans ≡ None
free_after spans spot n next later = find_none (is_in (spot.0, spot.1, n)) spans (λ j d within.
    lacks_spot (spot.0, spot.1, n) (get_or spans j d) (λ at. inr (omega (arith, next j d within at))))

-- ---- one more span

-- where the next span begins within a span, both have a name
pub span_met : (spans : List Span) (new s : Span) → IsNext spans (new.front, new.block.width, new.block.first) (Some s) → s.block.first ≤ last_of new → Meets spans new
span_met spans new s next begins =
    let k : ℕ = max new.block.first s.block.first - new.block.first in
    let place : new.block.first + k ≡ max new.block.first s.block.first = omega arith in (
      k,
      omega arith,
      find_some (is_in (spot_at new k)) spans next.0 s next.1 next.2 (has_spot (spot_at new k) s (next.3.0, next.3.1) (omega (arith, place)) (omega (arith, place, next.4))),
    )

-- where the next span begins behind a span, the other spans are apart from it
pub apart_before : (spans : List Span) (new s : Span) → IsNext spans (new.front, new.block.width, new.block.first) (Some s) → last_of new < s.block.first → (i : ℕ) (d : Span) → i < length spans → AreApart (get_or spans i d) new
apart_before spans new s next behind i d within = λ fronts widths.
    ⊎_elim
    (λ same.
    let is : get_or spans i d ≡ s = ap (λ k. get_or spans k d) same ∙ next.2 d in
    inr (omega (arith, ap (λ (t : Span). t.block.first) is)))
    (λ apart. ⊎_elim (λ low. inl (omega arith)) (λ high. inr (omega arith)) apart)
    (next.5 i d within (fronts, widths))

-- the same without a next span
pub apart_after : (spans : List Span) (new : Span) → IsNext spans (new.front, new.block.width, new.block.first) None → (i : ℕ) (d : Span) → i < length spans → AreApart (get_or spans i d) new
apart_after spans new next i d within = λ fronts widths. inl (omega (arith, next i d within (fronts, widths)))

-- where the next span begins behind a span, that one is clear of all
pub clear_before : (spans : List Span) (new s : Span) → IsNext spans (new.front, new.block.width, new.block.first) (Some s) → last_of new < s.block.first → IsClear spans new
clear_before spans new s next behind = record {
  free = λ k upto. free_before spans (new.front, new.block.width, new.block.first) s (new.block.first + k) next (omega arith) (omega arith);
  apart = apart_before spans new s next behind;
}

-- so it is without a next span
pub clear_after : (spans : List Span) (new : Span) → IsNext spans (new.front, new.block.width, new.block.first) None → IsClear spans new
clear_after spans new next = record {
  free = λ k upto. free_after spans (new.front, new.block.width, new.block.first) (new.block.first + k) next (omega arith);
  apart = apart_after spans new next;
}

-- whether the next span begins within a span tells which
pub met_or_clear : (spans : List Span) (new s : Span) (begins : Bool) → IsNext spans (new.front, new.block.width, new.block.first) (Some s) → begins ≡ leb s.block.first (last_of new) → MatchBool begins (Meets spans new) (IsClear spans new)
met_or_clear spans new s true next is = span_met spans new s next (grind (arith, nat_tests))
met_or_clear spans new s false next is = clear_before spans new s next (grind (arith, nat_tests))

-- spans that are apart end apart
ends_apart : (s t : Span) → AreApart s t → end_of t ≡ end_of s → ⊥
ends_apart s t apart same =
    let front : t.front ≡ s.front = ap (λ (x : Spot). x.0) same in
    let width : t.block.width ≡ s.block.width = ap (λ (x : Spot). x.1) same in
    let last : last_of t ≡ last_of s = ap (λ (x : Spot). x.2) same in
    ⊎_elim (λ low. omega arith) (λ high. omega arith) (apart (sym front) (sym width))

-- spots that differ do not tie
spot_differs : (a b : Spot) → (a ≡ b → ⊥) → is_eq (spot_cmp a b) ≡ false
spot_differs a b apart = false_from_ne_true (is_eq (spot_cmp a b)) (λ e. apart (spot_tied a b e))

-- one more span, apart from the others, is found by its end
pub indexed_push : (spans : List Span) (ends after : BTreeMap Spot ℕ) (new : Span) (at : ℕ) → IsIndexed spans ends → ((i : ℕ) (d : Span) → i < length spans → AreApart (get_or spans i d) new)
    → at ≡ length spans → ((q : Spot) → ending_at after q ≡ cond (is_eq (spot_cmp (end_of new) q)) (Some at) (ending_at ends q)) → IsIndexed (spans ++ new ∷ []) after
indexed_push spans ends after new at index apart last has =
    let long : length (spans ++ new ∷ []) ≡ length spans + 1 = length-append spans (new ∷ []) in
    let early : (i : ℕ) (d : Span) → i < length spans → get_or (spans ++ new ∷ []) i d ≡ get_or spans i d = λ i d within. get_or-append spans (new ∷ []) d i within in
    let late : (d : Span) → get_or (spans ++ new ∷ []) (length spans) d ≡ new = λ d. get_or-append_seam spans new [] d in
    record {
      there = λ spot i d found.
          let P : Bool → Type 0 = λ b. is_eq (spot_cmp (end_of new) spot) ≡ b → cond b (Some at) (ending_at ends spot) ≡ Some i → (i < length (spans ++ new ∷ [])) × (end_of (get_or (spans ++ new ∷ []) i d) ≡ spot) in
          (
          elim (is_eq (spot_cmp (end_of new) spot)) as P [
            | true ↦ λ own e.
                let number : at ≡ i = cc in
                let place : i ≡ length spans = sym number ∙ last in
                (omega arith, ap (λ k. end_of (get_or (spans ++ new ∷ []) k d)) place ∙ ap end_of (late d) ∙ spot_tied (end_of new) spot own)
            | false ↦ λ own e.
                let old = index.there spot i d e in
                (omega (arith, old.0), ap end_of (early i d old.0) ∙ old.1)
          ]
          )
          refl
          (sym (has spot) ∙ found);
      found = λ i d within.
          elim (cases_eq i (length spans)) [
            | inl same ↦
                let is : get_or (spans ++ new ∷ []) i d ≡ new = ap (λ k. get_or (spans ++ new ∷ []) k d) same ∙ late d in
                has (end_of (get_or (spans ++ new ∷ []) i d)) ∙ ap (λ (t : Span). cond (is_eq (spot_cmp (end_of new) (end_of t))) (Some at) (ending_at ends (end_of t))) is
                ∙ ap (λ b. cond b (Some at) (ending_at ends (end_of new))) (spot_same (end_of new)) ∙ ap {B = Option ℕ} (λ (k : ℕ). Some k) (last ∙ sym same)
            | inr other ↦
                let below : i < length spans = omega arith in
                let is : get_or (spans ++ new ∷ []) i d ≡ get_or spans i d = early i d below in
                has (end_of (get_or (spans ++ new ∷ []) i d)) ∙ ap (λ (t : Span). cond (is_eq (spot_cmp (end_of new) (end_of t))) (Some at) (ending_at ends (end_of t))) is
                ∙ ap (λ b. cond b (Some at) (ending_at ends (end_of (get_or spans i d)))) (spot_differs (end_of new) (end_of (get_or spans i d)) (ends_apart (get_or spans i d) new (apart i d below))) ∙ index.found i d below
          ];
      apart = λ i j d earlier within.
          elim (cases_eq j (length spans)) [
            | inl same ↦
                let is : get_or (spans ++ new ∷ []) j d ≡ new = ap (λ k. get_or (spans ++ new ∷ []) k d) same ∙ late d in
                rw (is, early i d (omega arith)) (apart i d (omega arith))
            | inr other ↦
                let below : j < length spans = omega arith in
                rw (early j d below, early i d (omega arith)) (index.apart i j d earlier below)
          ];
    }

-- ends that are the same serve as well
pub indexed_same : (spans : List Span) (ends after : BTreeMap Spot ℕ) → after.entries ≡ ends.entries → IsIndexed spans ends → IsIndexed spans after
indexed_same spans ends after same index =
    let has : (q : Spot) → ending_at after q ≡ ending_at ends q = λ q. ap (λ (es : List (Spot × ℕ)). lookup (is_at (spot_cmp q)) es) same in
    record {
      there = λ spot i d found. index.there spot i d (sym (has spot) ∙ found);
      found = λ i d within. has (end_of (get_or spans i d)) ∙ index.found i d within;
      apart = index.apart;
    }

-- a span that was added last and is taken off leaves the others
pub popped_back : (spans after : List Span) (s : Span) (r : Option Span) → IsSome r → spans ++ s ∷ [] ≡ after ++ option_to_list r → after ≡ spans
popped_back spans after s None some same = cc
popped_back spans after s (Some t) some same = sym (same_from_push spans after s t same).0
