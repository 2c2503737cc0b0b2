-- What rows that stand for a history say of handles is what the history says.
use Rattle.std.proofs.Common.{◌≡◌, ℕ, ◌<◌, Bool, true, false, ◌==◌, ◌&&◌, not, List, Some, refl, ap, sym, ◌∙◌, inl, inr, arith}
use Rattle.std.proofs.lemmas.Bool.{eqb-true, eq-eqb, ltb-true, lt-ltb, leb-true, le-leb, and_parts, and_from, cases_Bool, false≢true}
use Rattle.std.specs.Prelude.{nat_lt, nat_le}
use Rattle.generations.specs.declared.numbers.Numbers.{Numbers}
use Rattle.generations.specs.Kind.{Kind, owner, row, generation, nth}
use Rattle.generations.specs.Making.{made, newest, AreThreads}
use Rattle.generations.specs.Least.{least_below}
use Rattle.generations.specs.Store.{Store, makings, is_free, free_row, IsInOrder}
use Rattle.generations.specs.Grid.{GridData}
use Rattle.generations.specs.Rows.{Counts, row_at, is_inside, is_newest, says_made, is_free_row, RowsSay}
use Rattle.generations.proofs.Least.{least_passes, least_same}
use Rattle.generations.proofs.Numbering.{nth_itself, made_within, within_made}
use Rattle.generations.proofs.Newest.{all_numbered, other_unkept, free_newest, made_inside}

-- ---- rows alone

-- the newest handle of a row, as the rows have it
pub newest_is : {A R : Type 0} (k : Kind A) (v : Counts R) (rows : GridData R) (h : A) → is_newest v rows (k.numbers h) ≡ true
    → (owner k h < rows.lines) × (row k h < rows.width)
    × (h ≡ nth k (owner k h) (row k h) (v.makes (row_at v rows (owner k h) (row k h))))
newest_is k v rows h is =
    let here : ℕ = v.makes (row_at v rows (owner k h) (row k h)) in
    let parts = and_parts (is_inside rows (k.numbers h)) (here == generation k h) is in
    let inside = and_parts (nat_lt (owner k h) rows.lines) (nat_lt (row k h) rows.width) parts.0 in (
      ltb-true (owner k h) rows.lines inside.0,
      ltb-true (row k h) rows.width inside.1,
      sym (nth_itself k h) ∙ ap (nth k (owner k h) (row k h)) (sym (eqb-true here (generation k h) parts.1)),
    )

-- the least row that may be used is one of the thread's, and has generations left
pub free_row_has : {R : Type 0} (v : Counts R) (generations : ℕ) (rows : GridData R) (w r : ℕ)
    → least_below rows.width (λ q. is_free_row v generations (row_at v rows w q)) ≡ Some r
    → (r < rows.width) × (v.makes (row_at v rows w r) < generations)
free_row_has v generations rows w r is =
    let here = row_at v rows w r in
    let passes = least_passes rows.width r (λ q. is_free_row v generations (row_at v rows w q)) is in
    (passes.1, ltb-true (v.makes here) generations (and_parts (not (v.is_kept here)) (nat_lt (v.makes here) generations) passes.0).1)

-- ---- rows and a history

same_tests : (a b : Bool) → (a ≡ true → b ≡ true) → (b ≡ true → a ≡ true) → a ≡ b
same_tests true b there back = sym (there refl)
same_tests false true there back = back refl
same_tests false false there back = refl

pub inside_is : {A E R : Type 0} (s : Store A E) (v : Counts R) (n : ℕ) (H : List E) (rows : GridData R) (h : Numbers) → RowsSay s v n H rows
    → h.owner < n → h.row < s.rows → is_inside rows h ≡ true
inside_is s v n H rows h says line column =
    let lines = says.lines in
    let width = says.width in
    and_from (nat_lt h.owner rows.lines) (nat_lt h.row rows.width) (lt-ltb h.owner rows.lines (omega arith)) (lt-ltb h.row rows.width (omega arith))

-- a handle was made where the rows say so
pub made_said : {A E R : Type 0} (s : Store A E) (v : Counts R) (n : ℕ) (H : List E) (rows : GridData R) (h : A) → IsInOrder s H
    → AreThreads n (makings s H) → RowsSay s v n H rows → says_made v rows (s.kind.numbers h) ≡ made s.kind (makings s H) h
made_said s v n H rows h o callers says =
    let k = s.kind in
    let x : Numbers = k.numbers h in
    let count : ℕ = v.makes (row_at v rows x.owner x.row) in
    let each = all_numbered s H o.new in
    let lines = says.lines in
    let width = says.width in
    same_tests (says_made v rows x) (made k (makings s H) h)
    (λ is.
    let parts = and_parts (is_inside rows x) (nat_lt 0 x.generation && nat_le x.generation count) is in
    let inside = and_parts (nat_lt x.owner rows.lines) (nat_lt x.row rows.width) parts.0 in
    let bounds = and_parts (nat_lt 0 x.generation) (nat_le x.generation count) parts.1 in
    let line = ltb-true x.owner rows.lines inside.0 in
    let column = ltb-true x.row rows.width inside.1 in
    let some = ltb-true 0 x.generation bounds.0 in
    let most = leb-true x.generation count bounds.1 in
    let same = (says.each x.owner x.row (omega arith) (omega arith)).makes in
    within_made k (makings s H) each h (omega arith) (omega arith))
    (λ before.
    let at = made_inside s n H h o.new callers before in
    let within = made_within k (makings s H) each h before in
    let same = (says.each x.owner x.row at.0 at.1).makes in
    and_from (is_inside rows x) (nat_lt 0 x.generation && nat_le x.generation count) (inside_is s v n H rows x says at.0 at.1)
    (and_from (nat_lt 0 x.generation) (nat_le x.generation count) (lt-ltb 0 x.generation (omega arith))
    (le-leb x.generation count (omega arith))))

-- the newest handle of a row by the rows is that by the history
pub newest_said : {A E R : Type 0} (s : Store A E) (v : Counts R) (n : ℕ) (H : List E) (rows : GridData R) (h : A) → RowsSay s v n H rows
    → is_newest v rows (s.kind.numbers h) ≡ true
    → (owner s.kind h < n) × (row s.kind h < s.rows) × (newest s.kind (makings s H) (owner s.kind h) (row s.kind h) ≡ h)
newest_said s v n H rows h says is =
    let k = s.kind in
    let found = newest_is k v rows h is in
    let lines = says.lines in
    let width = says.width in
    let line : owner k h < rows.lines = found.0 in
    let column : row k h < rows.width = found.1 in
    let stands = says.each (owner k h) (row k h) (omega arith) (omega arith) in
    (omega arith, omega arith, ap (nth k (owner k h) (row k h)) (sym stands.makes) ∙ sym found.2)

-- a handle that is not the newest of a row is not kept
pub not_newest : {A E R : Type 0} (s : Store A E) (v : Counts R) (n : ℕ) (H : List E) (rows : GridData R) (h : A) → IsInOrder s H
    → AreThreads n (makings s H) → RowsSay s v n H rows → is_newest v rows (s.kind.numbers h) ≡ false → s.is_kept H h ≡ false
not_newest s v n H rows h o callers says un =
    let k = s.kind in
    let x : Numbers = k.numbers h in
    let count : ℕ = v.makes (row_at v rows x.owner x.row) in
    elim (cases_Bool (made k (makings s H) h)) [
      | inr unmade ↦ o.known h unmade
      | inl before ↦
          let at = made_inside s n H h o.new callers before in
          other_unkept s H h o (λ same.
          false≢true (sym un ∙ and_from (is_inside rows x) (count == x.generation)
          (inside_is s v n H rows x says at.0 at.1)
          (eq-eqb count x.generation ((says.each x.owner x.row at.0 at.1).makes ∙ sym same))))
    ]

-- the least free row of a thread is the one that the rows say
pub free_row_said : {A E R : Type 0} (s : Store A E) (v : Counts R) (n : ℕ) (H : List E) (rows : GridData R) (w : ℕ) → IsInOrder s H
    → RowsSay s v n H rows → w < n
    → least_below rows.width (λ r. is_free_row v s.generations (row_at v rows w r)) ≡ free_row s H w
free_row_said s v n H rows w o says caller =
    ap (λ m. least_below m (λ r. is_free_row v s.generations (row_at v rows w r))) says.width
    ∙ least_same s.rows (λ r. is_free_row v s.generations (row_at v rows w r)) (is_free s H w) (λ r column.
    let stands = says.each w r caller column in
    ap (λ b. not b && nat_lt (v.makes (row_at v rows w r)) s.generations) stands.kept
    ∙ ap (λ m. not (s.is_kept H (newest s.kind (makings s H) w r)) && nat_lt m s.generations) stands.makes
    ∙ sym (free_newest s H w r o))
