-- Values that are counted, run after run.
use Rattle.std.proofs.Common.{◌≡◌, ℕ, zero, suc, ◌+◌, ◌-◌, ◌<◌, ◌≤◌, ◌^◌, ◌&&◌, Bool, true, false, refl, sym, ap, ◌∙◌, add-zero, add-one, arith, if◌then◌else◌}
use Rattle.std.specs.Prelude.{Option, None, unwrap_or}
use Rattle.charset.specs.CodedSet.{CodedSet, has}
use Rattle.lc_base.specs.Tables.{first_named}
use Rattle.charset.specs.Portable.{Name}
use Rattle.class_ranges.specs.Runs.{HoldsNowhereFrom, IsRunFrom}
use Rattle.ctype_classes.specs.Classes.{Classes, class_answer, numbered_answer}
use Rattle.lc_base.specs.Named.{place_of}
use Rattle.lc_base.proofs.NamedLemmas.{nothing_named}
use Rattle.tool_check.specs.Summary.{count_below, is_in_class, class_count, numbered_count}

count_below-suc : (test : ℕ → Bool) (n : ℕ) → count_below test (suc n) ≡ (if test n then count_below test n + 1 else count_below test n)
unfolding count_below
count_below-suc test n = refl

pub count_below-zero : (test : ℕ → Bool) → count_below test 0 ≡ 0
unfolding count_below
count_below-zero test = refl

pub count_yes : (test : ℕ → Bool) (n : ℕ) → test n ≡ true → count_below test (n + 1) ≡ count_below test n + 1
count_yes test n e = rw (add-one, count_below-suc test n, e) refl

pub count_no : (test : ℕ → Bool) (n : ℕ) → test n ≡ false → count_below test (n + 1) ≡ count_below test n
count_no test n e = rw (add-one, count_below-suc test n, e) refl

up_one : (test : ℕ → Bool) (from d : ℕ) → count_below test (from + suc d) ≡ count_below test ((from + d) + 1)
up_one test from d = ap (count_below test) (omega arith)

-- none passes from here up to there
count_none : (test : ℕ → Bool) (from d : ℕ) → ((v : ℕ) → from ≤ v → v < from + d → test v ≡ false) → count_below test (from + d) ≡ count_below test from
count_none test from zero none = ap (count_below test) (add-zero from)
count_none test from (suc d) none =
    up_one test from d ∙ count_no test (from + d) (none (from + d) (omega arith) (omega arith)) ∙ count_none test from d (λ v above below. none v above (omega arith))

-- two tests agree from here up to there
step_same : (T P : ℕ → Bool) (b : Bool) (from at : ℕ) → T at ≡ b → P at ≡ b → count_below T at + count_below P from ≡ count_below T from + count_below P at
    → count_below T (at + 1) + count_below P from ≡ count_below T from + count_below P (at + 1)
step_same T P true from at t p e = omega (arith, count_yes T at t, count_yes P at p, e)
step_same T P false from at t p e = omega (arith, count_no T at t, count_no P at p, e)

count_same : (T P : ℕ → Bool) (from d : ℕ) → ((v : ℕ) → from ≤ v → v < from + d → T v ≡ P v) → count_below T (from + d) + count_below P from ≡ count_below T from + count_below P (from + d)
count_same T P from zero same = omega (arith, ap (count_below T) (add-zero from), ap (count_below P) (add-zero from))
count_same T P from (suc d) same =
    let at = from + d in
    let later : count_below T at + count_below P from ≡ count_below T from + count_below P at = count_same T P from d (λ v above below. same v above (omega arith)) in
    omega (arith, up_one T from d, up_one P from d, step_same T P (P at) from at (same at (omega arith) (omega arith)) refl later)

both_no : (b c : Bool) → b ≡ false → (b && c) ≡ false
both_no b c e = rw e refl

both_yes : (b c : Bool) → b ≡ true → (b && c) ≡ c
both_yes b c e = rw e refl

-- the run from here on, whose members were counted
pub run_counted : (has P : ℕ → Bool) (from first last count members : ℕ) → IsRunFrom has from first last → count ≡ count_below (λ w. has w && P w) from
    → count_below P first + members ≡ count_below P (last + 1) → count + members ≡ count_below (λ w. has w && P w) (last + 1)
run_counted has P from first last count members run e m =
    let T : ℕ → Bool = λ w. has w && P w in
    let to_first : from + (first - from) ≡ first = omega (arith, run.within.0) in
    let to_end : first + ((last + 1) - first) ≡ last + 1 = omega (arith, run.within.1) in
    let before : count_below T (from + (first - from)) ≡ count_below T from =
    count_none T from (first - from) (λ v above below. both_no (has v) (P v) (run.least v above (omega (arith, below, to_first)))) in
    let inside : count_below T (first + ((last + 1) - first)) + count_below P first ≡ count_below T first + count_below P (first + ((last + 1) - first)) =
    count_same T P first ((last + 1) - first) (λ v above below. both_yes (has v) (P v) (run.unbroken v above (omega (arith, below, to_end)))) in
    omega (arith, e, m, before, inside, ap (count_below T) to_first, ap (count_below T) to_end, ap (count_below P) to_end)

-- nothing is left
pub rest_counted : (has P : ℕ → Bool) (from count : ℕ) → HoldsNowhereFrom has from → from ≤ 2 ^ 32 → count ≡ count_below (λ w. has w && P w) from
    → count ≡ count_below (λ w. has w && P w) (2 ^ 32)
rest_counted has P from count nowhere le e =
    let T : ℕ → Bool = λ w. has w && P w in
    let to_end : from + (2 ^ 32 - from) ≡ 2 ^ 32 = omega (arith, le) in
    e ∙ sym (count_none T from (2 ^ 32 - from) (λ v above below. both_no (has v) (P v) (nowhere v above))) ∙ ap (count_below T) to_end

pub last_counted : (test : ℕ → Bool) (last count : ℕ) → last + 1 ≡ 2 ^ 32 → count ≡ count_below test (last + 1) → count ≡ count_below test (2 ^ 32)
last_counted test last count at e = e ∙ ap (count_below test) at

-- ---- a class by its number

-- tests that agree everywhere are passed alike often
alike : (T P : ℕ → Bool) (n : ℕ) → ((w : ℕ) → T w ≡ P w) → count_below T n ≡ count_below P n
alike T P zero same = count_below-zero T ∙ sym (count_below-zero P)
alike T P (suc n) same = rw (count_below-suc T n, count_below-suc P n, same n, alike T P n same) refl

-- the characters of a class are those of the class with its number
pub class_counted : (set : CodedSet) (classes : Classes) (class : Name) (number : ℕ) → ((w : ℕ) → numbered_answer classes number w ≡ class_answer classes class w)
    → numbered_count set classes number ≡ class_count set classes class
class_counted set classes class number same =
    alike _ _ (2 ^ 32) (λ w. ap (λ (answer : Option Bool). has set w && unwrap_or answer false) (same w))

both_none : (b c : Bool) → c ≡ false → (b && c) ≡ false
both_none true c e = e
both_none false c e = refl

-- no class of that name has a character
pub none_counted : (set : CodedSet) (classes : Classes) (class : Name) → place_of classes class ≡ None → class_count set classes class ≡ 0
none_counted set classes class none =
    let unnamed : first_named classes class ≡ None = nothing_named classes class none in
    let outside : (w : ℕ) → is_in_class classes class w ≡ false = λ w. rw unnamed refl in
    count_none (λ w. has set w && is_in_class classes class w) 0 (2 ^ 32) (λ w above below. both_none (has set w) (is_in_class classes class w) (outside w)) ∙ count_below-zero _
