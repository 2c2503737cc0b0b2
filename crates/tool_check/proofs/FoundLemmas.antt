-- Faults, one after another.
use Rattle.std.proofs.Common.{◌≡◌, ℕ, suc, ◌+◌, ◌≤◌, ◌==◌, ◌||◌, ◌&&◌, not, nat_lt, cond, Bool, true, false, List, [], ◌∷◌, ◌++◌, length, Option, Some, None, refl, sym, ap, subst, ◌∙◌, arith, if◌then◌else◌}
use Rattle.std.specs.List.{insert, list_all}
use Rattle.std.proofs.lemmas.Bool.{eqb-false, ltb-true, ltb-false, lt-ltb}
use Rattle.tool_check.specs.declared.fault.Fault.{Fault}
use Rattle.tool_check.specs.Found.{has_line, place_of, with_fault, are_ordered, AreTold}

-- a fault alone
pub first_told : (first : Fault) (n : ℕ) → n ≡ 1 → AreTold first n (first ∷ [])
first_told first n e = record { before = []; behind = []; first_is = refl; ordered = refl; few = omega (arith, e) }

-- a test of a list and of one more
or_false : (a b : Bool) → (a || b) ≡ false → (a ≡ false) × (b ≡ false)
or_false true b e = absurd cc
or_false false b e = (refl, e)

and_true : (a b : Bool) → (a && b) ≡ true → (a ≡ true) × (b ≡ true)
and_true true b e = (refl, e)
and_true false b e = absurd cc

both : (a b : Bool) → a ≡ true → b ≡ true → (a && b) ≡ true
both true b e h = h
both false b e h = absurd cc

-- whether all of these stand on later lines than this one
abbrev all_later : ℕ → List Fault → Bool
all_later line faults = list_all (λ (f : Fault). nat_lt line f.place.line) faults

later_still : (a b : ℕ) (faults : List Fault) → nat_lt a b ≡ true → all_later b faults ≡ true → all_later a faults ≡ true
later_still a b [] lt all = refl
later_still a b (f ∷ fs) lt all =
    let each = and_true (nat_lt b f.place.line) (all_later b fs) all in
    both _ _ (lt-ltb a f.place.line (omega (arith, ltb-true a b lt, ltb-true b f.place.line each.0))) (later_still a b fs lt each.1)

-- a fault before the first one on a later line
abbrev placed : Bool → Fault → Fault → List Fault → List Fault → List Fault
placed true fault f fs more = fault ∷ f ∷ fs
placed false fault f fs more = f ∷ more

abbrev with_placed : Fault → List Fault → List Fault
with_placed fault [] = fault ∷ []
with_placed fault (f ∷ fs) = placed (nat_lt fault.place.line f.place.line) fault f fs (with_placed fault fs)

one_more : (n : ℕ) → 1 + n ≡ suc n
one_more n = omega arith

insert_placed : (b : Bool) (fault f : Fault) (fs more : List Fault) (n : ℕ) → insert fs n fault ≡ more → insert (f ∷ fs) (cond (not b) (1 + n) 0) fault ≡ placed b fault f fs more
insert_placed true fault f fs more n e = refl
insert_placed false fault f fs more n e = ap (λ (k : ℕ). insert (f ∷ fs) k fault) (one_more n) ∙ ap (λ (xs : List Fault). f ∷ xs) e

insert-placed : (fault : Fault) (faults : List Fault) → insert faults (place_of fault.place.line faults) fault ≡ with_placed fault faults
insert-placed fault [] = refl
insert-placed fault (f ∷ fs) = insert_placed (nat_lt fault.place.line f.place.line) fault f fs (with_placed fault fs) (place_of fault.place.line fs) (insert-placed fault fs)

-- what stands on a later line than those stands there with one more that does
later_placed : (b : Bool) (line : ℕ) (fault f : Fault) (fs more : List Fault) → nat_lt line fault.place.line ≡ true → nat_lt line f.place.line ≡ true → all_later line fs ≡ true
    → all_later line more ≡ true → all_later line (placed b fault f fs more) ≡ true
later_placed true line fault f fs more own this those all = both _ _ own (both _ _ this those)
later_placed false line fault f fs more own this those all = both _ _ this all

later_with : (line : ℕ) (fault : Fault) (faults : List Fault) → nat_lt line fault.place.line ≡ true → all_later line faults ≡ true → all_later line (with_placed fault faults) ≡ true
later_with line fault [] own all = both _ _ own refl
later_with line fault (f ∷ fs) own all =
    let each = and_true (nat_lt line f.place.line) (all_later line fs) all in
    later_placed (nat_lt fault.place.line f.place.line) line fault f fs (with_placed fault fs) own each.0 each.1 (later_with line fault fs own each.1)

-- of two lines that are not the same, the one that is not later is earlier
earlier : (a b : ℕ) → nat_lt a b ≡ false → (b == a) ≡ false → nat_lt b a ≡ true
earlier a b le ne = lt-ltb b a (omega (arith, ltb-false a b le, eqb-false b a ne))

ordered_placed : (b : Bool) (fault f : Fault) (fs : List Fault) → nat_lt fault.place.line f.place.line ≡ b → (f.place.line == fault.place.line) ≡ false
    → all_later f.place.line fs ≡ true → are_ordered fs ≡ true → are_ordered (with_placed fault fs) ≡ true → are_ordered (placed b fault f fs (with_placed fault fs)) ≡ true
ordered_placed true fault f fs e ne all ordered more = both _ _ (both _ _ e (later_still fault.place.line f.place.line fs e all)) (both _ _ all ordered)
ordered_placed false fault f fs e ne all ordered more = both _ _ (later_with f.place.line fault fs (earlier fault.place.line f.place.line e ne) all) more

ordered_with : (fault : Fault) (faults : List Fault) → has_line fault.place.line faults ≡ false → are_ordered faults ≡ true → are_ordered (with_placed fault faults) ≡ true
ordered_with fault [] none ordered = refl
ordered_with fault (f ∷ fs) none ordered =
    let n = or_false (f.place.line == fault.place.line) (has_line fault.place.line fs) none in
    let o = and_true (all_later f.place.line fs) (are_ordered fs) ordered in
    ordered_placed (nat_lt fault.place.line f.place.line) fault f fs refl n.0 o.0 o.1 (ordered_with fault fs n.1 o.1)

-- a fault is still there
record Has (first : Fault) (faults : List Fault) : Type 0 where
  before : List Fault
  behind : List Fault
  parts : faults ≡ before ++ first ∷ behind

front_has : (first f : Fault) (faults : List Fault) → Has first faults → Has first (f ∷ faults)
front_has first f faults has = record { before = f ∷ has.before; behind = has.behind; parts = ap (λ (xs : List Fault). f ∷ xs) has.parts }

first_placed : (b : Bool) (first fault : Fault) (behind more : List Fault) → Has first (placed b fault first behind more)
first_placed true first fault behind more = record { before = fault ∷ []; behind = behind; parts = refl }
first_placed false first fault behind more = record { before = []; behind = more; parts = refl }

other_placed : (b : Bool) (first fault f : Fault) (fs more : List Fault) → Has first fs → Has first more → Has first (placed b fault f fs more)
other_placed true first fault f fs more has has_more = front_has first fault (f ∷ fs) (front_has first f fs has)
other_placed false first fault f fs more has has_more = front_has first f more has_more

placed_has : (first fault : Fault) (before behind : List Fault) → Has first (with_placed fault (before ++ first ∷ behind))
placed_has first fault [] behind = first_placed (nat_lt fault.place.line first.place.line) first fault behind (with_placed fault behind)
placed_has first fault (f ∷ before) behind =
    other_placed (nat_lt fault.place.line f.place.line) first fault f (before ++ first ∷ behind) (with_placed fault (before ++ first ∷ behind))
    (record { before = before; behind = behind; parts = refl }) (placed_has first fault before behind)

length_placed : (b : Bool) (fault f : Fault) (fs more : List Fault) → length more ≡ suc (length fs) → length (placed b fault f fs more) ≡ suc (length (f ∷ fs))
length_placed true fault f fs more e = refl
length_placed false fault f fs more e = ap suc e

length_with : (fault : Fault) (faults : List Fault) → length (with_placed fault faults) ≡ suc (length faults)
length_with fault [] = refl
length_with fault (f ∷ fs) = length_placed (nat_lt fault.place.line f.place.line) fault f fs (with_placed fault fs) (length_with fault fs)

more_told : (first : Fault) (n : ℕ) (faults : List Fault) (fault : Fault) → has_line fault.place.line faults ≡ false → AreTold first n faults → AreTold first (n + 1) (with_placed fault faults)
more_told first n faults fault none told =
    let has : Has first (with_placed fault faults) = subst (λ (xs : List Fault). Has first (with_placed fault xs)) (sym told.first_is) (placed_has first fault told.before told.behind) in
    record {
      before = has.before;
      behind = has.behind;
      first_is = has.parts;
      ordered = ordered_with fault faults none told.ordered;
      few = omega (arith, told.few, length_with fault faults);
    }

as_told : (first : Fault) (n : ℕ) (faults : List Fault) → AreTold first n faults → AreTold first (n + 1) faults
as_told first n faults told = record { before = told.before; behind = told.behind; first_is = told.first_is; ordered = told.ordered; few = omega (arith, told.few) }

chosen_told : (b : Bool) (first : Fault) (n : ℕ) (faults : List Fault) (fault : Fault) → has_line fault.place.line faults ≡ b → AreTold first n faults
    → AreTold first (n + 1) (if b then faults else insert faults (place_of fault.place.line faults) fault)
chosen_told true first n faults fault e told = as_told first n faults told
chosen_told false first n faults fault e told = subst (λ (xs : List Fault). AreTold first (n + 1) xs) (sym (insert-placed fault faults)) (more_told first n faults fault e told)

with_told : (first : Fault) (n : ℕ) (faults : List Fault) (fault : Option Fault) → AreTold first n faults → AreTold first (n + 1) (with_fault faults fault)
with_told first n faults None told = as_told first n faults told
with_told first n faults (Some fault) told = chosen_told (has_line fault.place.line faults) first n faults fault refl told

pub one_more_told : (first : Fault) (n m : ℕ) (faults more : List Fault) (fault : Option Fault) → AreTold first n faults → more ≡ with_fault faults fault → m ≡ n + 1
    → AreTold first m more
one_more_told first n m faults more fault told e by =
    let P : List Fault → Type 0 = λ fs. AreTold first m fs in
    let Q : ℕ → Type 0 = λ k. AreTold first k (with_fault faults fault) in
    subst P (sym e) (subst Q (sym by) (with_told first n faults fault told))

pub fewer_told : (first : Fault) (n m : ℕ) (faults : List Fault) → AreTold first n faults → n ≤ m → AreTold first m faults
fewer_told first n m faults told le = record { before = told.before; behind = told.behind; first_is = told.first_is; ordered = told.ordered; few = omega (arith, told.few, le) }
