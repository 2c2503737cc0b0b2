-- The best of the names is the longest, and the first of its length.
use Rattle.std.proofs.Common.{◌≡◌, ℕ, zero, suc, ◌+◌, ◌<◌, ◌≤◌, inl, inr, ◌⊎◌, Bool, true, false, cond, ltb, List, length, Option, Some, None, refl, sym, ap, ◌∙◌, subst, arith}
use Rattle.std.proofs.lemmas.Bool.{ltb-true, ltb-false}
use Rattle.time_cat.specs.TimeValues.{TimeValues}
use Rattle.strptime_fields.specs.declared.item.Names.{Names}
use Rattle.strptime_fields.specs.Reading.{Value, behind, left_by, better, or_name, first_value, short_name, full_name, name_count, longest_of, longest}
use Rattle.strptime_fields.specs.Longest.{Stands, IsFound, AreLongest}

-- what is left behind the names that were tried, each with its index
abbrev Tried : Type 1
Tried = ℕ → List ℕ → Type 0

-- the best of them
record IsBest (first : ℕ) (text : List ℕ) (S : Tried) (found : Value) (i : ℕ) : Type 0 where
  value : found.0 ≡ first + i
  tried : S i found.1
  some : length found.1 < length text
  longest : (j : ℕ) (other : List ℕ) → S j other → length found.1 ≤ length other
  least : (j : ℕ) (other : List ℕ) → S j other → length other ≡ length found.1 → i ≤ j

abbrev IsGood : ℕ → List ℕ → Tried → Option Value → Type 0
IsGood first text S None = (j : ℕ) (other : List ℕ) → S j other → length text ≤ length other
IsGood first text S (Some found) = (i : ℕ) × IsBest first text S found i

-- no name that was tried leaves less than the best one
bound : (first : ℕ) (text : List ℕ) (S : Tried) (best : Option Value) → IsGood first text S best → (j : ℕ) (other : List ℕ) → S j other → length (left_by text best) ≤ length other
bound first text S None good j other is = good j other is
bound first text S (Some found) good j other is = good.1.longest j other is

short : (first : ℕ) (text : List ℕ) (S : Tried) (best : Option Value) → IsGood first text S best → length (left_by text best) ≤ length text
short first text S None good = omega arith
short first text S (Some found) good = omega (arith, good.1.some)

-- the same of names that are tried in other words
same : (first : ℕ) (text : List ℕ) (S S' : Tried) (best : Option Value) → ((j : ℕ) (other : List ℕ) → S' j other → S j other) → ((j : ℕ) (other : List ℕ) → S j other → S' j other) → IsGood first text S best → IsGood first text S' best
same first text S S' None back on good = λ j other is. good j other (back j other is)
same first text S S' (Some found) back on good = (
  good.0,
  record {
    value = good.1.value;
    tried = on good.0 found.1 good.1.tried;
    some = good.1.some;
    longest = λ j other is. good.1.longest j other (back j other is);
    least = λ j other is equal. good.1.least j other (back j other is) equal;
  },
)

-- one name more
abbrev More : Tried → ℕ → List ℕ → List ℕ → Tried
More S n name text = λ j other. S j other ⊎ ((j ≡ n) × (behind name text ≡ Some other))

-- it does not stand there, or leaves no less
kept_by : (first : ℕ) (text : List ℕ) (S : Tried) (n : ℕ) (name : List ℕ) (best : Option Value) → ((j : ℕ) (other : List ℕ) → S j other → j ≤ n) → ((other : List ℕ) → behind name text ≡ Some other → length (left_by text best) ≤ length other)
    → IsGood first text S best → IsGood first text (More S n name text) best
kept_by first text S n name None before no_less good = λ j other is. elim is [ inl old ↦ good j other old | inr new ↦ no_less other new.1 ]
kept_by first text S n name (Some found) before no_less good = (
  good.0,
  record {
    value = good.1.value;
    tried = inl good.1.tried;
    some = good.1.some;
    longest = λ j other is. elim is [ inl old ↦ good.1.longest j other old | inr new ↦ no_less other new.1 ];
    least = λ j other is equal. elim is [ inl old ↦ good.1.least j other old equal | inr new ↦ omega (arith, before good.0 found.1 good.1.tried, new.0) ];
  },
)

same_rest : (o : Option (List ℕ)) (rest other : List ℕ) → o ≡ Some rest → o ≡ Some other → rest ≡ other
same_rest o rest other is is' = let both : Some rest ≡ Some other = sym is ∙ is' in cc

-- it leaves less
taken_by : (first : ℕ) (text : List ℕ) (S : Tried) (n : ℕ) (name rest : List ℕ) (best : Option Value) → behind name text ≡ Some rest → length rest < length (left_by text best) → IsGood first text S best
    → IsGood first text (More S n name text) (Some (first + n, rest))
taken_by first text S n name rest best is less good = (
  n,
  record {
    value = refl;
    tried = inr (refl, is);
    some = omega (arith, less, short first text S best good);
    longest = λ j other tried. elim tried [ inl old ↦ omega (arith, less, bound first text S best good j other old) | inr new ↦ omega (arith, ap length (same_rest (behind name text) rest other is new.1)) ];
    least = λ j other tried equal. elim tried [ inl old ↦ absurd (omega (arith, less, equal, bound first text S best good j other old)) | inr new ↦ omega (arith, new.0) ];
  },
)

chosen_by : (first : ℕ) (text : List ℕ) (S : Tried) (n : ℕ) (name rest : List ℕ) (best : Option Value) (b : Bool) → ((j : ℕ) (other : List ℕ) → S j other → j ≤ n) → behind name text ≡ Some rest → ltb (length rest) (length (left_by text best)) ≡ b → IsGood first text S best
    → IsGood first text (More S n name text) (cond b (Some (first + n, rest)) best)
chosen_by first text S n name rest best true before is less good = taken_by first text S n name rest best is (ltb-true _ _ less) good
chosen_by first text S n name rest best false before is less good =
    kept_by first text S n name best before (λ other is'. omega (arith, ltb-false (length rest) (length (left_by text best)) less, ap length (same_rest (behind name text) rest other is is'))) good

tried_by : (first : ℕ) (text : List ℕ) (S : Tried) (n : ℕ) (name : List ℕ) (best : Option Value) (o : Option (List ℕ)) → ((j : ℕ) (other : List ℕ) → S j other → j ≤ n) → behind name text ≡ o → IsGood first text S best
    → IsGood first text (More S n name text) (better text best (first + n) o)
tried_by first text S n name best None before is good = kept_by first text S n name best before (λ other is'. absurd (let both : None ≡ Some other = sym is ∙ is' in cc)) good
tried_by first text S n name best (Some rest) before is good = chosen_by first text S n name rest best (ltb (length rest) (length (left_by text best))) before is refl good

tried : (first : ℕ) (text : List ℕ) (S : Tried) (n : ℕ) (name : List ℕ) (best : Option Value) → ((j : ℕ) (other : List ℕ) → S j other → j ≤ n) → IsGood first text S best → IsGood first text (More S n name text) (or_name text best (first + n) name)
tried first text S n name best before good = tried_by first text S n name best (behind name text) before refl good

-- ---- the names of the first indices

abbrev Seen : TimeValues → Names → List ℕ → ℕ → Tried
Seen v names text n = λ j other. (j < n) × Stands v names text j other

none_seen : (v : TimeValues) (names : Names) (text : List ℕ) → IsGood (first_value names) text (Seen v names text 0) None
none_seen v names text j other is = absurd (omega (arith, is.0))

abbrev Both : TimeValues → Names → List ℕ → ℕ → Tried
Both v names text n = More (More (Seen v names text n) n (short_name v names n) text) n (full_name v names n) text

by_place : (v : TimeValues) (names : Names) (text : List ℕ) (n j : ℕ) (other : List ℕ) → (j < n) ⊎ (j ≡ n) → Stands v names text j other → Both v names text n j other
by_place v names text n j other (inl less) is = inl (inl (less, is))
by_place v names text n j other (inr equal) (inl is) = inl (inr (equal, subst (λ (k : ℕ). behind (short_name v names k) text ≡ Some other) equal is))
by_place v names text n j other (inr equal) (inr is) = inr (equal, subst (λ (k : ℕ). behind (full_name v names k) text ≡ Some other) equal is)

place : (j n : ℕ) → j < suc n → (j < n) ⊎ (j ≡ n)
place j n less =
    elim (Rattle.std.proofs.lemmas.Bool.cases_lt j n) [ inl is ↦ inl is | inr is ↦ inr (omega (arith, less, is)) ]

first_of_two : (v : TimeValues) (names : Names) (text : List ℕ) (n j : ℕ) (other : List ℕ) → More (Seen v names text n) n (short_name v names n) text j other → Seen v names text (suc n) j other
first_of_two v names text n j other (inl is) = (omega (arith, is.0), is.1)
first_of_two v names text n j other (inr is) = (omega (arith, is.0), inl (subst (λ (k : ℕ). behind (short_name v names k) text ≡ Some other) (sym is.0) is.1))

one_of_two : (v : TimeValues) (names : Names) (text : List ℕ) (n j : ℕ) (other : List ℕ) → Both v names text n j other → Seen v names text (suc n) j other
one_of_two v names text n j other (inl is) = first_of_two v names text n j other is
one_of_two v names text n j other (inr is) = (omega (arith, is.0), inr (subst (λ (k : ℕ). behind (full_name v names k) text ≡ Some other) (sym is.0) is.1))

before_one : (v : TimeValues) (names : Names) (text : List ℕ) (n j : ℕ) (other : List ℕ) → More (Seen v names text n) n (short_name v names n) text j other → j ≤ n
before_one v names text n j other is = let less = (first_of_two v names text n j other is).0 in omega (arith, less)

all_good : (v : TimeValues) (names : Names) (text : List ℕ) (n : ℕ) → IsGood (first_value names) text (Seen v names text n) (longest_of v names text n)
all_good v names text zero = none_seen v names text
all_good v names text (suc n) =
    let first = first_value names in
    let one = tried first text (Seen v names text n) n (short_name v names n) (longest_of v names text n) (λ j other is. omega (arith, is.0)) (all_good v names text n) in
    let two = tried first text (More (Seen v names text n) n (short_name v names n) text) n (full_name v names n) _ (before_one v names text n) one in
    same first text (Both v names text n) (Seen v names text (suc n)) _ (λ j other is. by_place v names text n j other (place j n is.0) is.1) (one_of_two v names text n) two

found_by : (v : TimeValues) (names : Names) (text : List ℕ) (best : Option Value) → IsGood (first_value names) text (Seen v names text (name_count names)) best → IsFound v names text best
found_by v names text None good = λ j other within is. good j other (within, is)
found_by v names text (Some found) good = (
  good.0,
  good.1.value,
  record {
    within = good.1.tried.0;
    stands = good.1.tried.1;
    some = good.1.some;
    longest = λ j other within is. good.1.longest j other (within, is);
    first = λ j other within is equal. good.1.least j other (within, is) equal;
  },
)

pub are_longest : AreLongest
unfolding longest
are_longest v names text = found_by v names text (longest_of v names text (name_count names)) (all_good v names text (name_count names))
