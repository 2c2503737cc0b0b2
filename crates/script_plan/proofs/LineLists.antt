-- Lists of lines, and of the numbers that lines have: what is kept of them, and what goes up.
use Rattle.std.proofs.Common.{◌≡◌, ℕ, zero, suc, ◌+◌, ◌<◌, ◌≤◌, Bool, true, false, cond, List, [], ◌∷◌, ◌++◌, length, refl, ap, ◌∙◌, arith, inl, inr, length-append}
use Rattle.std.specs.Prelude.{◌≢◌, ◌==◌, filter, flat_map, count_by, All}
use Rattle.std.specs.List.{AllPairs, range_with_len}
use Rattle.std.specs.List.Sorted.{IsStrictlyIncreasing}
use Rattle.std.proofs.lemmas.Bool.{ne_eqb}
use Rattle.std.proofs.lemmas.Bool.Decides.{eqb_tells}
use Rattle.std.proofs.lemmas.List.Elements.{All-nil, All-cons, All-head, All-tail, All-append, All-weaker}
use Rattle.std.proofs.lemmas.List.Kept.{AllPairs-cons}
use Rattle.std.proofs.lemmas.List.Sums.{sum_by-cons}

-- ---- what is kept of a list

pub all_left : {X : Type 0} (P : X → Type 0) (xs ys : List X) → All P (xs ++ ys) → All P xs
all_left P [] ys h = All-nil P
all_left P (x ∷ xs) ys h = All-cons P x xs (All-head P x (xs ++ ys) h) (all_left P xs ys (All-tail P x (xs ++ ys) h))

pub all_right : {X : Type 0} (P : X → Type 0) (xs ys : List X) → All P (xs ++ ys) → All P ys
all_right P [] ys h = h
all_right P (x ∷ xs) ys h = all_right P xs ys (All-tail P x (xs ++ ys) h)

kept_all : {X : Type 0} (keep : X → Bool) (x : X) (xs ks : List X) → keep x ≡ true → ks ≡ xs → cond (keep x) (x ∷ ks) ks ≡ x ∷ xs
kept_all keep x xs ks e same = ap (λ (b : Bool). cond b (x ∷ ks) ks) e ∙ ap (λ (ys : List _). x ∷ ys) same

pub filter_all : {X : Type 0} (keep : X → Bool) (xs : List X) → All (λ x. keep x ≡ true) xs → filter keep xs ≡ xs
filter_all keep [] h = refl
filter_all keep (x ∷ xs) h =
    kept_all keep x xs (filter keep xs) (All-head (λ y. keep y ≡ true) x xs h) (filter_all keep xs (All-tail (λ y. keep y ≡ true) x xs h))

kept_none : {X : Type 0} (keep : X → Bool) (x : X) (ks : List X) → keep x ≡ false → ks ≡ [] → cond (keep x) (x ∷ ks) ks ≡ []
kept_none keep x ks e none = ap (λ (b : Bool). cond b (x ∷ ks) ks) e ∙ none

pub filter_none : {X : Type 0} (keep : X → Bool) (xs : List X) → All (λ x. keep x ≡ false) xs → filter keep xs ≡ []
filter_none keep [] h = refl
filter_none keep (x ∷ xs) h =
    kept_none keep x (filter keep xs) (All-head (λ y. keep y ≡ false) x xs h) (filter_none keep xs (All-tail (λ y. keep y ≡ false) x xs h))

one_true : {X : Type 0} (keep : X → Bool) (x : X) (ks : List X) (b : Bool) → keep x ≡ b → All (λ y. keep y ≡ true) ks → All (λ y. keep y ≡ true) (cond b (x ∷ ks) ks)
one_true keep x ks true e h = All-cons (λ y. keep y ≡ true) x ks e h
one_true keep x ks false e h = h

pub filter_true : {X : Type 0} (keep : X → Bool) (xs : List X) → All (λ x. keep x ≡ true) (filter keep xs)
filter_true keep [] = All-nil (λ x. keep x ≡ true)
filter_true keep (x ∷ xs) = one_true keep x (filter keep xs) (keep x) refl (filter_true keep xs)

-- ---- the numbers of those that are kept

one_kept : {X : Type 0} (g : X → List ℕ) (P : ℕ → Type 0) (x : X) (ks : List X) (b : Bool) → All P (g x) → All P (flat_map g ks) → All P (flat_map g (cond b (x ∷ ks) ks))
one_kept g P x ks true h more = All-append P (g x) (flat_map g ks) h more
one_kept g P x ks false h more = more

pub all_kept : {X : Type 0} (g : X → List ℕ) (P : ℕ → Type 0) (keep : X → Bool) (xs : List X) → All P (flat_map g xs) → All P (flat_map g (filter keep xs))
all_kept g P keep [] h = h
all_kept g P keep (x ∷ xs) h =
    one_kept g P x (filter keep xs) (keep x) (all_left P (g x) (flat_map g xs) h) (all_kept g P keep xs (all_right P (g x) (flat_map g xs) h))

fewer_with : {X : Type 0} (g : X → List ℕ) (x : X) (xs ks : List X) (b : Bool) → length (flat_map g ks) ≤ length (flat_map g xs) → length (flat_map g (cond b (x ∷ ks) ks)) ≤ length (flat_map g (x ∷ xs))
fewer_with g x xs ks true le =
    let long = length-append (g x) (flat_map g ks) in
    let longer = length-append (g x) (flat_map g xs) in
    omega arith
fewer_with g x xs ks false le = let longer = length-append (g x) (flat_map g xs) in omega arith

pub fewer_kept : {X : Type 0} (g : X → List ℕ) (keep : X → Bool) (xs : List X) → length (flat_map g (filter keep xs)) ≤ length (flat_map g xs)
fewer_kept g keep [] = omega arith
fewer_kept g keep (x ∷ xs) = fewer_with g x xs (filter keep xs) (keep x) (fewer_kept g keep xs)

-- ---- numbers that go up

abbrev pub GoUp : List ℕ → Type 0
GoUp [] = Unit {0}
GoUp (x ∷ xs) = All (λ (y : ℕ). x < y) xs × GoUp xs

-- each number of one list is below all of another
abbrev pub AreBelow : List ℕ → List ℕ → Type 0
AreBelow xs ys = All (λ (x : ℕ). All (λ (y : ℕ). x < y) ys) xs

up_pairs : (xs : List ℕ) → GoUp xs → AllPairs (λ x y. x < y) xs
up_pairs [] h = λ i j d lt within. absurd (omega arith)
up_pairs (x ∷ xs) h = AllPairs-cons (λ a b. a < b) x xs h.0 (up_pairs xs h.1)

pub increasing : (xs : List ℕ) → GoUp xs → IsStrictlyIncreasing xs
increasing xs h = λ k within. up_pairs xs h k (k + 1) 0 (omega arith) within

range_above : (k a n : ℕ) → k < a → All (λ (y : ℕ). k < y) (range_with_len a n)
range_above k a zero lt = All-nil (λ (y : ℕ). k < y)
range_above k a (suc n) lt = All-cons (λ (y : ℕ). k < y) a (range_with_len (a + 1) n) lt (range_above k (a + 1) n (omega arith))

pub range_up : (a n : ℕ) → GoUp (range_with_len a n)
range_up a zero = tt
range_up a (suc n) = (range_above a (a + 1) n (omega arith), range_up (a + 1) n)

pub up_left : (xs ys : List ℕ) → GoUp (xs ++ ys) → GoUp xs
up_left [] ys h = tt
up_left (x ∷ xs) ys h = (all_left (λ (y : ℕ). x < y) xs ys h.0, up_left xs ys h.1)

pub up_right : (xs ys : List ℕ) → GoUp (xs ++ ys) → GoUp ys
up_right [] ys h = h
up_right (x ∷ xs) ys h = up_right xs ys h.1

pub up_below : (xs ys : List ℕ) → GoUp (xs ++ ys) → AreBelow xs ys
up_below [] ys h = All-nil (λ (x : ℕ). All (λ (y : ℕ). x < y) ys)
up_below (x ∷ xs) ys h = All-cons (λ (z : ℕ). All (λ (y : ℕ). z < y) ys) x xs (all_right (λ (y : ℕ). x < y) xs ys h.0) (up_below xs ys h.1)

pub up_join : (xs ys : List ℕ) → GoUp xs → GoUp ys → AreBelow xs ys → GoUp (xs ++ ys)
up_join [] ys up more below = more
up_join (x ∷ xs) ys up more below =
    let Below : ℕ → Type 0 = λ (z : ℕ). All (λ (y : ℕ). z < y) ys in
    (All-append (λ (y : ℕ). x < y) xs ys up.0 (All-head Below x xs below), up_join xs ys up.1 more (All-tail Below x xs below))

one_up : {X : Type 0} (g : X → List ℕ) (x : X) (ks : List X) (b : Bool) → GoUp (g x) → GoUp (flat_map g ks) → AreBelow (g x) (flat_map g ks) → GoUp (flat_map g (cond b (x ∷ ks) ks))
one_up g x ks true up more below = up_join (g x) (flat_map g ks) up more below
one_up g x ks false up more below = more

-- those of what is kept go up, too
pub up_kept : {X : Type 0} (g : X → List ℕ) (keep : X → Bool) (xs : List X) → GoUp (flat_map g xs) → GoUp (flat_map g (filter keep xs))
up_kept g keep [] h = tt
up_kept g keep (x ∷ xs) h =
    one_up g x (filter keep xs) (keep x) (up_left (g x) (flat_map g xs) h) (up_kept g keep xs (up_right (g x) (flat_map g xs) h))
    (All-weaker (λ (z : ℕ). All (λ (y : ℕ). z < y) (flat_map g xs)) (λ (z : ℕ). All (λ (y : ℕ). z < y) (flat_map g (filter keep xs)))
    (λ z below. all_kept g (λ (y : ℕ). z < y) keep xs below) (g x) (up_below (g x) (flat_map g xs) h))

-- ---- how often a number stands among numbers from one on

abbrev pub is_this : ℕ → ℕ → Bool
is_this place p = p == place

abbrev pub bit_of : ℕ → ℕ → ℕ
bit_of place p = cond (p == place) 1 0

pub count_more : (place a : ℕ) (xs : List ℕ) → count_by (is_this place) (a ∷ xs) ≡ bit_of place a + count_by (is_this place) xs
count_more place a xs = sum_by-cons (bit_of place) a xs

count_none : (place a n : ℕ) → place < a → count_by (is_this place) (range_with_len a n) ≡ 0
count_none place a zero lt = refl
count_none place a (suc n) lt =
    let off : (a == place) ≡ false = ne_eqb a place (λ same. omega (arith, same, lt)) in
    let no : bit_of place a ≡ 0 = ap (λ (b : Bool). cond b 1 0) off in
    let rest : count_by (is_this place) (range_with_len (a + 1) n) ≡ 0 = count_none place (a + 1) n (omega arith) in
    let more = count_more place a (range_with_len (a + 1) n) in
    omega (arith, no, rest, more)

pub count_once : (place a n : ℕ) → a ≤ place → place < a + n → count_by (is_this place) (range_with_len a n) ≡ 1
count_once place a zero le lt = absurd (omega (arith, le, lt))
count_once place a (suc n) le lt =
    let more = count_more place a (range_with_len (a + 1) n) in
    elim (eqb_tells a place) [
      | inl here ↦
          let yes : bit_of place a ≡ 1 = ap (λ (b : Bool). cond b 1 0) here.0 in
          let rest : count_by (is_this place) (range_with_len (a + 1) n) ≡ 0 = let same = here.1 in count_none place (a + 1) n (omega (arith, same)) in
          omega (arith, yes, rest, more)
      | inr apart ↦
          let no : bit_of place a ≡ 0 = ap (λ (b : Bool). cond b 1 0) apart.0 in
          let differs : a ≢ place = apart.1 in
          let rest : count_by (is_this place) (range_with_len (a + 1) n) ≡ 1 = count_once place (a + 1) n (omega (arith, differs, le)) (omega (arith, lt)) in
          omega (arith, no, rest, more)
    ]
