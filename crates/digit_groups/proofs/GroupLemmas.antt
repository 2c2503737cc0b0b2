-- Groups of digits, one after another from the radix on.
use Rattle.std.proofs.Common.{◌≡◌, ℕ, ◌+◌, ◌-◌, ◌*◌, ◌%◌, ◌<◌, ◌≤◌, List, [], ◌∷◌, ◌++◌, length, Bool, true, false, take, drop, subst, ap, ◌∙◌, sym, refl, arith}
use Rattle.std.specs.Prelude.{ℤ, pos, negsuc, suc, zero, nat_lt, ◌==◌, Some, None, if◌then◌else◌}
use Rattle.std.specs.List.{list_all}
use Rattle.std.proofs.Math.Nat.{mod_self, mod-eq_of_lt, add-mod_right}
use Rattle.std.proofs.Math.Seq.{take-add}
use Rattle.std.proofs.lemmas.Grind.{common_steps}
use Rattle.std.proofs.lemmas.Bool.Decides.{nat_tests}
use Rattle.std.proofs.lemmas.List.{append_assoc, length-append, length-take, length-drop}
use Rattle.digit_groups.specs.Groups.{is_size, separates, separated, separators, last_group, before_last}

-- no separator stands inside a group
inside : (s k : ℕ) (ss : List ℤ) → k < s → separates (pos s ∷ ss) k ≡ false
inside s k [] h = let whole : k % s ≡ k = mod-eq_of_lt h in grind (arith, common_steps, whole)
inside s k (t ∷ ss) h = grind (arith, common_steps)

-- one stands before a group
before : (s : ℕ) (ss : List ℤ) → 0 < s → separates (pos s ∷ ss) s ≡ true
before s [] h = grind (arith, common_steps, mod_self s)
before s (t ∷ ss) h = grind (arith, common_steps)

-- further groups are those of the further sizes
beyond : (s k : ℕ) (ss : List ℤ) → 0 < s → 0 < k → separates (pos s ∷ ss) (k + s) ≡ separates (before_last (pos s ∷ ss)) k
beyond s k [] h g = let same : (k + s) % s ≡ k % s = add-mod_right k s in grind (arith, common_steps, same)
beyond s k (t ∷ ss) h g =
    let back : (k + s) - s ≡ k = omega arith in
    let past : nat_lt s (k + s) ≡ true = grind (arith, nat_tests) in
    let some : nat_lt 0 (k + s) ≡ true = grind (arith, nat_tests) in
    let here : nat_lt 0 k ≡ true = grind (arith, nat_tests) in
    let other : ((k + s) == s) ≡ false = grind (arith, nat_tests) in
    rw (past, some, here, other, back) refl

-- a list without sizes, or one that begins with -1, groups nothing
pub plain : (d : List ℕ) (sizes : List ℤ) (sep : List ℕ) → ((k : ℕ) → k < length d → separates sizes k ≡ false) → separated d sizes sep ≡ d
unfolding separated
plain [] sizes sep h = refl
plain (x ∷ xs) sizes sep h =
    let here : separates sizes (length xs) ≡ false = h (length xs) (omega arith) in
    let later : separated xs sizes sep ≡ xs = plain xs sizes sep (λ k lt. h k (omega arith)) in
    rw (here, later) refl

pub none : (sizes : List ℤ) (n : ℕ) → ((k : ℕ) → k < n → separates sizes k ≡ false) → separators sizes n ≡ 0
unfolding separators
none sizes zero h = refl
none sizes (suc n) h =
    let here : separates sizes n ≡ false = h n (omega arith) in
    let later : separators sizes n ≡ 0 = none sizes n (λ k lt. h k (omega arith)) in
    rw (here, later) refl

no_one : (b : Bool) (n : ℕ) → (if b then 1 else 0) + n ≡ 0 → b ≡ false
no_one true n h = absurd (omega (arith, h))
no_one false n h = refl

-- digits in which no separator stands
pub none_separated : (d : List ℕ) (sizes : List ℤ) (sep : List ℕ) → separators sizes (length d) ≡ 0 → separated d sizes sep ≡ d
unfolding separated separators
none_separated [] sizes sep h = refl
none_separated (x ∷ xs) sizes sep h =
    let later : separators sizes (length xs) ≡ 0 = omega (arith, h) in
    let inside : separates sizes (length xs) ≡ false = no_one (separates sizes (length xs)) (separators sizes (length xs)) h in
    let rest : separated xs sizes sep ≡ xs = none_separated xs sizes sep later in
    rw (inside, rest) refl

-- where no digits stand before the last group, no separator stands in the digits
pub nothing_before : (sizes : List ℤ) (n : ℕ) → list_all is_size sizes ≡ true → last_group sizes n ≡ None → (k : ℕ) → k < n → separates sizes k ≡ false
nothing_before [] n good h k lt = grind (arith, common_steps)
nothing_before (negsuc m ∷ ss) n good h k lt = grind (arith, common_steps)
nothing_before (pos s ∷ ss) n good h k lt =
    let most : k < s = grind (arith, common_steps) in
    inside s k ss most

-- one group, and what stands before it
pub cut : (front back : List ℕ) (s : ℕ) (ss : List ℤ) (sep : List ℕ) → length back ≡ s → 0 < s → 0 < length front →
    separated (front ++ back) (pos s ∷ ss) sep ≡ separated front (before_last (pos s ∷ ss)) sep ++ (sep ++ back)
unfolding separated
cut [] back s ss sep e h g = absurd (omega arith)
cut (f ∷ []) back s ss sep e h g =
    let here : separates (pos s ∷ ss) (length back) ≡ true = rw e (before s ss h) in
    let group : separated back (pos s ∷ ss) sep ≡ back = plain back (pos s ∷ ss) sep (λ k lt. inside s k ss (omega arith)) in
    rw (here, group) refl
cut (f ∷ g ∷ fs) back s ss sep e h p =
    let later : separated ((g ∷ fs) ++ back) (pos s ∷ ss) sep ≡ separated (g ∷ fs) (before_last (pos s ∷ ss)) sep ++ (sep ++ back) = cut (g ∷ fs) back s ss sep e h (omega arith) in
    let long : length ((g ∷ fs) ++ back) ≡ length (g ∷ fs) + s = omega (arith, length-append (g ∷ fs) back) in
    let same : separates (pos s ∷ ss) (length ((g ∷ fs) ++ back)) ≡ separates (before_last (pos s ∷ ss)) (length (g ∷ fs)) = rw long (beyond s (length (g ∷ fs)) ss h (omega arith)) in
    ap (λ t. f ∷ ((if separates (pos s ∷ ss) (length ((g ∷ fs) ++ back)) then sep else []) ++ t)) later
    ∙ ap (λ b. f ∷ ((if b then sep else []) ++ (separated (g ∷ fs) (before_last (pos s ∷ ss)) sep ++ (sep ++ back)))) same
    ∙ ap (λ t. f ∷ t) (sym (append_assoc (if separates (before_last (pos s ∷ ss)) (length (g ∷ fs)) then sep else []) (separated (g ∷ fs) (before_last (pos s ∷ ss)) sep) (sep ++ back)))

pub count_cut : (k s : ℕ) (ss : List ℤ) → 0 < s → 0 < k → separators (pos s ∷ ss) (k + s) ≡ separators (before_last (pos s ∷ ss)) k + 1
unfolding separators
count_cut zero s ss h g = absurd (omega arith)
count_cut (suc zero) s ss h g =
    let one : suc zero + s ≡ suc s = omega arith in
    let here : separates (pos s ∷ ss) s ≡ true = before s ss h in
    let inner : separators (pos s ∷ ss) s ≡ 0 = none (pos s ∷ ss) s (λ k lt. inside s k ss lt) in
    rw (one, here, inner) refl
count_cut (suc (suc k)) s ss h g =
    let one : suc (suc k) + s ≡ suc (suc k + s) = omega arith in
    let later : separators (pos s ∷ ss) (suc k + s) ≡ separators (before_last (pos s ∷ ss)) (suc k) + 1 = count_cut (suc k) s ss h (omega arith) in
    let same : separates (pos s ∷ ss) (suc k + s) ≡ separates (before_last (pos s ∷ ss)) (suc k) = beyond s (suc k) ss h (omega arith) in
    rw (one, same, later) (omega arith)

-- the bytes of grouped digits
pub length-separated : (d : List ℕ) (sizes : List ℤ) (sep : List ℕ) → length (separated d sizes sep) ≡ length d + separators sizes (length d) * length sep
unfolding separated separators
length-separated [] sizes sep = omega arith
length-separated (x ∷ xs) sizes sep =
    elim (separates sizes (length xs)) as (λ b. length (x ∷ ((if b then sep else []) ++ separated xs sizes sep)) ≡ length (x ∷ xs) + ((if b then 1 else 0) + separators sizes (length xs)) * length sep) [
      | true ↦ omega (arith, length-append sep (separated xs sizes sep), length-separated xs sizes sep)
      | false ↦ omega (arith, length-separated xs sizes sep)
    ]

-- ---- one step of the code

-- what is known of a last group that has digits before it
pub record IsStep (sizes : List ℤ) (n s : ℕ) : Type 0 where
  pub some : 0 < s
  pub less : s < n
  pub rest : list_all is_size (before_last sizes) ≡ true
  pub head : sizes ≡ pos s ∷ drop 1 sizes

pub step : (sizes : List ℤ) (n s : ℕ) → list_all is_size sizes ≡ true → last_group sizes n ≡ Some s → IsStep sizes n s
step [] n s good is = cc
step (negsuc m ∷ ss) n s good is = cc
step (pos t ∷ []) n s good is = record {
  some = grind (arith, common_steps);
  less = grind (arith, common_steps);
  rest = good;
  head = grind (arith, common_steps);
}
step (pos t ∷ u ∷ ss) n s good is = record {
  some = grind (arith, common_steps);
  less = grind (arith, common_steps);
  rest = grind (arith, common_steps);
  head = grind (arith, common_steps);
}

pub step_count : (sizes : List ℤ) (n s : ℕ) → IsStep sizes n s → separators sizes n ≡ separators (before_last sizes) (n - s) + 1
step_count sizes n s is =
    let same : (n - s) + s ≡ n = omega (arith, is.less) in
    let P : List ℤ → Type 0 = λ z. separators z n ≡ separators (before_last z) (n - s) + 1 in
    let at : P (pos s ∷ drop 1 sizes) = let k : ℕ = n - s in subst (λ (m : ℕ). separators (pos s ∷ drop 1 sizes) m ≡ separators (before_last (pos s ∷ drop 1 sizes)) (n - s) + 1) same (count_cut (n - s) s (drop 1 sizes) is.some (omega (arith, is.less))) in
    subst P (sym is.head) at

pub step_cut : (sizes : List ℤ) (n s : ℕ) (d sep : List ℕ) → IsStep sizes n s → n ≤ length d →
    separated (take n d) sizes sep ≡ separated (take (n - s) d) (before_last sizes) sep ++ (sep ++ take (n - (n - s)) (drop (n - s) d))
step_cut sizes n s d sep is fits =
    let front : List ℕ = take (n - s) d in
    let back : List ℕ = take (n - (n - s)) (drop (n - s) d) in
    let whole : front ++ back ≡ take n d =
    let all : (n - s) + (n - (n - s)) ≡ n = omega arith in
    subst (λ (m : ℕ). take (n - s) d ++ take (n - (n - s)) (drop (n - s) d) ≡ take m d) all (sym (take-add (n - s) (n - (n - s)) d)) in
    let size : length back ≡ s = omega (arith, is.less, length-take (n - (n - s)) (drop (n - s) d), length-drop (n - s) d) in
    let some : 0 < length front = omega (arith, is.less, length-take (n - s) d) in
    let P : List ℤ → Type 0 = λ z. separated (take n d) z sep ≡ separated (take (n - s) d) (before_last z) sep ++ (sep ++ take (n - (n - s)) (drop (n - s) d)) in
    let at : P (pos s ∷ drop 1 sizes) = subst (λ (t : List ℕ). separated t (pos s ∷ drop 1 sizes) sep ≡ separated front (before_last (pos s ∷ drop 1 sizes)) sep ++ (sep ++ back)) whole (cut front back s (drop 1 sizes) sep size is.some some) in
    subst P (sym is.head) at

pub end_count : (sizes : List ℤ) (n : ℕ) → list_all is_size sizes ≡ true → last_group sizes n ≡ None → separators sizes n ≡ 0
end_count sizes n good is = none sizes n (nothing_before sizes n good is)

pub end_plain : (sizes : List ℤ) (d sep : List ℕ) → list_all is_size sizes ≡ true → last_group sizes (length d) ≡ None → separated d sizes sep ≡ d
end_plain sizes d sep good is = plain d sizes sep (nothing_before sizes (length d) good is)
