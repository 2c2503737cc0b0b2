-- Conversions, one part after another.
use Rattle.std.proofs.Common.{◌≡◌, ℕ, suc, zero, ◌+◌, ◌-◌, ◌<◌, ◌≤◌, List, [], ◌∷◌, length, take, drop, get_or, Option, Some, None, Bool, true, false, arith, refl, ap, subst, ◌∙◌, sym}
use Rattle.std.specs.Prelude.{◌==◌, if◌then◌else◌}
use Rattle.std.proofs.lemmas.Bool.Decides.{nat_tests}
use Rattle.std.proofs.lemmas.List.{drop-drop, drop_all}
use Rattle.digit_groups.specs.Numbers.{further, number_behind, leading_number}
use Rattle.digit_groups.specs.Conversions.{number_after}
use Rattle.digit_groups.proofs.FormatLemmas.{from_index}
use Rattle.strfmon.specs.declared.format.Flags.{Flags}
use Rattle.strfmon.specs.Formats.{with_flag, flags_behind, flags, is_international, conversion, plain}

-- ---- flags

further_twice : {A : Type 0} (n m : ℕ) (r : Option (A × ℕ)) → further n (further m r) ≡ further (m + n) r
further_twice n m None = refl
further_twice n m (Some x) = ap (λ k. Some (x.0, k)) (omega arith)

further_zero : {A : Type 0} (r : Option (A × ℕ)) → further 0 r ≡ r
further_zero None = refl
further_zero (Some x) = ap (λ k. Some (x.0, k)) (omega arith)

-- flags behind bytes that belong to one
pub flags_skip : (k : ℕ) (f : Flags) (bs : List ℕ) → k ≤ length bs → flags_behind k f bs ≡ further k (flags_behind 0 f (drop k bs))
unfolding flags_behind
flags_skip zero f bs h = sym (further_zero (flags_behind 0 f bs))
flags_skip (suc k) f [] h = absurd (omega arith)
flags_skip (suc k) f (c ∷ cs) h =
    ap (λ r. further 1 r) (flags_skip k f cs (omega arith)) ∙ further_twice 1 k (flags_behind 0 f (drop k cs)) ∙ ap (λ n. further n (flags_behind 0 f (drop k cs))) (omega arith)

flag_more : (f g : Flags) (c used : ℕ) (cs : List ℕ) → with_flag f c cs ≡ Some (g, used) → 0 < used → used ≤ length cs + 1 →
    flags_behind 0 f (c ∷ cs) ≡ further used (flags_behind 0 g (drop used (c ∷ cs)))
unfolding flags_behind
flag_more f g c zero cs e h l = absurd (omega arith)
flag_more f g c (suc used) cs e h l =
    rw (e, flags_behind)
    (ap (λ r. further 1 r) (flags_skip used g cs (omega arith)) ∙ further_twice 1 used (flags_behind 0 g (drop used cs)) ∙ ap (λ n. further n (flags_behind 0 g (drop used cs))) (omega arith))

-- the flags from a place on: one more, none more, a wrong one, and the end of the bytes
pub flags_step : (bs : List ℕ) (at used : ℕ) (f g : Flags) → at < length bs → with_flag f (get_or bs at 0) (take (length bs - (at + 1)) (drop (at + 1) bs)) ≡ Some (g, used) → 0 < used →
    used ≤ length (take (length bs - (at + 1)) (drop (at + 1) bs)) + 1 →
    further at (flags_behind 0 f (drop at bs)) ≡ further (at + used) (flags_behind 0 g (drop (at + used) bs))
flags_step bs at used f g lt e some most =
    let here = from_index bs at lt in
    let step = flag_more f g (get_or bs at 0) used (take (length bs - (at + 1)) (drop (at + 1) bs)) e some most in
    ap (λ t. further at (flags_behind 0 f t)) here
    ∙ ap (λ r. further at r) (step ∙ ap (λ t. further used (flags_behind 0 g (drop used t))) (sym here))
    ∙ further_twice at used (flags_behind 0 g (drop used (drop at bs)))
    ∙ ap (λ n. further n (flags_behind 0 g (drop used (drop at bs)))) (omega arith)
    ∙ ap (λ t. further (at + used) (flags_behind 0 g t)) (drop-drop used at bs)

pub flags_last : (bs : List ℕ) (at : ℕ) (f g : Flags) → at < length bs → with_flag f (get_or bs at 0) (take (length bs - (at + 1)) (drop (at + 1) bs)) ≡ Some (g, 0) → further at (flags_behind 0 f (drop at bs)) ≡ Some (f, at)
unfolding flags_behind
flags_last bs at f g lt e = ap (λ t. further at (flags_behind 0 f t)) (from_index bs at lt) ∙ rw (e, flags_behind) (ap (λ n. Some (f, n)) (omega arith))

pub flags_bad : (bs : List ℕ) (at : ℕ) (f : Flags) → at < length bs → with_flag f (get_or bs at 0) (take (length bs - (at + 1)) (drop (at + 1) bs)) ≡ None → further at (flags_behind 0 f (drop at bs)) ≡ None
unfolding flags_behind
flags_bad bs at f lt e = ap (λ t. further at (flags_behind 0 f t)) (from_index bs at lt) ∙ rw (e, flags_behind) refl

pub flags_over : (bs : List ℕ) (at : ℕ) (f : Flags) → length bs ≤ at → further at (flags_behind 0 f (drop at bs)) ≡ Some (f, at)
unfolding flags_behind
flags_over bs at f ge = ap (λ t. further at (flags_behind 0 f t)) (drop_all at bs ge) ∙ ap (λ n. Some (f, n)) (omega arith)

-- ---- conversions

pub conversion_some : (bs : List ℕ) (f : Flags) (a w d : ℕ) (n : Option ℕ) (x : ℕ) (p : Option ℕ) (y : ℕ) (i : Bool) →
    flags bs ≡ Some (f, a) → leading_number (drop a bs) ≡ Some (w, d) → number_after 35 1 (drop (a + d) bs) ≡ Some (n, x) → number_after 46 1 (drop (a + d + x) bs) ≡ Some (p, y) → is_international (drop (a + d + x + y) bs) ≡ Some i →
    conversion bs ≡ Some (record { flags = f; width = w; whole_digits = n; precision = p; international = i }, a + d + x + y + 1)
unfolding conversion
conversion_some bs f a w d n x p y i e1 e2 e3 e4 e5 = rw (e1, e2, e3, e4, e5) refl

pub no_flags_there : (bs : List ℕ) → flags bs ≡ None → conversion bs ≡ None
unfolding conversion
no_flags_there bs e1 = rw e1 refl

pub no_width_there : (bs : List ℕ) (f : Flags) (a : ℕ) → flags bs ≡ Some (f, a) → leading_number (drop a bs) ≡ None → conversion bs ≡ None
unfolding conversion
no_width_there bs f a e1 e2 = rw (e1, e2) refl

pub no_digits_there : (bs : List ℕ) (f : Flags) (a w d : ℕ) → flags bs ≡ Some (f, a) → leading_number (drop a bs) ≡ Some (w, d) → number_after 35 1 (drop (a + d) bs) ≡ None → conversion bs ≡ None
unfolding conversion
no_digits_there bs f a w d e1 e2 e3 = rw (e1, e2, e3) refl

pub no_precision_there : (bs : List ℕ) (f : Flags) (a w d : ℕ) (n : Option ℕ) (x : ℕ) → flags bs ≡ Some (f, a) → leading_number (drop a bs) ≡ Some (w, d) → number_after 35 1 (drop (a + d) bs) ≡ Some (n, x) → number_after 46 1 (drop (a + d + x) bs) ≡ None → conversion bs ≡ None
unfolding conversion
no_precision_there bs f a w d n x e1 e2 e3 e4 = rw (e1, e2, e3, e4) refl

pub no_letter_there : (bs : List ℕ) (f : Flags) (a w d : ℕ) (n : Option ℕ) (x : ℕ) (p : Option ℕ) (y : ℕ) →
    flags bs ≡ Some (f, a) → leading_number (drop a bs) ≡ Some (w, d) → number_after 35 1 (drop (a + d) bs) ≡ Some (n, x) → number_after 46 1 (drop (a + d + x) bs) ≡ Some (p, y) → is_international (drop (a + d + x + y) bs) ≡ None → conversion bs ≡ None
unfolding conversion
no_letter_there bs f a w d n x p y e1 e2 e3 e4 e5 = rw (e1, e2, e3, e4, e5) refl

-- a letter at once
letter_n : (cs : List ℕ) → conversion (110 ∷ cs) ≡ Some (plain false, 1)
unfolding conversion flags_behind number_behind
letter_n [] = refl
letter_n (c ∷ cs) = refl

letter_i : (cs : List ℕ) → conversion (105 ∷ cs) ≡ Some (plain true, 1)
unfolding conversion flags_behind number_behind
letter_i [] = refl
letter_i (c ∷ cs) = refl

other_letter : (c : ℕ) (cs : List ℕ) (i : Bool) → (if c == 110 then Some false else None) ≡ Some i → conversion (c ∷ cs) ≡ Some (plain i, 1)
other_letter c cs i e =
    (elim (c == 110) as (λ b. (c == 110) ≡ b → (if b then Some false else None) ≡ Some i → conversion (c ∷ cs) ≡ Some (plain i, 1)) [
      | true ↦ λ h g.
          let same : 110 ≡ c = grind (arith, nat_tests) in
          let flag : false ≡ i = cc in
          subst (λ (x : ℕ). conversion (x ∷ cs) ≡ Some (plain i, 1)) same (letter_n cs ∙ ap (λ b. Some (plain b, 1)) flag)
      | false ↦ λ h g. cc
    ]) refl e

pub plain_letter : (bs : List ℕ) (i : Bool) → is_international bs ≡ Some i → conversion bs ≡ Some (plain i, 1)
plain_letter [] i e = cc
plain_letter (c ∷ cs) i e =
    (elim (c == 105) as (λ b. (c == 105) ≡ b → (if b then Some true else if c == 110 then Some false else None) ≡ Some i → conversion (c ∷ cs) ≡ Some (plain i, 1)) [
      | true ↦ λ h g.
          let same : 105 ≡ c = grind (arith, nat_tests) in
          let flag : true ≡ i = cc in
          subst (λ (x : ℕ). conversion (x ∷ cs) ≡ Some (plain i, 1)) same (letter_i cs ∙ ap (λ b. Some (plain b, 1)) flag)
      | false ↦ λ h g. other_letter c cs i g
    ]) refl e
