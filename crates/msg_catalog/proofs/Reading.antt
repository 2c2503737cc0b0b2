-- Numbers, digit by digit.
use Rattle.std.proofs.Common.{◌≡◌, ℕ, zero, suc, ◌+◌, ◌-◌, ◌*◌, ◌^◌, ◌<◌, ◌≤◌, Bool, true, false, List, [], ◌∷◌, drop, length, None, refl, ap, ◌∙◌, arith, nat_le, eqb, get_or}
use Rattle.std.specs.Char.{is_ascii_digit}
use Rattle.std.proofs.lemmas.Bool.Decides.{nat_tests}
use Rattle.msg_catalog.specs.declared.cursor.Spot.{Spot}
use Rattle.std.proofs.lemmas.List.{drop_more}
use Rattle.msg_catalog.specs.Words.{after_word}
use Rattle.msg_catalog.specs.Numbers.{number_from, within}
use Rattle.msg_catalog.specs.Texts.{is_octal, counted, octal}

either : {A : Type 0} (b : Bool) → (b ≡ true → A) → (b ≡ false → A) → A
either true f g = f refl
either false f g = g refl

-- further digits make no number less
number_grows : (n : ℕ) (ss : List Spot) → n ≤ (number_from n ss).0
number_grows n [] = omega arith
number_grows n (s ∷ ss) = either (is_ascii_digit s.byte)
    (λ h. rw h (omega (arith, number_grows (n * 10 + (s.byte - 48)) ss)))
    (λ h. rw h (omega arith))

-- a number that is too large stays so
pub number_over : (most n : ℕ) (ss : List Spot) → most < n → within most (number_from n ss) ≡ None
number_over most n ss over =
    let grows = number_grows n ss in
    let no : nat_le (number_from n ss).0 most ≡ false = grind (arith, nat_tests) in
    rw no refl

-- one octal digit more
pub octal_more : (count n : ℕ) (s : Spot) (ss : List Spot) → count < 3 → is_octal s.byte ≡ true → octal (3 - count) n (s ∷ ss) ≡ counted (octal (3 - (count + 1)) (n * 8 + (s.byte - 48)) ss)
octal_more zero n s ss lt h = rw h refl
octal_more (suc zero) n s ss lt h = rw h refl
octal_more (suc (suc zero)) n s ss lt h = rw h refl
octal_more (suc (suc (suc k))) n s ss lt h = absurd (omega (arith, lt))

-- no further one
pub octal_end : (count n : ℕ) (s : Spot) (ss : List Spot) → count < 3 → is_octal s.byte ≡ false → octal (3 - count) n (s ∷ ss) ≡ (n, 0)
octal_end zero n s ss lt h = rw h refl
octal_end (suc zero) n s ss lt h = rw h refl
octal_end (suc (suc zero)) n s ss lt h = rw h refl
octal_end (suc (suc (suc k))) n s ss lt h = absurd (omega (arith, lt))

no_more : (k : ℕ) → 3 - suc (suc (suc k)) ≡ 0
no_more k = omega arith

-- at the end of a line there is none
pub octal_none : (count n : ℕ) → octal (3 - count) n [] ≡ (n, 0)
octal_none zero n = refl
octal_none (suc zero) n = refl
octal_none (suc (suc zero)) n = refl
octal_none (suc (suc (suc k))) n = rw (no_more k) refl

-- a number of few octal digits is small
pub octal_fits : (count n d : ℕ) → count < 3 → n < 8 ^ count → d < 8 → n * 8 + d < 8 ^ (count + 1)
octal_fits zero n d lt h k = omega (arith, h, k)
octal_fits (suc zero) n d lt h k = omega (arith, h, k)
octal_fits (suc (suc zero)) n d lt h k = omega (arith, h, k)
octal_fits (suc (suc (suc m))) n d lt h k = absurd (omega (arith, lt))

pub octal_small : (count n : ℕ) → count < 3 → n < 8 ^ count → n < 64
octal_small zero n lt h = omega (arith, h)
octal_small (suc zero) n lt h = omega (arith, h)
octal_small (suc (suc zero)) n lt h = omega (arith, h)
octal_small (suc (suc (suc m))) n lt h = absurd (omega (arith, lt))

-- ---- steps of loops

-- a number that becomes too large
pub digits_over : (most n : ℕ) (s : Spot) (ss line : List Spot) → line ≡ s ∷ ss → is_ascii_digit s.byte ≡ true → most < n * 10 + (s.byte - 48) → within most (number_from n line) ≡ None
digits_over most n s ss line e h over = rw (e, h) (number_over most (n * 10 + (s.byte - 48)) ss over)

pub octal_digit : (b : ℕ) → is_octal b ≡ true → b - 48 < 8
octal_digit b h = grind (arith, nat_tests)

-- the count behind one digit more
shifted : (count : ℕ) (o : ℕ × ℕ) → ◌≡◌ {A = ℕ × ℕ} (o.0, count + 1 + o.1) ((counted o).0, count + (counted o).1)
shifted count o = let e : count + 1 + o.1 ≡ count + (o.1 + 1) = omega arith in ap {B = ℕ × ℕ} (λ (k : ℕ). (o.0, k)) e

pub octal_step : (count n : ℕ) (s : Spot) (ss line : List Spot) (total : ℕ × ℕ) → line ≡ s ∷ ss → count < 3 → is_octal s.byte ≡ true
    → ((octal (3 - count) n line).0, count + (octal (3 - count) n line).1) ≡ total
    → ((octal (3 - (count + 1)) (n * 8 + (s.byte - 48)) ss).0, count + 1 + (octal (3 - (count + 1)) (n * 8 + (s.byte - 48)) ss).1) ≡ total
octal_step count n s ss line total e lt h so_far =
    let more : octal (3 - count) n line ≡ counted (octal (3 - (count + 1)) (n * 8 + (s.byte - 48)) ss) = rw e (octal_more count n s ss lt h) in
    shifted count (octal (3 - (count + 1)) (n * 8 + (s.byte - 48)) ss) ∙ rw more at so_far

-- where no further digit comes
pub octal_stop : (count n : ℕ) (line : List Spot) (total : ℕ × ℕ) → octal (3 - count) n line ≡ (n, 0) → ((octal (3 - count) n line).0, count + (octal (3 - count) n line).1) ≡ total → (n, count) ≡ total
octal_stop count n line total stop so_far =
    let same : (n, count) ≡ (n, count + 0) = ap {B = ℕ × ℕ} (λ (k : ℕ). (n, k)) (omega arith) in
    same ∙ rw stop at so_far

pub octal_full : (count n : ℕ) (line : List Spot) → 3 ≤ count → octal (3 - count) n line ≡ (n, 0)
octal_full count n line full = let none : 3 - count ≡ 0 = omega arith in rw none refl

pub octal_line_end : (count n : ℕ) (line : List Spot) → line ≡ [] → octal (3 - count) n line ≡ (n, 0)
octal_line_end count n line e = rw e (octal_none count n)

pub octal_other : (count n : ℕ) (s : Spot) (ss line : List Spot) → line ≡ s ∷ ss → count < 3 → is_octal s.byte ≡ false → octal (3 - count) n line ≡ (n, 0)
octal_other count n s ss line e lt h = rw e (octal_end count n s ss lt h)

rest_drop : (ls : List Spot) (k : ℕ) (s : Spot) (ss : List Spot) → drop k ls ≡ s ∷ ss → ss ≡ drop (suc k) ls
rest_drop [] zero s ss e = absurd cc
rest_drop [] (suc k) s ss e = absurd cc
rest_drop (l ∷ ls) zero s ss e = cc
rest_drop (l ∷ ls) (suc k) s ss e = rest_drop ls k s ss e

-- what follows a byte of a line
pub drop_after : (ls : List Spot) (k : ℕ) (s : Spot) (ss : List Spot) → drop k ls ≡ s ∷ ss → ss ≡ drop (k + 1) ls
drop_after ls k s ss e = let next : k + 1 ≡ suc k = omega arith in rw next (rest_drop ls k s ss e)

-- a word that the line does not begin with
pub word_ends : (word : List ℕ) (i : ℕ) (line : List Spot) → i < length word → line ≡ [] → after_word (drop i word) line ≡ None
word_ends word i line lt e = rw (drop_more word i 0 lt, e) refl

pub word_differs : (word : List ℕ) (i : ℕ) (s : Spot) (ss line : List Spot) → i < length word → line ≡ s ∷ ss → eqb s.byte (get_or word i 0) ≡ false → after_word (drop i word) line ≡ None
word_differs word i s ss line lt e h = rw (drop_more word i 0 lt, e, h) refl
