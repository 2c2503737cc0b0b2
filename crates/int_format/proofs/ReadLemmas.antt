-- Grouped digits, read from the first one on.
use Rattle.std.proofs.Common.{◌≡◌, ℕ, suc, zero, ◌+◌, ◌-◌, ◌*◌, ◌/◌, ◌%◌, ◌^◌, ◌<◌, ◌≤◌, max, List, [], ◌∷◌, ◌++◌, length, drop, get_or, Option, Some, None, Result, Ok, true, false, lit<, arith, refl, ap, ◌∙◌, sym, subst, ⊎_elim, ◌≢◌, Bor}
use Rattle.std.specs.Prelude.{MatchOption, IfSome, ℤ, pos, negsuc, nat_eq, nat_lt, codes, replicate, if◌then◌else◌}
use Rattle.std.proofs.Math.Nat.{mul-le-mul_right, pow-le-pow_right, pow-suc, div-eq_of_lt}
use Rattle.std.proofs.lemmas.Bool.{cases_lt}
use Rattle.std.proofs.lemmas.Bool.Decides.{nat_tests}
use Rattle.std.proofs.lemmas.List.{append_cancel_left, length-append, append-nil, nil_from_length}
use Rattle.digit_groups.specs.Groups.{sizes_used, separates, separated, separators, grouped_width}
use Rattle.numeric_cat.specs.NumericValues.{NumericValues}
use Rattle.lc_base.specs.declared.refusal.FormatRefusal.{FormatRefusal}
use Rattle.digit_groups.specs.Digits.{last_digits}
use Rattle.digit_groups.specs.Numbers.{number_behind}
use Rattle.int_format.specs.Digits.{digit_count, digits_at_least}
use Rattle.int_format.specs.Formats.{flags_behind, piece, pieces}
use Rattle.int_format.specs.Ints.{is_number, ints, pieces_text, missing, grouped_digits, between, below_zero, IsTextOf}
use Rattle.digit_groups.proofs.DigitLemmas.{length-last_digits}
use Rattle.int_format.proofs.DigitLemmas.{digit_first, divides_power, few_digits, below_power}

-- ---- one digit after another

-- what is left of a number's digits begins with the first of them
pub first_left : (k x : ℕ) (sizes : List ℤ) (sep : List ℕ) → separated (last_digits (suc k) x) sizes sep ≡ (48 + x / 10 ^ k % 10) ∷ (between sizes sep k ++ separated (last_digits k x) sizes sep)
unfolding separated
first_left k x sizes sep =
    ap (λ t. separated t sizes sep) (digit_first k x)
    ∙ ap (λ n. (48 + x / 10 ^ k % 10) ∷ (between sizes sep n ++ separated (last_digits k x) sizes sep)) (length-last_digits k x)

-- of a number its last k digits are left, and the others have this value
pub record IsLeft (sizes : List ℤ) (sep : List ℕ) (x k value : ℕ) (rest : List ℕ) : Type 0 where
  pub read : x / 10 ^ k ≡ value
  pub text : rest ≡ separated (last_digits k x) sizes sep

pub step_on : (sizes : List ℤ) (sep : List ℕ) (x n k value d : ℕ) (rest behind : List ℕ) → n ≡ suc k → IsLeft sizes sep x n value rest → d < 10 → rest ≡ (48 + d) ∷ (between sizes sep k ++ behind) → IsLeft sizes sep x k (value * 10 + d) behind
step_on sizes sep x n k value d rest behind one is small cut =
    let here : IsLeft sizes sep x (suc k) value rest = subst (λ (m : ℕ). IsLeft sizes sep x m value rest) one is in
    let both : (48 + d) ∷ (between sizes sep k ++ behind) ≡ (48 + x / 10 ^ k % 10) ∷ (between sizes sep k ++ separated (last_digits k x) sizes sep) = sym cut ∙ here.text ∙ first_left k x sizes sep in
    let digit : 48 + d ≡ 48 + x / 10 ^ k % 10 = ap (λ t. get_or t 0 0) both in
    let before : x / 10 ^ k / 10 ≡ value = divides_power x k ∙ here.read in
    record {
      read = omega arith;
      text = append_cancel_left (between sizes sep k) behind (separated (last_digits k x) sizes sep) (ap (λ t. drop 1 t) both);
    }

pub step_back : (sizes : List ℤ) (sep : List ℕ) (x n k value d : ℕ) (rest behind : List ℕ) → n ≡ suc k → IsLeft sizes sep x k (value * 10 + d) behind → d < 10 → rest ≡ (48 + d) ∷ (between sizes sep k ++ behind) → IsLeft sizes sep x n value rest
step_back sizes sep x n k value d rest behind one is small cut =
    let here : x / 10 ^ k ≡ value * 10 + d = is.read in
    let digit : x / 10 ^ k % 10 ≡ d = omega arith in
    let before : x / 10 ^ k / 10 ≡ value = omega arith in
    let whole : IsLeft sizes sep x (suc k) value rest = record {
      read = sym (divides_power x k) ∙ before;
      text = cut ∙ ap (λ t. (48 + d) ∷ (between sizes sep k ++ t)) is.text
          ∙ ap (λ e. (48 + e) ∷ (between sizes sep k ++ separated (last_digits k x) sizes sep)) (sym digit)
          ∙ sym (first_left k x sizes sep);
    } in
    subst (λ (m : ℕ). IsLeft sizes sep x m value rest) (sym one) whole

-- a digit is left, and behind it what stands before the next one
pub digit_left : (sizes : List ℤ) (sep : List ℕ) (x n k value : ℕ) (rest : List ℕ) → n ≡ suc k → IsLeft sizes sep x n value rest → rest ≡ (48 + x / 10 ^ k % 10) ∷ (between sizes sep k ++ separated (last_digits k x) sizes sep)
digit_left sizes sep x n k value rest one is = is.text ∙ ap (λ m. separated (last_digits m x) sizes sep) one ∙ first_left k x sizes sep

pub sep_left : (sizes : List ℤ) (sep : List ℕ) (x n k value d : ℕ) (rest behind : List ℕ) → n ≡ suc k → IsLeft sizes sep x n value rest → rest ≡ (48 + d) ∷ behind → behind ≡ between sizes sep k ++ separated (last_digits k x) sizes sep
sep_left sizes sep x n k value d rest behind one is cut = ap (λ t. drop 1 t) (sym cut ∙ digit_left sizes sep x n k value rest one is)

pub digit_small : (x k : ℕ) → x / 10 ^ k % 10 < 10
digit_small x k = omega arith

-- a digit more stays below the next power of ten, and there is room for it
pub next_below : (n m value d : ℕ) → value < 10 ^ n → d < 10 → m ≡ n + 1 → value * 10 + d < 10 ^ m
next_below n m value d small digit is =
    let power : 10 ^ m ≡ 10 ^ n * 10 = let one : m ≡ suc n = omega arith in ap (λ k. 10 ^ k) one ∙ pow-suc 10 n in
    omega arith

pub nothing_left : (sizes : List ℤ) (sep : List ℕ) (x value : ℕ) (rest : List ℕ) → IsLeft sizes sep x 0 value rest → rest ≡ []
unfolding last_digits separated
nothing_left sizes sep x value rest is = is.text

pub is_over : (sizes : List ℤ) (sep : List ℕ) (value : ℕ) (rest : List ℕ) → rest ≡ [] → IsLeft sizes sep value 0 value rest
unfolding last_digits separated
is_over sizes sep value rest none = record { read = let whole : value / 1 ≡ value = omega arith in whole; text = none }

pub emptied : (l : List ℕ) → nat_eq (length l) 0 ≡ true → l ≡ []
emptied l e = nil_from_length l (grind (arith, nat_tests))

pub not_emptied : (l : List ℕ) → nat_eq (length l) 0 ≡ false → l ≡ [] → ⊥
not_emptied [] e none = cc
not_emptied (x ∷ xs) e none = cc

-- a number is below the power of ten of so many digits or more
pub below_most : (x k : ℕ) → digit_count x ≤ k → x < 10 ^ k
below_most x k few =
    let least : x < 10 ^ digit_count x = below_power x in
    let most : 10 ^ digit_count x ≤ 10 ^ k = pow-le-pow_right (lit< tt) few in
    omega arith

-- the answer of a text
pub ok_inj : (s t : List ℕ) → ◌≡◌ {A = Result (List ℕ) FormatRefusal} (Ok s) (Ok t) → s ≡ t
ok_inj s t same = cc

-- ---- how wide grouped digits are

pub length-separated : (d : List ℕ) (sizes : List ℤ) (sep : List ℕ) → length (separated d sizes sep) ≡ length d + separators sizes (length d) * length sep
unfolding separated separators
length-separated [] sizes sep = omega arith
length-separated (x ∷ xs) sizes sep =
    elim (separates sizes (length xs)) as (λ b. length (x ∷ ((if b then sep else []) ++ separated xs sizes sep)) ≡ length (x ∷ xs) + ((if b then 1 else 0) + separators sizes (length xs)) * length sep) [
      | true ↦ omega (arith, length-append sep (separated xs sizes sep), length-separated xs sizes sep)
      | false ↦ omega (arith, length-separated xs sizes sep)
    ]

pub length-grouped : (n : NumericValues) (x : ℕ) → length (grouped_digits n x) ≡ grouped_width (max (digit_count x) 1) n.grouping (length n.thousands_sep)
length-grouped n x =
    length-separated (digits_at_least 1 x) (sizes_used n.grouping) n.thousands_sep
    ∙ ap (λ k. k + separators (sizes_used n.grouping) k * length n.thousands_sep) (length-last_digits (max (digit_count x) 1) x)

more_separators : (sizes : List ℤ) (n k : ℕ) → separators sizes n ≤ separators sizes (k + n)
unfolding separators
more_separators sizes n zero = let same : 0 + n ≡ n = omega arith in omega (arith, ap (λ m. separators sizes m) same)
more_separators sizes n (suc k) =
    let next : suc k + n ≡ suc (k + n) = omega arith in
    omega (arith, more_separators sizes n k, ap (λ m. separators sizes m) next)

-- a digit more, and a separator perhaps
digit_more : (sizes : List ℤ) (k : ℕ) → separators sizes (k + 1) ≡ (if separates sizes k then 1 else 0) + separators sizes k
unfolding separators
digit_more sizes k = let next : k + 1 ≡ suc k = omega arith in ap (λ m. separators sizes m) next

pub not_narrower : (sizes : List ℤ) (k a b : ℕ) → a ≡ grouped_width (k + 1) sizes 1 → b ≡ grouped_width k sizes 1 → b ≤ a
not_narrower sizes k a b more less = omega (arith, digit_more (sizes_used sizes) k)

pub tells_separator : (sizes : List ℤ) (k a b : ℕ) → a ≡ grouped_width (k + 1) sizes 1 → b ≡ grouped_width k sizes 1 → nat_eq (a - b) 2 ≡ separates (sizes_used sizes) k
tells_separator sizes k a b more less =
    let further : a - b ≡ 1 + (if separates (sizes_used sizes) k then 1 else 0) = omega (arith, digit_more (sizes_used sizes) k) in
    ap (λ m. nat_eq m 2) further
    ∙ elim (separates (sizes_used sizes) k) as (λ t. nat_eq (1 + (if t then 1 else 0)) 2 ≡ t) [
      | true ↦ refl
      | false ↦ refl
    ]

-- more digits are wider
pub wider : (j k : ℕ) (sizes : List ℤ) (s : ℕ) → j < k → grouped_width j sizes s < grouped_width k sizes s
wider j k sizes s less =
    let same : (k - j) + j ≡ k = omega arith in
    let more : separators (sizes_used sizes) j ≤ separators (sizes_used sizes) k = subst (λ (m : ℕ). separators (sizes_used sizes) j ≤ separators (sizes_used sizes) m) same (more_separators (sizes_used sizes) j (k - j)) in
    let all : separators (sizes_used sizes) j * s ≤ separators (sizes_used sizes) k * s = mul-le-mul_right s more in
    omega arith

-- what the digits of a text are
pub record IsCounted (n : NumericValues) (x : ℕ) (text : List ℕ) : Type 0 where
  pub some : 1 ≤ max (digit_count x) 1
  pub few : max (digit_count x) 1 ≤ 20
  pub wide : grouped_width (max (digit_count x) 1) n.grouping (length n.thousands_sep) ≡ length text
  pub below : x < 10 ^ max (digit_count x) 1

pub counted : (n : NumericValues) (x : ℕ) (text : List ℕ) → x < 2 ^ 64 → text ≡ grouped_digits n x → IsCounted n x text
counted n x text small is =
    let few : digit_count x ≤ 20 = few_digits x small in
    record {
      some = omega arith;
      few = omega arith;
      wide = sym (ap length is ∙ length-grouped n x);
      below = below_most x (max (digit_count x) 1) (omega arith);
    }

-- the text of so many digits
pub text_at : (n : NumericValues) (x k : ℕ) (sizes : List ℤ) (sep text : List ℕ) → sizes ≡ n.grouping → sep ≡ n.thousands_sep → k ≡ max (digit_count x) 1 → text ≡ grouped_digits n x → text ≡ separated (last_digits k x) (sizes_used sizes) sep
text_at n x k sizes sep text g t c is = rw (g, t, c) is

pub wide_at : (n : NumericValues) (k len : ℕ) (sizes : List ℤ) (sep : List ℕ) → sizes ≡ n.grouping → sep ≡ n.thousands_sep → grouped_width k n.grouping (length n.thousands_sep) ≡ len → grouped_width k sizes (length sep) ≡ len
wide_at n k len sizes sep g t is = rw (g, t) is

-- ---- texts

-- a number that is not below 0
pub text_of_positive : (n : NumericValues) (x : ℕ) → ints n (codes "%'d") (pos x ∷ []) ≡ Ok (grouped_digits n x)
unfolding flags_behind number_behind piece pieces pieces_text missing
text_of_positive n x =
    let none : 0 - (0 + length (grouped_digits n x)) ≡ 0 = omega arith in
    ap (λ k. Ok ((replicate k 32 ++ grouped_digits n x) ++ [])) none ∙ ap (λ t. Ok t) (append-nil (grouped_digits n x))

pub text_of_negative : (n : NumericValues) (m : ℕ) → ints n (codes "%'d") (negsuc m ∷ []) ≡ Ok (45 ∷ grouped_digits n (suc m))
unfolding flags_behind number_behind piece pieces pieces_text missing
text_of_negative n m =
    let none : 0 - (1 + length (grouped_digits n (suc m))) ≡ 0 = omega arith in
    ap (λ k. Ok ((replicate k 32 ++ (45 ∷ grouped_digits n (suc m))) ++ [])) none ∙ ap (λ t. Ok t) (append-nil (45 ∷ grouped_digits n (suc m)))

-- the text of a number without its sign begins with a digit
pub begins_with_digit : (n : NumericValues) (x : ℕ) (rest : List ℕ) → 45 ∷ rest ≡ grouped_digits n x → ⊥
begins_with_digit n x rest same =
    let k : ℕ = max (digit_count x) 1 - 1 in
    let one : max (digit_count x) 1 ≡ suc k = omega arith in
    let first : grouped_digits n x ≡ (48 + x / 10 ^ k % 10) ∷ (between (sizes_used n.grouping) n.thousands_sep k ++ separated (last_digits k x) (sizes_used n.grouping) n.thousands_sep) = ap (λ j. separated (last_digits j x) (sizes_used n.grouping) n.thousands_sep) one ∙ first_left k x (sizes_used n.grouping) n.thousands_sep in
    let head : 45 ≡ 48 + x / 10 ^ k % 10 = ap (λ t. get_or t 0 0) (same ∙ first) in
    absurd (omega arith)

pub positive_number : (x : ℕ) → x < 2 ^ 64 → is_number (pos x) ≡ true
positive_number x small = grind (arith, nat_tests)

pub positive_below : (x : ℕ) → is_number (pos x) ≡ true → x < 2 ^ 64
positive_below x number = grind (arith, nat_tests)

pub negative_below : (m : ℕ) → is_number (negsuc m) ≡ true → suc m < 2 ^ 64
negative_below m number = let small : m < 2 ^ 63 = grind (arith, nat_tests) in omega arith

pub negative_back : (m : ℕ) → is_number (negsuc m) ≡ true → below_zero (suc m) ≡ Some (negsuc m)
negative_back m number = rw number refl

-- what a number below 0 is read from
pub record IsNegative (x : ℕ) (v : ℤ) : Type 0 where
  pub less : ℕ
  pub magnitude : x ≡ suc less
  pub value : v ≡ negsuc less
  pub number : is_number (negsuc less) ≡ true

pub negative : (x : ℕ) (v : ℤ) → below_zero x ≡ Some v → IsNegative x v
negative zero v is = cc
negative (suc m) v is = elim (nat_lt m (2 ^ 63)) as (λ b. nat_lt m (2 ^ 63) ≡ b → (if b then Some (negsuc m) else None) ≡ Some v → IsNegative (suc m) v) [
  | true ↦ λ t e. record { less = m; magnitude = refl; value = cc; number = t }
  | false ↦ λ t e. cc
] refl is

-- a text that begins with `-` is that of a number below 0
pub record IsBelow (n : NumericValues) (v : ℤ) (body : List ℕ) : Type 0 where
  pub less : ℕ
  pub value : v ≡ negsuc less
  pub text : body ≡ grouped_digits n (suc less)
  pub small : suc less < 2 ^ 64
  pub back : below_zero (suc less) ≡ Some v

pub text_below : (n : NumericValues) (v : ℤ) (body : List ℕ) → is_number v ≡ true → ints n (codes "%'d") (v ∷ []) ≡ Ok (45 ∷ body) → IsBelow n v body
text_below n (pos x) body number text = absurd (begins_with_digit n x body (sym (ok_inj _ _ (sym (text_of_positive n x) ∙ text))))
text_below n (negsuc m) body number text = record {
  less = m;
  value = refl;
  text = ap (λ t. drop 1 t) (sym (ok_inj _ _ (sym (text_of_negative n m) ∙ text)));
  small = negative_below m number;
  back = negative_back m number;
}

pub below_read : (n : NumericValues) (x : ℕ) (body : List ℕ) (r : Option ℤ) → r ≡ below_zero x → body ≡ grouped_digits n x → IfSome r (λ v. IsTextOf n v (45 ∷ body))
below_read n x body None is text = tt
below_read n x body (Some v) is text =
    let found : IsNegative x v = negative x v (sym is) in
    let here : body ≡ grouped_digits n (suc found.less) = text ∙ ap (λ y. grouped_digits n y) found.magnitude in
    subst (λ (w : ℤ). IsTextOf n w (45 ∷ body)) (sym found.value) (record {
      is_in_range = found.number;
      is_text = text_of_negative n found.less ∙ ap (λ t. Ok (45 ∷ t)) (sym here);
    })

-- any other text is that of a number that is not below 0
pub record IsAbove (n : NumericValues) (v : ℤ) (text : List ℕ) : Type 0 where
  pub magnitude : ℕ
  pub value : v ≡ pos magnitude
  pub text_is : text ≡ grouped_digits n magnitude
  pub small : magnitude < 2 ^ 64

pub text_above : (n : NumericValues) (v : ℤ) (text : List ℕ) → is_number v ≡ true → ints n (codes "%'d") (v ∷ []) ≡ Ok text → ((rest : List ℕ) → text ≡ 45 ∷ rest → ⊥) → IsAbove n v text
text_above n (pos x) text number is other = record {
  magnitude = x;
  value = refl;
  text_is = sym (ok_inj _ _ (sym (text_of_positive n x) ∙ is));
  small = positive_below x number;
}
text_above n (negsuc m) text number is other = absurd (other (grouped_digits n (suc m)) (sym (ok_inj _ _ (sym (text_of_negative n m) ∙ is))))

pub above_read : (n : NumericValues) (x : ℕ) (text : List ℕ) → x < 2 ^ 64 → text ≡ grouped_digits n x → IsTextOf n (pos x) text
above_read n x text small is = record {
  is_in_range = positive_number x small;
  is_text = text_of_positive n x ∙ ap (λ t. Ok t) (sym is);
}

-- ---- no two numbers have one text

same_values : (k x y : ℕ) (sizes : List ℤ) (sep : List ℕ) → x / 10 ^ k ≡ y / 10 ^ k → separated (last_digits k x) sizes sep ≡ separated (last_digits k y) sizes sep → x ≡ y
same_values zero x y sizes sep front same = let whole : x / 1 ≡ y / 1 = front in omega arith
same_values (suc k) x y sizes sep front same =
    let both : (48 + x / 10 ^ k % 10) ∷ (between sizes sep k ++ separated (last_digits k x) sizes sep) ≡ (48 + y / 10 ^ k % 10) ∷ (between sizes sep k ++ separated (last_digits k y) sizes sep) =
    sym (first_left k x sizes sep) ∙ same ∙ first_left k y sizes sep in
    let digit : 48 + x / 10 ^ k % 10 ≡ 48 + y / 10 ^ k % 10 = ap (λ t. get_or t 0 0) both in
    let before : x / 10 ^ k / 10 ≡ y / 10 ^ k / 10 = divides_power x k ∙ front ∙ sym (divides_power y k) in
    same_values k x y sizes sep (omega arith) (append_cancel_left (between sizes sep k) _ _ (ap (λ t. drop 1 t) both))

pub same_width : (j k : ℕ) (sizes : List ℤ) (s : ℕ) → grouped_width j sizes s ≡ grouped_width k sizes s → j ≡ k
same_width j k sizes s same = ⊎_elim
    (λ l. absurd (omega (arith, wider j k sizes s l, same)))
    (λ l. ⊎_elim (λ m. absurd (omega (arith, wider k j sizes s m, same))) (λ m. omega arith) (cases_lt k j))
    (cases_lt j k)

same_digits : (n : NumericValues) (x y : ℕ) → grouped_digits n x ≡ grouped_digits n y → x ≡ y
same_digits n x y same =
    let count : max (digit_count x) 1 ≡ max (digit_count y) 1 = same_width _ _ n.grouping (length n.thousands_sep) (sym (length-grouped n x) ∙ ap length same ∙ length-grouped n y) in
    let k : ℕ = max (digit_count x) 1 in
    let fits : x < 10 ^ k = below_most x k (omega arith) in
    let fits_other : y < 10 ^ k = below_most y k (omega arith) in
    same_values k x y (sizes_used n.grouping) n.thousands_sep (div-eq_of_lt fits ∙ sym (div-eq_of_lt fits_other)) (same ∙ ap (λ j. separated (last_digits j y) (sizes_used n.grouping) n.thousands_sep) (sym count))

pub told_apart : (n : NumericValues) (v w : ℤ) → is_number v ≡ true → is_number w ≡ true → ints n (codes "%'d") (v ∷ []) ≡ ints n (codes "%'d") (w ∷ []) → v ≡ w
told_apart n (pos x) (pos y) p q same =
    let both : Ok (grouped_digits n x) ≡ Ok (grouped_digits n y) = sym (text_of_positive n x) ∙ same ∙ text_of_positive n y in
    ap (λ z. pos z) (same_digits n x y (ok_inj _ _ both))
told_apart n (pos x) (negsuc m) p q same =
    let both : Ok (grouped_digits n x) ≡ Ok (45 ∷ grouped_digits n (suc m)) = sym (text_of_positive n x) ∙ same ∙ text_of_negative n m in
    absurd (begins_with_digit n x _ (sym (ok_inj _ _ both)))
told_apart n (negsuc m) (pos x) p q same =
    let both : Ok (45 ∷ grouped_digits n (suc m)) ≡ Ok (grouped_digits n x) = sym (text_of_negative n m) ∙ same ∙ text_of_positive n x in
    absurd (begins_with_digit n x _ (ok_inj _ _ both))
told_apart n (negsuc m) (negsuc k) p q same =
    let both : Ok (45 ∷ grouped_digits n (suc m)) ≡ Ok (45 ∷ grouped_digits n (suc k)) = sym (text_of_negative n m) ∙ same ∙ text_of_negative n k in
    let less : suc m ≡ suc k = same_digits n (suc m) (suc k) (ap (λ t. drop 1 t) (ok_inj _ _ both)) in
    ap (λ z. negsuc z) (omega arith)

-- ---- what stands behind a separator

pub strip_read : (s p : List ℕ) (r : Option (Bor (List ℕ))) → MatchOption r ((rest : List ℕ) → s ≢ p ++ rest) (λ x. s ≡ p ++ x.now) → IfSome r (λ x. s ≡ p ++ x.now)
strip_read s p None m = tt
strip_read s p (Some x) m = m

pub strip_back : (s p : List ℕ) (r : Option (Bor (List ℕ))) → MatchOption r ((rest : List ℕ) → s ≢ p ++ rest) (λ x. s ≡ p ++ x.now) → (rest : List ℕ) → s ≡ p ++ rest → r ≢ None
strip_back s p None m rest e = λ none. m rest e
strip_back s p (Some x) m rest e = λ none. cc
