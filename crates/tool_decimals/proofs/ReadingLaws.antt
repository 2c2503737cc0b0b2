-- What is read is a number as the locale writes it, and each such number is read.
use Rattle.std.proofs.Common.{◌≡◌, ◌≤◌, ◌<◌, ◌+◌, ◌-◌, ℕ, zero, suc, Bool, true, false, cond, List, [], ◌∷◌, ◌++◌, length, get_or, take, drop, Option, Some, None, Result, Ok, Err, refl, sym, ap, ◌∙◌, subst, arith}
use Rattle.std.specs.Prelude.{ℤ, nat_eq, nat_lt, ◌==◌, is_some, option_map, if◌then◌else◌, ◌||◌, ◌&&◌}
use Rattle.std.specs.Char.{is_ascii_digit}
use Rattle.std.specs.List.{list_all, prefix_len, starts_with, common_prefix_len}
use Rattle.std.specs.Str.{bytes_eq}
use Rattle.std.proofs.lemmas.Bool.Decides.{nat_tests, Decides-eqb}
use Rattle.std.proofs.lemmas.Grind.{common_steps}
use Rattle.std.proofs.lemmas.List.{append-nil, append_assoc, length-append, length-drop, take-append-drop, take_at, drop_all, drop_at, drop_more, drop-drop}
use Rattle.std.proofs.lemmas.List.Sums.{common_prefix_len-drop_no, common_prefix_len-drop_yes, prefix_len-le-length}
use Rattle.std.proofs.lemmas.Slice.Eq.{bytes_eq-Decides, starts_is}
use Rattle.digit_groups.specs.Groups.{grouped, separated, separates, sizes_used}
use Rattle.digit_groups.proofs.GroupLemmas.{plain}
use Rattle.numeric_cat.specs.NumericValues.{NumericValues}
use Rattle.tool_decimals.specs.declared.read.NumberFault.{NumberFault}
use Rattle.tool_decimals.specs.declared.read.NumberWhy.TheVariants.{ManyDigits, NoDigit, OtherByte}
use Rattle.tool_decimals.specs.Decimals.{Number}
use Rattle.tool_decimals.specs.Readings.{AreToldApart, IsSpelled, behind_text, first_digit, minus, spelled}
use Rattle.tool_decimals.specs.Scans.{and_then, behind_digits, digit_at, digits_at, fault, fraction_at, fraction_digits, has_minus, in_groups, reading, sign_length, whole_at, with_digit}

-- ---- tools

-- what was read in front, and what is read behind it
bind_ok : {A B : Type 0} (r : Result A NumberFault) (f : A → Result B NumberFault) (y : B) → and_then r f ≡ Ok y → (x : A) × (r ≡ Ok x) × (f x ≡ Ok y)
bind_ok (Ok x) f y e = (x, refl, e)
bind_ok (Err e) f y h = absurd cc

-- a test that had to hold
passed_test : {A : Type 0} (b : Bool) (r : Result A NumberFault) (f : NumberFault) (y : A) → cond b r (Err f) ≡ Ok y → (b ≡ true) × (r ≡ Ok y)
passed_test true r f y e = (refl, e)
passed_test false r f y e = absurd cc

-- a test that must not hold
failed_test : {A : Type 0} (b : Bool) (r : Result A NumberFault) (f : NumberFault) (y : A) → cond b (Err f) r ≡ Ok y → (b ≡ false) × (r ≡ Ok y)
failed_test true r f y e = absurd cc
failed_test false r f y e = (refl, e)

-- ---- digits

chosen_digit : (b : Bool) (c d : ℕ) → is_ascii_digit c ≡ b → cond b (Some c) None ≡ Some d → is_ascii_digit d ≡ true
chosen_digit true c d is e = let same : c ≡ d = cc in rw (← same) is
chosen_digit false c d is e = absurd cc

is_digit : (bs : List ℕ) (d : ℕ) → first_digit bs ≡ Some d → is_ascii_digit d ≡ true
is_digit [] d h = absurd cc
is_digit (c ∷ cs) d h = chosen_digit (is_ascii_digit c) c d refl h

-- ---- groups

no_groups : (ds sep : List ℕ) → grouped ds [] sep ≡ ds
no_groups ds sep = plain ds [] sep (λ k lt. grind (arith, common_steps))

-- what digits are that were read
pub record AreRead (room at : ℕ) (w : List ℕ × ℕ) : Type 0 where
  pub digits : list_all is_ascii_digit w.0 ≡ true
  pub few : length w.0 ≤ room
  pub behind : at ≤ w.1

one_more : (d room at : ℕ) (w r : List ℕ × ℕ) → is_ascii_digit d ≡ true → 0 < room → AreRead (room - 1) (at + 1) r → (d ∷ r.0, r.1) ≡ w → AreRead room at w
one_more d room at w r is some are same = subst (λ (v : List ℕ × ℕ). AreRead room at v) same (record {
  digits = let rest : list_all is_ascii_digit r.0 ≡ true = are.digits in rw (is, rest) refl;
  few = let most : length r.0 ≤ room - 1 = are.few in omega arith;
  behind = let later : at + 1 ≤ r.1 = are.behind in omega arith;
})

digit_behind_sep : (sep bs : List ℕ) (o : Option ℕ) (x : ℕ × ℕ) → first_digit bs ≡ o → option_map (λ d. (d, length sep)) o ≡ Some x → is_ascii_digit x.0 ≡ true
digit_behind_sep sep bs None x is e = absurd cc
digit_behind_sep sep bs (Some d) x is e = let same : d ≡ x.0 = cc in rw (← same) (is_digit bs d is)

by_separator : (b : Bool) (sep bs : List ℕ) (x : ℕ × ℕ) → cond b (option_map (λ d. (d, length sep)) (first_digit bs)) None ≡ Some x → is_ascii_digit x.0 ≡ true
by_separator true sep bs x e = digit_behind_sep sep bs (first_digit bs) x refl e
by_separator false sep bs x e = absurd cc

by_first : (sep bs : List ℕ) (o : Option ℕ) (x : ℕ × ℕ) → first_digit bs ≡ o → digit_at sep bs ≡ Some x → is_ascii_digit x.0 ≡ true
by_first sep bs None x is e = by_separator (starts_with nat_eq bs sep) sep (drop (length sep) bs) x (rw (is, digit_at) at e)
by_first sep bs (Some d) x is e = let same : d ≡ x.0 = let found = rw (is, digit_at) at e in cc in rw (← same) (is_digit bs d is)

digit_of : (sep bs : List ℕ) (x : ℕ × ℕ) → digit_at sep bs ≡ Some x → is_ascii_digit x.0 ≡ true
digit_of sep bs x h = by_first sep bs (first_digit bs) x refl h

-- no digit follows
no_digit_at : (sep : List ℕ) (room at c : ℕ) (cs : List ℕ) → digit_at sep (c ∷ cs) ≡ None → digits_at sep room 0 at (c ∷ cs) ≡ Ok ([], at)
unfolding digits_at
no_digit_at sep room at c cs is = rw (digits_at, is) refl

-- a digit follows
next_digit_at : (sep : List ℕ) (room at c : ℕ) (cs : List ℕ) (x : ℕ × ℕ) → digit_at sep (c ∷ cs) ≡ Some x →
    digits_at sep room 0 at (c ∷ cs) ≡ with_digit (nat_lt 0 room) x.0 (at + x.1) (digits_at sep (room - 1) x.1 (at + 1) cs)
unfolding digits_at
next_digit_at sep room at c cs x is = rw (digits_at, is) refl

nothing_read : (room at : ℕ) (w : List ℕ × ℕ) → ◌≡◌ {A = Result (List ℕ × ℕ) NumberFault} (Ok ([], at)) (Ok w) → AreRead room at w
nothing_read room at w e = let same : ([], at) ≡ w = cc in subst (λ (v : List ℕ × ℕ). AreRead room at v) same (record { digits = refl; few = omega arith; behind = omega arith })

with_digit_sound : (b : Bool) (room at place d : ℕ) (w : List ℕ × ℕ) (read : Result (List ℕ × ℕ) NumberFault) → nat_lt 0 room ≡ b → is_ascii_digit d ≡ true →
    ((r : List ℕ × ℕ) → read ≡ Ok r → AreRead (room - 1) (at + 1) r) → with_digit b d place read ≡ Ok w → AreRead room at w
with_digit_sound true room at place d w read some is further e =
    let parts = bind_ok read (λ r. Ok ((d ∷ []) ++ r.0, r.1)) w e in
    let fits : 0 < room = grind (arith, nat_tests) in
    let whole = parts.2 in
    one_more d room at w parts.0 is fits (further parts.0 parts.1) (cc)
with_digit_sound false room at place d w read some is further e = absurd cc

first_sound : (sep : List ℕ) (room at c : ℕ) (cs : List ℕ) (w : List ℕ × ℕ) (o : Option (ℕ × ℕ)) →
    ((k : ℕ) (r : List ℕ × ℕ) → digits_at sep (room - 1) k (at + 1) cs ≡ Ok r → AreRead (room - 1) (at + 1) r) →
    digit_at sep (c ∷ cs) ≡ o → digits_at sep room 0 at (c ∷ cs) ≡ Ok w → AreRead room at w
first_sound sep room at c cs w None further is e = nothing_read room at w (sym (no_digit_at sep room at c cs is) ∙ e)
first_sound sep room at c cs w (Some x) further is e =
    with_digit_sound (nat_lt 0 room) room at (at + x.1) x.0 w (digits_at sep (room - 1) x.1 (at + 1) cs) refl (digit_of sep (c ∷ cs) x is) (further x.1) (sym (next_digit_at sep room at c cs x is) ∙ e)

digits_sound : (sep : List ℕ) (room skip at : ℕ) (bs : List ℕ) (w : List ℕ × ℕ) → digits_at sep room skip at bs ≡ Ok w → AreRead room at w
unfolding digits_at
digits_sound sep room skip at [] w e = nothing_read room at w e
digits_sound sep room (suc skip) at (c ∷ cs) w e =
    let are : AreRead room (at + 1) w = digits_sound sep room skip (at + 1) cs w e in
    record { digits = are.digits; few = are.few; behind = let later : at + 1 ≤ w.1 = are.behind in omega arith }
digits_sound sep room zero at (c ∷ cs) w e = first_sound sep room at c cs w (digit_at sep (c ∷ cs)) (λ k r. digits_sound sep (room - 1) k (at + 1) cs r) refl e

-- where bytes begin with a digit, one is read
with_digit_some : (b : Bool) (d place : ℕ) (w : List ℕ × ℕ) (read : Result (List ℕ × ℕ) NumberFault) → with_digit b d place read ≡ Ok w → 0 < length w.0
with_digit_some true d place w read e =
    let parts = bind_ok read (λ r. Ok ((d ∷ []) ++ r.0, r.1)) w e in
    let whole = parts.2 in
    let same : d ∷ parts.0.0 ≡ w.0 = cc in
    rw (← same) (omega arith)
with_digit_some false d place w read e = absurd cc

first_some : (sep : List ℕ) (room at c : ℕ) (cs : List ℕ) (w : List ℕ × ℕ) (o : Option ℕ) → first_digit (c ∷ cs) ≡ o → is_some o ≡ true → digits_at sep room 0 at (c ∷ cs) ≡ Ok w → 0 < length w.0
first_some sep room at c cs w None is some e = absurd cc
first_some sep room at c cs w (Some d) is some e =
    let found : digit_at sep (c ∷ cs) ≡ Some (d, 0) = rw (is, digit_at) refl in
    with_digit_some (nat_lt 0 room) d (at + 0) w (digits_at sep (room - 1) 0 (at + 1) cs) (sym (next_digit_at sep room at c cs (d, 0) found) ∙ e)

some_read : (sep : List ℕ) (room at : ℕ) (bs : List ℕ) (w : List ℕ × ℕ) → is_some (first_digit bs) ≡ true → digits_at sep room 0 at bs ≡ Ok w → 0 < length w.0
some_read sep room at [] w some e = absurd cc
some_read sep room at (c ∷ cs) w some e = first_some sep room at c cs w (first_digit (c ∷ cs)) refl some e

-- ---- whole digits

-- what the whole digits are that were read
record IsWhole (n : NumericValues) (at : ℕ) (bs : List ℕ) (w : List ℕ × ℕ) : Type 0 where
  is_grouped : Bool
  some : 0 < length w.0
  are : AreRead 100 at w
  written : take (w.1 - at) bs ≡ grouped w.0 (if is_grouped then n.grouping else []) n.thousands_sep

-- a form in which digits were written
record IsForm (groups bytes : List ℕ) (r w : List ℕ × ℕ) : Type 0 where
  is_grouped : Bool
  same : r ≡ w
  written : bytes ≡ (if is_grouped then groups else r.0)

form_by : (a b : Bool) (groups bytes : List ℕ) (r w : List ℕ × ℕ) (f : NumberFault) → bytes_eq bytes groups ≡ a → bytes_eq bytes r.0 ≡ b → cond (a || b) (Ok r) (Err f) ≡ Ok w → IsForm groups bytes r w
form_by true b groups bytes r w f is other e = record { is_grouped = true; same = cc; written = (bytes_eq-Decides bytes groups).0 is }
form_by false true groups bytes r w f is other e = record { is_grouped = false; same = cc; written = (bytes_eq-Decides bytes r.0).0 other }
form_by false false groups bytes r w f is other e = absurd cc

form_of : (groups : List ℕ) (at : ℕ) (bytes : List ℕ) (r w : List ℕ × ℕ) → in_groups groups at bytes r ≡ Ok w → IsForm groups bytes r w
form_of groups at bytes r w e = form_by (bytes_eq bytes groups) (bytes_eq bytes r.0) groups bytes r w _ refl refl e

written_so : (b : Bool) (ds sep bytes : List ℕ) (sizes : List ℤ) → bytes ≡ (if b then grouped ds sizes sep else ds) → bytes ≡ grouped ds (if b then sizes else []) sep
written_so true ds sep bytes sizes e = e
written_so false ds sep bytes sizes e = e ∙ sym (no_groups ds sep)

whole_sound : (n : NumericValues) (at : ℕ) (bs : List ℕ) (w : List ℕ × ℕ) → whole_at n at bs ≡ Ok w → IsWhole n at bs w
whole_sound n at bs w e =
    let begun = passed_test (is_some (first_digit bs)) (and_then (digits_at n.thousands_sep 100 0 at bs) (λ r. in_groups (grouped r.0 n.grouping n.thousands_sep) at (take (r.1 - at) bs) r)) _ w e in
    let read = bind_ok (digits_at n.thousands_sep 100 0 at bs) (λ r. in_groups (grouped r.0 n.grouping n.thousands_sep) at (take (r.1 - at) bs) r) w begun.1 in
    let form = form_of (grouped read.0.0 n.grouping n.thousands_sep) at (take (read.0.1 - at) bs) read.0 w read.2 in
    subst (λ (v : List ℕ × ℕ). IsWhole n at bs v) form.same (record {
      is_grouped = form.is_grouped;
      some = some_read n.thousands_sep 100 at bs read.0 begun.0 read.1;
      are = digits_sound n.thousands_sep 100 0 at bs read.0 read.1;
      written = written_so form.is_grouped read.0.0 n.thousands_sep (take (read.0.1 - at) bs) n.grouping form.written;
    })

-- ---- fraction digits

-- what the fraction digits are that were read
record IsFraction (point : List ℕ) (room : ℕ) (rest f : List ℕ) : Type 0 where
  digits : list_all is_ascii_digit f ≡ true
  few : length f ≤ room
  written : rest ≡ behind_text point f

more_digits : (b : Bool) (k n : ℕ) (rest : Bool) → (nat_lt k n ≡ false → rest ≡ true) → nat_lt (cond b (1 + k) 0) (suc n) ≡ false → (b && rest) ≡ true
more_digits true k n rest further h = let same : nat_lt k n ≡ false = grind (arith, nat_tests) in further same
more_digits false k n rest further h = absurd (grind (arith, nat_tests))

all_digits : (bs : List ℕ) → nat_lt (prefix_len is_ascii_digit bs) (length bs) ≡ false → list_all is_ascii_digit bs ≡ true
all_digits [] h = refl
all_digits (c ∷ cs) h = more_digits (is_ascii_digit c) (prefix_len is_ascii_digit cs) (length cs) (list_all is_ascii_digit cs) (λ k. all_digits cs k) h

some_behind : (point bs : List ℕ) → 0 < length bs → point ++ bs ≡ behind_text point bs
some_behind point [] h = absurd (omega arith)
some_behind point (c ∷ cs) h = refl

fraction_digits_sound : (point : List ℕ) (room at : ℕ) (bs f : List ℕ) → fraction_digits room at bs ≡ Ok f → IsFraction point room (point ++ bs) f
fraction_digits_sound point room at bs f e =
    let n : ℕ = prefix_len is_ascii_digit bs in
    let some = failed_test (n == 0) _ _ f e in
    let fits = failed_test (nat_lt room n) _ _ f some.1 in
    let whole = failed_test (nat_lt n (length bs)) (Ok bs) _ f fits.1 in
    let same : bs ≡ f = let is = whole.1 in cc in
    let least : 0 < n = let no_zero = some.0 in grind (arith, nat_tests) in
    let most : n ≤ room = let not_more = fits.0 in grind (arith, nat_tests) in
    let all : length bs ≤ n = let not_less = whole.0 in grind (arith, nat_tests) in
    let fewer : n ≤ length bs = prefix_len-le-length is_ascii_digit bs in
    subst (λ (x : List ℕ). IsFraction point room (point ++ bs) x) same (record {
      digits = all_digits bs whole.0;
      few = omega arith;
      written = some_behind point bs (omega arith);
    })

fraction_sound : (point : List ℕ) (room at : ℕ) (rest f : List ℕ) → fraction_at point room at rest ≡ Ok f → IsFraction point room rest f
fraction_sound point room at [] f e = let same : [] ≡ f = cc in subst (λ (x : List ℕ). IsFraction point room [] x) same (record { digits = refl; few = omega arith; written = refl })
fraction_sound point room at (c ∷ cs) f e =
    let begun = passed_test (starts_with nat_eq (c ∷ cs) point) (fraction_digits room (at + length point) (drop (length point) (c ∷ cs))) _ f e in
    let cut : c ∷ cs ≡ point ++ drop (length point) (c ∷ cs) = (starts_is Decides-eqb (c ∷ cs) point (starts_with nat_eq (c ∷ cs) point) refl).0 begun.0 in
    subst (λ (x : List ℕ). IsFraction point room x f) (sym cut) (fraction_digits_sound point room (at + length point) (drop (length point) (c ∷ cs)) f begun.1)

-- ---- what is read is a number

by_minus : (b : Bool) (c : ℕ) (cs : List ℕ) → (c == 45) ≡ b → c ∷ cs ≡ minus b ++ drop (if b then 1 else 0) (c ∷ cs)
by_minus true c cs is = let same : c ≡ 45 = grind (arith, nat_tests) in rw same refl
by_minus false c cs is = refl

sign_cut : (text : List ℕ) → text ≡ minus (has_minus text) ++ drop (sign_length text) text
sign_cut [] = refl
sign_cut (c ∷ cs) = by_minus (c == 45) c cs refl

-- a text is what stands before a place, between it and another, and behind that
three_parts : (text : List ℕ) (s e : ℕ) → s ≤ e → drop s text ≡ take (e - s) (drop s text) ++ drop e text
three_parts text s e h =
    let same : s + (e - s) ≡ e = omega arith in
    sym (take-append-drop (e - s) (drop s text)) ∙ ap (λ (x : List ℕ). take (e - s) (drop s text) ++ x) (drop-drop (e - s) s text ∙ ap (λ (k : ℕ). drop k text) same)

-- what a text is that was read
pub record IsRead (n : NumericValues) (text : List ℕ) (d : Number) : Type 0 where
  pub is_grouped : Bool
  pub is_spelled : IsSpelled n text d is_grouped

pub is_read : (n : NumericValues) (text : List ℕ) (d : Number) → reading n text ≡ Ok d → IsRead n text d
unfolding reading
is_read n text d e =
    let s : ℕ = sign_length text in
    let front = bind_ok (whole_at n s (drop s text)) (λ w. and_then (fraction_at n.decimal_point (100 - length w.0) w.1 (drop w.1 text)) (λ fraction. Ok (record { has_minus = has_minus text; whole = w.0; fraction = fraction }))) d e in
    let w : List ℕ × ℕ = front.0 in
    let back = bind_ok (fraction_at n.decimal_point (100 - length w.0) w.1 (drop w.1 text)) (λ fraction. Ok (record { has_minus = has_minus text; whole = w.0; fraction = fraction })) d front.2 in
    let whole : IsWhole n s (drop s text) w = whole_sound n s (drop s text) w front.1 in
    let fraction : IsFraction n.decimal_point (100 - length w.0) (drop w.1 text) back.0 = fraction_sound n.decimal_point (100 - length w.0) w.1 (drop w.1 text) back.0 back.1 in
    let same : record { has_minus = has_minus text; whole = w.0; fraction = back.0 } ≡ d = let is = back.2 in cc in
    subst (λ (x : Number). IsRead n text x) same (record {
      is_grouped = whole.is_grouped;
      is_spelled = record {
        some_digit = whole.some;
        whole_digits = whole.are.digits;
        fraction_digits = fraction.digits;
        few_digits = let most : length w.0 ≤ 100 = whole.are.few in let left : length back.0 ≤ 100 - length w.0 = fraction.few in omega arith;
        is_text = sign_cut text ∙ ap (λ (x : List ℕ). minus (has_minus text) ++ x) (three_parts text s w.1 whole.are.behind
            ∙ ap (λ (x : List ℕ). x ++ drop w.1 text) whole.written
            ∙ ap (λ (x : List ℕ). grouped w.0 (if whole.is_grouped then n.grouping else []) n.thousands_sep ++ x) fraction.written);
      };
    })

-- ---- each number is read

nothing_at : (sep : List ℕ) → digit_at sep [] ≡ None
nothing_at [] = refl
nothing_at (c ∷ cs) = refl

pub nothing_more : (sep : List ℕ) (room at : ℕ) (tail : List ℕ) → digit_at sep tail ≡ None → digits_at sep room 0 at tail ≡ Ok ([], at)
unfolding digits_at
nothing_more sep room at [] none = refl
nothing_more sep room at (c ∷ cs) none = no_digit_at sep room at c cs none

-- bytes that belong to a digit before them are passed over
passed : (sep : List ℕ) (room k at : ℕ) (bs : List ℕ) → k ≤ length bs → digits_at sep room k at bs ≡ digits_at sep room 0 (at + k) (drop k bs)
unfolding digits_at
passed sep room zero at bs h = ap (λ (a : ℕ). digits_at sep room 0 a bs) (omega arith)
passed sep room (suc k) at [] h = absurd (omega arith)
passed sep room (suc k) at (c ∷ cs) h = passed sep room k (at + 1) cs (omega arith) ∙ ap (λ (a : ℕ). digits_at sep room 0 a (drop k cs)) (omega arith)

found_behind : (sep bytes rest : List ℕ) (d : ℕ) → first_digit bytes ≡ None → starts_with nat_eq bytes sep ≡ true → drop (length sep) bytes ≡ rest → first_digit rest ≡ Some d → digit_at sep bytes ≡ Some (d, length sep)
found_behind sep bytes rest d none begins behind some = rw (none, digit_at, begins, behind, some) refl

one_behind : (ss : List ℕ) (b : ℕ) (bs : List ℕ) → drop (suc (length ss)) (ss ++ (b ∷ bs)) ≡ bs
one_behind [] b bs = refl
one_behind (s ∷ ss) b bs = one_behind ss b bs

-- a separator in front of a digit is passed over
separator_passed : (sep : List ℕ) (room at b d : ℕ) (bs : List ℕ) → first_digit sep ≡ None → first_digit (b ∷ bs) ≡ Some d → digits_at sep room 0 at (sep ++ (b ∷ bs)) ≡ digits_at sep room 0 (at + length sep) (b ∷ bs)
separator_passed [] room at b d bs none some = ap (λ (a : ℕ). digits_at [] room 0 a (b ∷ bs)) (omega arith)
separator_passed (s ∷ ss) room at b d bs none some =
    let sep : List ℕ = s ∷ ss in
    let begins : starts_with nat_eq (sep ++ (b ∷ bs)) sep ≡ true = (starts_is Decides-eqb (sep ++ (b ∷ bs)) sep (starts_with nat_eq (sep ++ (b ∷ bs)) sep) refl).1 (b ∷ bs) refl in
    let behind : drop (length sep) (sep ++ (b ∷ bs)) ≡ b ∷ bs = drop_at sep (b ∷ bs) (length sep) refl in
    let found : digit_at sep (s ∷ (ss ++ (b ∷ bs))) ≡ Some (d, length sep) = found_behind sep (s ∷ (ss ++ (b ∷ bs))) (b ∷ bs) d none begins behind some in
    let here : digit_at sep (b ∷ bs) ≡ Some (d, 0) = rw (some, digit_at) refl in
    let fits : length sep ≤ length (ss ++ (b ∷ bs)) = omega (arith, length-append ss (b ∷ bs)) in
    let over : digits_at sep (room - 1) (length sep) (at + 1) (ss ++ (b ∷ bs)) ≡ digits_at sep (room - 1) 0 (at + length sep + 1) bs =
    passed sep (room - 1) (length sep) (at + 1) (ss ++ (b ∷ bs)) fits
    ∙ ap (λ (a : ℕ). digits_at sep (room - 1) 0 a (drop (length sep) (ss ++ (b ∷ bs)))) (omega arith)
    ∙ ap (λ (x : List ℕ). digits_at sep (room - 1) 0 (at + length sep + 1) x) (one_behind ss b bs) in
    next_digit_at sep room at s (ss ++ (b ∷ bs)) (d, length sep) found
    ∙ ap (λ (r : Result (List ℕ × ℕ) NumberFault). with_digit (nat_lt 0 room) d (at + length sep) r) over
    ∙ ap (λ (a : ℕ). with_digit (nat_lt 0 room) d a (digits_at sep (room - 1) 0 (at + length sep + 1) bs)) (omega arith)
    ∙ sym (next_digit_at sep room (at + length sep) b bs (d, 0) here)

-- a separator or nothing stands in front of a digit
between_passed : (x : Bool) (sep : List ℕ) (room at b d : ℕ) (bs : List ℕ) → first_digit sep ≡ None → first_digit (b ∷ bs) ≡ Some d →
    digits_at sep room 0 at ((if x then sep else []) ++ (b ∷ bs)) ≡ digits_at sep room 0 (at + length (if x then sep else [])) (b ∷ bs)
between_passed true sep room at b d bs none some = separator_passed sep room at b d bs none some
between_passed false sep room at b d bs none some = ap (λ (a : ℕ). digits_at sep room 0 a (b ∷ bs)) (omega arith)

one_digit : (c : ℕ) (cs : List ℕ) → is_ascii_digit c ≡ true → first_digit (c ∷ cs) ≡ Some c
one_digit c cs is = rw is refl

both : (a b : Bool) → (a && b) ≡ true → (a ≡ true) × (b ≡ true)
both true b h = (refl, h)
both false b h = absurd cc

digits_of_cons : (c : ℕ) (cs : List ℕ) → list_all is_ascii_digit (c ∷ cs) ≡ true → (is_ascii_digit c ≡ true) × (list_all is_ascii_digit cs ≡ true)
digits_of_cons c cs h = both (is_ascii_digit c) (list_all is_ascii_digit cs) h

-- a digit is read in front of others
taken : (sep : List ℕ) (room at end d : ℕ) (ds rest : List ℕ) → is_ascii_digit d ≡ true → 0 < room → digits_at sep (room - 1) 0 (at + 1) rest ≡ Ok (ds, end) → digits_at sep room 0 at (d ∷ rest) ≡ Ok (d ∷ ds, end)
taken sep room at end d ds rest is some read =
    let found : digit_at sep (d ∷ rest) ≡ Some (d, 0) = rw (is, digit_at) refl in
    let room_left : nat_lt 0 room ≡ true = grind (arith, nat_tests) in
    next_digit_at sep room at d rest (d, 0) found ∙ rw (room_left, read) refl

-- digits in groups are read, up to what is no digit
groups_read : (sep : List ℕ) (sizes : List ℤ) (ds tail : List ℕ) (room at : ℕ) → first_digit sep ≡ None → list_all is_ascii_digit ds ≡ true → length ds ≤ room → digit_at sep tail ≡ None →
    digits_at sep room 0 at (separated ds sizes sep ++ tail) ≡ Ok (ds, at + length (separated ds sizes sep))
unfolding separated
groups_read sep sizes [] tail room at none digits fits end = nothing_more sep room at tail end ∙ ap (λ (a : ℕ). Ok ([], a)) (omega arith)
groups_read sep sizes (d ∷ []) tail room at none digits fits end =
    let are = digits_of_cons d [] digits in
    taken sep room at (at + 1) d [] tail are.0 (omega arith) (nothing_more sep (room - 1) (at + 1) tail end)
groups_read sep sizes (d ∷ e ∷ es) tail room at none digits fits end =
    let are = digits_of_cons d (e ∷ es) digits in
    let next = digits_of_cons e es are.1 in
    let x : Bool = separates sizes (length (e ∷ es)) in
    let gap : List ℕ = if x then sep else [] in
    let rest : List ℕ = (if separates sizes (length es) then sep else []) ++ separated es sizes sep in
    let later : digits_at sep (room - 1) 0 (at + 1 + length gap) ((e ∷ rest) ++ tail) ≡ Ok (e ∷ es, at + 1 + length gap + length (e ∷ rest)) = groups_read sep sizes (e ∷ es) tail (room - 1) (at + 1 + length gap) none are.1 (omega arith) end in
    let inner : digits_at sep (room - 1) 0 (at + 1) ((gap ++ (e ∷ rest)) ++ tail) ≡ Ok (e ∷ es, at + 1 + length gap + length (e ∷ rest)) =
    ap (λ (t : List ℕ). digits_at sep (room - 1) 0 (at + 1) t) (append_assoc gap (e ∷ rest) tail)
    ∙ between_passed x sep (room - 1) (at + 1) e e (rest ++ tail) none (one_digit e (rest ++ tail) next.0)
    ∙ later in
    let place : at + 1 + length gap + length (e ∷ rest) ≡ at + length (d ∷ (gap ++ (e ∷ rest))) = omega (arith, length-append gap (e ∷ rest)) in
    taken sep room at (at + 1 + length gap + length (e ∷ rest)) d (e ∷ es) ((gap ++ (e ∷ rest)) ++ tail) are.0 (omega arith) inner
    ∙ ap (λ (a : ℕ). Ok (d ∷ e ∷ es, a)) place

-- ---- signs that are told apart

heads : (a b p q r : Bool) → a ≡ b → (p ≡ false → q ≡ false → r ≡ false) → (a && p) ≡ false → (b && q) ≡ false → (a && r) ≡ false
heads false b p q r same further h k = refl
heads true true p q r same further h k = further h k
heads true false p q r same further h k = absurd cc

same_test : (x y : ℕ) → nat_eq y x ≡ nat_eq x y
same_test x y = grind (arith, nat_tests)

neither_front : (p s rest : List ℕ) → starts_with nat_eq p s ≡ false → starts_with nat_eq s p ≡ false → starts_with nat_eq (p ++ rest) s ≡ false
neither_front [] s rest h k = absurd cc
neither_front (x ∷ xs) [] rest h k = absurd cc
neither_front (x ∷ xs) (y ∷ ys) rest h k = heads (nat_eq y x) (nat_eq x y) (starts_with nat_eq xs ys) (starts_with nat_eq ys xs) (starts_with nat_eq (xs ++ rest) ys) (same_test x y) (neither_front xs ys rest) h k

first_of_front : (p rest : List ℕ) → 0 < length p → first_digit (p ++ rest) ≡ first_digit p
first_of_front [] rest h = absurd (omega arith)
first_of_front (x ∷ xs) rest h = refl

no_digit : (sep bs : List ℕ) → first_digit bs ≡ None → (0 < length sep → starts_with nat_eq bs sep ≡ false) → digit_at sep bs ≡ None
no_digit [] bs none apart = rw (none, digit_at) (ap (λ (o : Option ℕ). option_map (λ (d : ℕ). (d, 0)) o) none)
no_digit (s ∷ ss) bs none apart = let other : starts_with nat_eq bs (s ∷ ss) ≡ false = apart (omega arith) in rw (none, digit_at, other) refl

-- the point and the digits behind it begin with no digit of the whole part
no_digit_behind : (n : NumericValues) (f : List ℕ) → AreToldApart n → digit_at n.thousands_sep (behind_text n.decimal_point f) ≡ None
no_digit_behind n [] apart = nothing_at n.thousands_sep
no_digit_behind n (c ∷ cs) apart =
    no_digit n.thousands_sep (n.decimal_point ++ (c ∷ cs)) (first_of_front n.decimal_point (c ∷ cs) apart.some_point ∙ apart.point)
    (λ some. neither_front n.decimal_point n.thousands_sep (c ∷ cs) (apart.no_front some) apart.no_longer)

-- ---- a number as the locale writes it

same_bytes : (bs : List ℕ) → bytes_eq bs bs ≡ true
same_bytes bs = (bytes_eq-Decides bs bs).1 refl

or_other : (a b : Bool) → b ≡ true → (a || b) ≡ true
or_other true b h = refl
or_other false b h = h

-- digits in groups or not have one of the two forms
in_form : (g : Bool) (ds sep : List ℕ) (sizes : List ℤ) (at end : ℕ) → in_groups (grouped ds sizes sep) at (grouped ds (if g then sizes else []) sep) (ds, end) ≡ Ok (ds, end)
in_form true ds sep sizes at end = let same : bytes_eq (grouped ds sizes sep) (grouped ds sizes sep) ≡ true = same_bytes (grouped ds sizes sep) in rw same refl
in_form false ds sep sizes at end =
    let bare : grouped ds [] sep ≡ ds = no_groups ds sep in
    let test : (bytes_eq ds (grouped ds sizes sep) || bytes_eq ds ds) ≡ true = or_other (bytes_eq ds (grouped ds sizes sep)) (bytes_eq ds ds) (same_bytes ds) in
    rw (bare, test) refl

begins_so : (ds sep tail : List ℕ) (sizes : List ℤ) → 0 < length ds → list_all is_ascii_digit ds ≡ true → is_some (first_digit (separated ds sizes sep ++ tail)) ≡ true
unfolding separated
begins_so [] sep tail sizes some digits = absurd (omega arith)
begins_so (d ∷ ds) sep tail sizes some digits = let is : is_ascii_digit d ≡ true = (digits_of_cons d ds digits).0 in rw is refl

whole_read : (n : NumericValues) (g : Bool) (ds tail : List ℕ) (at : ℕ) → first_digit n.thousands_sep ≡ None → 0 < length ds → list_all is_ascii_digit ds ≡ true → length ds ≤ 100 → digit_at n.thousands_sep tail ≡ None →
    whole_at n at (grouped ds (if g then n.grouping else []) n.thousands_sep ++ tail) ≡ Ok (ds, at + length (grouped ds (if g then n.grouping else []) n.thousands_sep))
whole_read n g ds tail at none some digits fits end =
    let sep : List ℕ = n.thousands_sep in
    let text : List ℕ = grouped ds (if g then n.grouping else []) sep in
    let begins : is_some (first_digit (text ++ tail)) ≡ true = begins_so ds sep tail (sizes_used (if g then n.grouping else [])) some digits in
    let read : digits_at sep 100 0 at (text ++ tail) ≡ Ok (ds, at + length text) = groups_read sep (sizes_used (if g then n.grouping else [])) ds tail 100 at none digits fits end in
    let width : at + length text - at ≡ length text = omega arith in
    let cut : take (at + length text - at) (text ++ tail) ≡ text = ap (λ (k : ℕ). take k (text ++ tail)) width ∙ take_at text tail (length text) refl in
    ap (λ (b : Bool). cond b (and_then (digits_at sep 100 0 at (text ++ tail)) (λ r. in_groups (grouped r.0 n.grouping sep) at (take (r.1 - at) (text ++ tail)) r)) (fault NoDigit at)) begins
    ∙ ap (λ (r : Result (List ℕ × ℕ) NumberFault). and_then r (λ r. in_groups (grouped r.0 n.grouping sep) at (take (r.1 - at) (text ++ tail)) r)) read
    ∙ ap (λ (t : List ℕ). in_groups (grouped ds n.grouping sep) at t (ds, at + length text)) cut
    ∙ in_form g ds sep n.grouping at (at + length text)

all_passed : (bs : List ℕ) → list_all is_ascii_digit bs ≡ true → prefix_len is_ascii_digit bs ≡ length bs
all_passed [] h = refl
all_passed (c ∷ cs) h =
    let are = digits_of_cons c cs h in
    let is : is_ascii_digit c ≡ true = are.0 in
    let rest : prefix_len is_ascii_digit cs ≡ length cs = all_passed cs are.1 in
    rw (is, rest) (omega arith)

digits_again : (room at : ℕ) (f : List ℕ) → list_all is_ascii_digit f ≡ true → 0 < length f → length f ≤ room → fraction_digits room at f ≡ Ok f
digits_again room at f digits some fits =
    let all : prefix_len is_ascii_digit f ≡ length f = all_passed f digits in
    let no_zero : (length f == 0) ≡ false = grind (arith, nat_tests) in
    let not_more : nat_lt room (length f) ≡ false = grind (arith, nat_tests) in
    let not_less : nat_lt (length f) (length f) ≡ false = grind (arith, nat_tests) in
    rw (all, no_zero, not_more, not_less) refl

some_first : (point : List ℕ) (room at : ℕ) (rest bs : List ℕ) → 0 < length point → bs ≡ point ++ rest → fraction_at point room at bs ≡ fraction_digits room (at + length point) rest
some_first point room at rest [] some is = absurd (omega (arith, ap length is, length-append point rest))
some_first point room at rest (c ∷ cs) some is =
    let begins : starts_with nat_eq (c ∷ cs) point ≡ true = (starts_is Decides-eqb (c ∷ cs) point (starts_with nat_eq (c ∷ cs) point) refl).1 rest is in
    let behind : drop (length point) (c ∷ cs) ≡ rest = ap (λ (t : List ℕ). drop (length point) t) is ∙ drop_at point rest (length point) refl in
    ap (λ (b : Bool). cond b (fraction_digits room (at + length point) (drop (length point) (c ∷ cs))) (fault OtherByte at)) begins
    ∙ ap (λ (t : List ℕ). fraction_digits room (at + length point) t) behind

fraction_read : (point : List ℕ) (room at : ℕ) (f : List ℕ) → 0 < length point → list_all is_ascii_digit f ≡ true → length f ≤ room → fraction_at point room at (behind_text point f) ≡ Ok f
fraction_read point room at [] some digits fits = refl
fraction_read point room at (c ∷ cs) some digits fits =
    some_first point room at (c ∷ cs) (point ++ (c ∷ cs)) some refl ∙ digits_again room (at + length point) (c ∷ cs) digits (omega arith) fits

no_minus : (c : ℕ) → is_ascii_digit c ≡ true → (c == 45) ≡ false
no_minus c is = grind (arith, nat_tests)

minus_read : (m : Bool) (c : ℕ) (cs : List ℕ) → is_ascii_digit c ≡ true → has_minus (minus m ++ (c ∷ cs)) ≡ m
minus_read true c cs is = refl
minus_read false c cs is = no_minus c is

sign_passed : (m : Bool) (bs : List ℕ) → drop (if m then 1 else 0) (minus m ++ bs) ≡ bs
sign_passed true bs = refl
sign_passed false bs = refl

length-minus : (m : Bool) → length (minus m) ≡ (if m then 1 else 0)
length-minus true = refl
length-minus false = refl

minus_of_text : (m : Bool) (ds sep tail : List ℕ) (sizes : List ℤ) → 0 < length ds → list_all is_ascii_digit ds ≡ true → has_minus (minus m ++ (separated ds sizes sep ++ tail)) ≡ m
unfolding separated
minus_of_text m [] sep tail sizes some digits = absurd (omega arith)
minus_of_text m (d ∷ ds) sep tail sizes some digits = minus_read m d _ (digits_of_cons d ds digits).0

-- the number that a text is, behind a sign or not
abbrev read_from : NumericValues → List ℕ → Bool → Result Number NumberFault
read_from n text m = and_then (whole_at n (if m then 1 else 0) (drop (if m then 1 else 0) text)) (λ w. and_then (fraction_at n.decimal_point (100 - length w.0) w.1 (drop w.1 text)) (λ fraction. Ok (record { has_minus = m; whole = w.0; fraction = fraction })))

spelled_read : (n : NumericValues) (d : Number) (g : Bool) → AreToldApart n → IsSpelled n (spelled n g d) d g → reading n (spelled n g d) ≡ Ok d
unfolding reading
spelled_read n d g apart is =
    let text : List ℕ = spelled n g d in
    let groups : List ℕ = grouped d.whole (if g then n.grouping else []) n.thousands_sep in
    let tail : List ℕ = behind_text n.decimal_point d.fraction in
    let s : ℕ = if d.has_minus then 1 else 0 in
    let most : length d.whole + length d.fraction ≤ 100 = is.few_digits in
    let sign : has_minus text ≡ d.has_minus = minus_of_text d.has_minus d.whole n.thousands_sep tail (sizes_used (if g then n.grouping else [])) is.some_digit is.whole_digits in
    let body : drop s text ≡ groups ++ tail = sign_passed d.has_minus (groups ++ tail) in
    let whole : whole_at n s (groups ++ tail) ≡ Ok (d.whole, s + length groups) = whole_read n g d.whole tail s apart.separator is.some_digit is.whole_digits (omega arith) (no_digit_behind n d.fraction apart) in
    let rest : drop (s + length groups) text ≡ tail = sym (drop-drop (length groups) s text) ∙ ap (λ (t : List ℕ). drop (length groups) t) body ∙ drop_at groups tail (length groups) refl in
    let fraction : fraction_at n.decimal_point (100 - length d.whole) (s + length groups) tail ≡ Ok d.fraction = fraction_read n.decimal_point (100 - length d.whole) (s + length groups) d.fraction apart.some_point is.fraction_digits (omega arith) in
    ap (λ (m : Bool). read_from n text m) sign
    ∙ ap (λ (t : List ℕ). and_then (whole_at n s t) (λ w. and_then (fraction_at n.decimal_point (100 - length w.0) w.1 (drop w.1 text)) (λ fraction. Ok (record { has_minus = d.has_minus; whole = w.0; fraction = fraction })))) body
    ∙ ap (λ (r : Result (List ℕ × ℕ) NumberFault). and_then r (λ w. and_then (fraction_at n.decimal_point (100 - length w.0) w.1 (drop w.1 text)) (λ fraction. Ok (record { has_minus = d.has_minus; whole = w.0; fraction = fraction })))) whole
    ∙ ap (λ (t : List ℕ). and_then (fraction_at n.decimal_point (100 - length d.whole) (s + length groups) t) (λ fraction. Ok (record { has_minus = d.has_minus; whole = d.whole; fraction = fraction }))) rest
    ∙ ap (λ (r : Result (List ℕ) NumberFault). and_then r (λ fraction. Ok (record { has_minus = d.has_minus; whole = d.whole; fraction = fraction }))) fraction

pub is_spelled_read : (n : NumericValues) (text : List ℕ) (d : Number) (g : Bool) → AreToldApart n → IsSpelled n text d g → reading n text ≡ Ok d
is_spelled_read n text d g apart is =
    ap (λ (t : List ℕ). reading n t) is.is_text
    ∙ spelled_read n d g apart (record { some_digit = is.some_digit; whole_digits = is.whole_digits; fraction_digits = is.fraction_digits; few_digits = is.few_digits; is_text = refl })

-- ---- one digit after another

behind_twice : (ds es : List ℕ) (r : Result (List ℕ × ℕ) NumberFault) → behind_digits ds (behind_digits es r) ≡ behind_digits (ds ++ es) r
behind_twice ds es (Ok x) = ap (λ (t : List ℕ). Ok (t, x.1)) (sym (append_assoc ds es x.0))
behind_twice ds es (Err e) = refl

cons_at : (text : List ℕ) (at k : ℕ) → at + k < length text → drop at text ≡ get_or text at 0 ∷ drop (at + 1) text
cons_at text at k h = drop_more text at 0 (omega arith)

-- a digit that a text has at a place, and what is read behind it
digit_there : (sep text : List ℕ) (room at d k : ℕ) → digit_at sep (drop at text) ≡ Some (d, k) → at + k < length text →
    digits_at sep room 0 at (drop at text) ≡ with_digit (nat_lt 0 room) d (at + k) (digits_at sep (room - 1) 0 (at + k + 1) (drop (at + k + 1) text))
digit_there sep text room at d k is within =
    let c : ℕ = get_or text at 0 in
    let cs : List ℕ = drop (at + 1) text in
    let cut : drop at text ≡ c ∷ cs = cons_at text at k within in
    let found : digit_at sep (c ∷ cs) ≡ Some (d, k) = subst (λ (t : List ℕ). digit_at sep t ≡ Some (d, k)) cut is in
    let fits : k ≤ length cs = omega (arith, length-drop (at + 1) text) in
    let over : digits_at sep (room - 1) k (at + 1) cs ≡ digits_at sep (room - 1) 0 (at + k + 1) (drop (at + k + 1) text) =
    passed sep (room - 1) k (at + 1) cs fits
    ∙ ap (λ (a : ℕ). digits_at sep (room - 1) 0 a (drop k cs)) (omega arith)
    ∙ ap (λ (t : List ℕ). digits_at sep (room - 1) 0 (at + k + 1) t) (drop-drop k (at + 1) text ∙ ap (λ (a : ℕ). drop a text) (omega arith)) in
    ap (λ (t : List ℕ). digits_at sep room 0 at t) cut
    ∙ next_digit_at sep room at c cs (d, k) found
    ∙ ap (λ (r : Result (List ℕ × ℕ) NumberFault). with_digit (nat_lt 0 room) d (at + k) r) over

pub read_more : (sep text ds : List ℕ) (at d k : ℕ) (total : Result (List ℕ × ℕ) NumberFault) → Some (d, k) ≡ digit_at sep (drop at text) → at + k < length text → length ds < 100 →
    behind_digits ds (digits_at sep (100 - length ds) 0 at (drop at text)) ≡ total → behind_digits (ds ++ d ∷ []) (digits_at sep (100 - length (ds ++ d ∷ [])) 0 (at + k + 1) (drop (at + k + 1) text)) ≡ total
read_more sep text ds at d k total is within few so_far =
    let some : nat_lt 0 (100 - length ds) ≡ true = grind (arith, nat_tests) in
    let room : 100 - length (ds ++ d ∷ []) ≡ 100 - length ds - 1 = omega (arith, length-append ds (d ∷ [])) in
    let rest : Result (List ℕ × ℕ) NumberFault = digits_at sep (100 - length ds - 1) 0 (at + k + 1) (drop (at + k + 1) text) in
    ap (λ (r : ℕ). behind_digits (ds ++ d ∷ []) (digits_at sep r 0 (at + k + 1) (drop (at + k + 1) text))) room
    ∙ sym (behind_twice ds (d ∷ []) rest)
    ∙ sym (ap (λ (r : Result (List ℕ × ℕ) NumberFault). behind_digits ds r) (digit_there sep text (100 - length ds) at d k (sym is) within ∙ ap (λ (b : Bool). with_digit b d (at + k) rest) some))
    ∙ so_far

pub read_full : (sep text ds : List ℕ) (at d k : ℕ) (total : Result (List ℕ × ℕ) NumberFault) → Some (d, k) ≡ digit_at sep (drop at text) → at + k < length text → 100 ≤ length ds →
    behind_digits ds (digits_at sep (100 - length ds) 0 at (drop at text)) ≡ total → total ≡ fault ManyDigits (at + k)
read_full sep text ds at d k total is within full so_far =
    let none : nat_lt 0 (100 - length ds) ≡ false = grind (arith, nat_tests) in
    sym so_far
    ∙ ap (λ (r : Result (List ℕ × ℕ) NumberFault). behind_digits ds r) (digit_there sep text (100 - length ds) at d k (sym is) within
    ∙ ap (λ (b : Bool). with_digit b d (at + k) (digits_at sep (100 - length ds - 1) 0 (at + k + 1) (drop (at + k + 1) text))) none)

pub read_end : (sep text ds : List ℕ) (room at : ℕ) (total : Result (List ℕ × ℕ) NumberFault) → None ≡ digit_at sep (drop at text) →
    behind_digits ds (digits_at sep room 0 at (drop at text)) ≡ total → total ≡ Ok (ds, at)
read_end sep text ds room at total is so_far =
    sym so_far ∙ ap (λ (r : Result (List ℕ × ℕ) NumberFault). behind_digits ds r) (nothing_more sep room at (drop at text) (sym is)) ∙ ap (λ (t : List ℕ). Ok (t, at)) (append-nil ds)

-- nothing is read yet
pub read_none : (r : Result (List ℕ × ℕ) NumberFault) → behind_digits [] r ≡ r
read_none (Ok x) = refl
read_none (Err e) = refl

-- ---- what two texts have in common

pub common_more : (text other : List ℕ) (at : ℕ) → at < length text → at < length other → nat_eq (get_or text at 0) (get_or other at 0) ≡ true →
    common_prefix_len nat_eq (drop at text) (drop at other) ≡ 1 + common_prefix_len nat_eq (drop (at + 1) text) (drop (at + 1) other)
common_more text other at h k same = common_prefix_len-drop_yes nat_eq text other at 0 0 h k same

pub common_no_more : (text other : List ℕ) (at : ℕ) → at < length text → at < length other → nat_eq (get_or text at 0) (get_or other at 0) ≡ false → common_prefix_len nat_eq (drop at text) (drop at other) ≡ 0
common_no_more text other at h k differ = common_prefix_len-drop_no nat_eq text other at 0 0 h k differ

pub common_none : (text other : List ℕ) (at : ℕ) → at < length text → length other ≤ at → common_prefix_len nat_eq (drop at text) (drop at other) ≡ 0
common_none text other at h k =
    let short : drop at other ≡ [] = drop_all at other k in
    let cut : drop at text ≡ get_or text at 0 ∷ drop (at + 1) text = drop_more text at 0 h in
    rw (short, cut) refl

pub common_all : (text other : List ℕ) (at : ℕ) → length text ≤ at → common_prefix_len nat_eq (drop at text) (drop at other) ≡ 0
common_all text other at h = let none : drop at text ≡ [] = drop_all at text h in rw none refl
