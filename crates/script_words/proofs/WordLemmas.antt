-- Numbers, and names with commas between them.
use Rattle.std.proofs.Common.{◌≡◌, ℕ, suc, ◌+◌, ◌-◌, ◌*◌, ◌<◌, ◌≤◌, ◌^◌, Bool, true, false, cond, not, List, [], ◌∷◌, ◌++◌, length, take, drop, get_or, Option, Some, None, refl, sym, ap, ◌∙◌, arith}
use Rattle.std.specs.Prelude.{option_map, option_and_then, nat_lt, nat_le}
use Rattle.std.specs.Char.{digit_value, is_ascii_digit}
use Rattle.std.specs.List.{list_all, slice_split, onto_first, position_or_len}
use Rattle.std.specs.Str.Parse.{digits_value_after}
use Rattle.std.proofs.lemmas.Bool.Decides.{nat_tests}
use Rattle.std.proofs.lemmas.List.{drop_more}
use Rattle.std.proofs.lemmas.List.Splits.{slice_split_first}
use Rattle.script_words.specs.Numbers.{within, signed_units}
use Rattle.lc_base.specs.Cuts.{cut_at}
use Rattle.lc_base.proofs.NumberLemmas.{value_after_le}
use Rattle.script_words.specs.Words.{is_comma, with_name, bits_with}

-- ---- numbers

digit_is : (c : ℕ) → is_ascii_digit c ≡ true → digit_value c ≡ c - 48
digit_is c h = grind (arith, nat_tests)

first_digit : (bytes : List ℕ) (i : ℕ) → i < length bytes → list_all is_ascii_digit (drop i bytes) ≡ true → is_ascii_digit (get_or bytes i 0) ≡ true
first_digit bytes i lt digits =
    let e = rw (drop_more bytes i 0 lt) at digits in
    grind (arith, nat_tests)

not_within : (most n : ℕ) → most < n → nat_le n most ≡ false
not_within most n lt = grind (arith, nat_tests)

-- a digit more makes the number too large
pub too_large_behind : (bytes : List ℕ) (i before value most : ℕ) → i < length bytes → list_all is_ascii_digit (drop i bytes) ≡ true → digits_value_after 10 value (drop i bytes) ≡ digits_value_after 10 before bytes
    → most < value * 10 + (get_or bytes i 0 - 48) → None ≡ within most (digits_value_after 10 before bytes)
too_large_behind bytes i before value most lt digits so_far large =
    let more : digits_value_after 10 (value * 10 + digit_value (get_or bytes i 0)) (drop (i + 1) bytes) ≡ digits_value_after 10 before bytes = sym (ap (digits_value_after 10 value) (drop_more bytes i 0 lt)) ∙ so_far in
    let over : most < digits_value_after 10 before bytes = omega (arith, digit_is (get_or bytes i 0) (first_digit bytes i lt digits), value_after_le (value * 10 + digit_value (get_or bytes i 0)) (drop (i + 1) bytes)) in
    rw (not_within most _ over) refl

-- ---- amounts

-- digits behind digits
pub value_append : (n : ℕ) (ds es : List ℕ) → digits_value_after 10 n (ds ++ es) ≡ digits_value_after 10 (digits_value_after 10 n ds) es
value_append n [] es = refl
value_append n (c ∷ cs) es = value_append (n * 10 + digit_value c) cs es

-- a number that is within a limit, and one that is not
pub within_some : (most n m : ℕ) → Some m ≡ within most n → m ≡ n
within_some most n m e = chosen (nat_le n most) e where
  chosen : (b : Bool) → Some m ≡ cond b (Some n) None → m ≡ n
  chosen true e = cc
  chosen false e = absurd (cc)

pub within_none : (most n : ℕ) → None ≡ within most n → most < n
within_none most n e = grind (arith, nat_tests, beyond (nat_le n most) e) where
  beyond : (b : Bool) → None ≡ cond b (Some n) None → b ≡ false
  beyond true e = absurd (cc)
  beyond false e = refl

not_below : (most n : ℕ) → most < n → nat_lt n most ≡ false
not_below most n lt = grind (arith, nat_tests)

-- units that 64 bits do not hold
pub no_units : (negative : Bool) (n : ℕ) → 2 ^ 63 < n → signed_units negative n ≡ None
no_units true n lt = rw (not_within (2 ^ 63) n lt) refl
no_units false n lt = rw (not_below (2 ^ 63) n lt) refl

-- whole digits alone that are too large
pub no_units_behind : (negative : Bool) (whole fraction : List ℕ) → 2 ^ 63 < digits_value_after 10 0 whole → signed_units negative (digits_value_after 10 0 (whole ++ fraction)) ≡ None
no_units_behind negative whole fraction lt =
    let value : digits_value_after 10 0 (whole ++ fraction) ≡ digits_value_after 10 (digits_value_after 10 0 whole) fraction = value_append 0 whole fraction in
    no_units negative (digits_value_after 10 0 (whole ++ fraction)) (omega (arith, value, value_after_le (digits_value_after 10 0 whole) fraction))

-- ---- names with commas between them

-- a text around its nth byte, where there is one
abbrev around : List ℕ → Option ℕ → Option (List ℕ × List ℕ)
around bs o = option_map (λ (k : ℕ). (take k bs, drop (k + 1) bs)) o

abbrev front_and_back : List ℕ → List ℕ → Option (List ℕ × List ℕ)
front_and_back name more = Some (name, more)

found : (b : Bool) (bs : List ℕ) (n : ℕ) (name more : List ℕ) → front_and_back name more ≡ around bs (cond b (Some n) None) → (b ≡ true) × (name ≡ take n bs) × (more ≡ drop (n + 1) bs)
found true bs n name more e =
    let both : ◌≡◌ {A = List ℕ × List ℕ} (name, more) (take n bs, drop (n + 1) bs) = cc in
    (refl, ap (λ (x : List ℕ × List ℕ). x.0) both, ap (λ (x : List ℕ × List ℕ). x.1) both)
found false bs n name more e = absurd (cc)

missed : (b : Bool) (bs : List ℕ) (n : ℕ) → None ≡ around bs (cond b (Some n) None) → b ≡ false
missed true bs n e = absurd (cc)
missed false bs n e = refl

-- a name before a comma is the first of the parts
pub split_cut : (bs name more : List ℕ) → front_and_back name more ≡ cut_at 44 bs → slice_split is_comma bs ≡ name ∷ slice_split is_comma more
unfolding cut_at
split_cut bs name more e =
    let p = found (nat_lt (position_or_len is_comma bs) (length bs)) bs (position_or_len is_comma bs) name more e in
    let lt : position_or_len is_comma bs < length bs = grind (arith, nat_tests, p.0) in
    rw (p.1, p.2) (slice_split_first is_comma bs 0 lt)

-- without a comma all is one part
uncut : (bs : List ℕ) → length bs ≤ position_or_len is_comma bs → slice_split is_comma bs ≡ bs ∷ []
uncut [] le = refl
uncut (c ∷ cs) le = chosen (is_comma c) c cs (uncut cs) le where
  chosen : (b : Bool) (c : ℕ) (cs : List ℕ) → (length cs ≤ position_or_len is_comma cs → slice_split is_comma cs ≡ cs ∷ []) → suc (length cs) ≤ cond (not b) (1 + position_or_len is_comma cs) 0
      → cond b ([] ∷ slice_split is_comma cs) (onto_first c (slice_split is_comma cs)) ≡ (c ∷ cs) ∷ []
  chosen true c cs later le = absurd (omega arith)
  chosen false c cs later le = ap (onto_first c) (later (omega arith))

pub split_uncut : (bs : List ℕ) → None ≡ cut_at 44 bs → slice_split is_comma bs ≡ bs ∷ []
unfolding cut_at
split_uncut bs e =
    let no : nat_lt (position_or_len is_comma bs) (length bs) ≡ false = missed (nat_lt (position_or_len is_comma bs) (length bs)) bs (position_or_len is_comma bs) e in
    uncut bs (grind (arith, nat_tests, no))

-- the bits of one more name
pub bits_more : (bits more_bits : ℕ) (rest name more : List ℕ) (total : Option ℕ) → front_and_back name more ≡ cut_at 44 rest → Some more_bits ≡ with_name bits name
    → bits_with bits (slice_split is_comma rest) ≡ total → bits_with more_bits (slice_split is_comma more) ≡ total
bits_more bits more_bits rest name more total at named so_far =
    let one : bits_with bits (slice_split is_comma rest) ≡ bits_with more_bits (slice_split is_comma more) = ap (bits_with bits) (split_cut rest name more at) ∙ rw (← named) refl in
    sym one ∙ so_far

-- a name that is no category's
pub bits_wrong : (bits : ℕ) (rest name more : List ℕ) (total : Option ℕ) → front_and_back name more ≡ cut_at 44 rest → None ≡ with_name bits name
    → bits_with bits (slice_split is_comma rest) ≡ total → None ≡ total
bits_wrong bits rest name more total at named so_far =
    let one : bits_with bits (slice_split is_comma rest) ≡ None = ap (bits_with bits) (split_cut rest name more at) ∙ rw (← named) refl in
    sym one ∙ so_far

only : (o : Option ℕ) → option_and_then (λ (n : ℕ). bits_with n []) o ≡ o
only None = refl
only (Some n) = refl

-- the last name
pub bits_last : (bits : ℕ) (rest : List ℕ) (total : Option ℕ) → None ≡ cut_at 44 rest → bits_with bits (slice_split is_comma rest) ≡ total → with_name bits rest ≡ total
bits_last bits rest total at so_far =
    let one : bits_with bits (slice_split is_comma rest) ≡ with_name bits rest = ap (bits_with bits) (split_uncut rest at) ∙ only (with_name bits rest) in
    sym one ∙ so_far
