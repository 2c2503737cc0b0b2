-- Texts of amounts, and how wide they are.
use Rattle.std.proofs.Common.{◌≡◌, ℕ, ◌+◌, ◌-◌, ◌/◌, ◌^◌, ◌≤◌, ◌<◌, max, List, [], ◌∷◌, ◌++◌, length, replicate, Bool, true, false, arith, refl, ap, ◌∙◌, sym}
use Rattle.std.specs.Prelude.{◌==◌, not}
use Rattle.std.specs.List.{list_all}
use Rattle.std.proofs.lemmas.Bool.Decides.{nat_tests}
use Rattle.monetary_cat.specs.Monetary.{MonetaryValues, text_of}
use Rattle.strfmon.specs.declared.format.MoneyConversion.{MoneyConversion}
use Rattle.lc_base.specs.Amounts.{MoneyAmount}
use Rattle.std.proofs.lemmas.List.{length-append, length-replicate, append_assoc}
use Rattle.digit_groups.specs.Groups.{grouped}
use Rattle.monetary_cat.specs.declared.keys.MonText.TheVariants.{MonThousandsSep}
use Rattle.digit_groups.proofs.DigitLemmas.{length-last_digits}
use Rattle.strfmon.proofs.DecimalLemmas.{length-fraction_digits}
use Rattle.strfmon.specs.declared.decimal.Decimal.{Decimal}
use Rattle.strfmon.specs.Shown.{shown_fraction, shown_number, shown_parts}
use Rattle.digit_groups.specs.Digits.{digit_count, last_digits}
use Rattle.strfmon.specs.Decimals.{whole_digits, fraction_digits, magnitude, fraction_kept, IsRounded}
use Rattle.strfmon.specs.Looks.{Look, look_of, parts_text}
use Rattle.strfmon.specs.Money.{fraction_text, radix_of, precision_of, sizes_of, text_parts, text_with, aligned_text, conversion_text, in_field, with_spaces, spaces, is_negative, pad_count, aligned_digits, fill_count}

-- ---- widths

pub length-fraction_text : (v : MonetaryValues) (p : ℕ) (a : MoneyAmount) → 0 < p → length (fraction_text v p a) ≡ length (radix_of v) + p
length-fraction_text v p a some =
    let no : (p == 0) ≡ false = grind (arith, nat_tests) in
    let is : fraction_text v p a ≡ radix_of v ++ fraction_digits p a = rw no refl in
    omega (arith, ap length is, length-append (radix_of v) (fraction_digits p a), length-fraction_digits p a)

pub length-text_with : (v : MonetaryValues) (c : MoneyConversion) (a : MoneyAmount) (own other : Look) (digits : ℕ) → length (whole_digits (precision_of v c) a) ≡ digits →
    length (text_with v c a own other) ≡
    pad_count (aligned_digits c digits) (parts_text own own.before) (parts_text other other.before) + length (parts_text own own.before)
    + fill_count v c digits (aligned_digits c digits)
    + (length (grouped (whole_digits (precision_of v c) a) (sizes_of v c) (text_of v MonThousandsSep)) + length (fraction_text v (precision_of v c) a))
    + length (parts_text own own.after) + pad_count (aligned_digits c digits) (parts_text own own.after) (parts_text other other.after)
unfolding text_with
length-text_with v c a own other digits e =
    rw (← e) (simp (length-append, length-replicate) refl)

-- ---- an amount laid out

pub whole_count : (p : ℕ) (a : MoneyAmount) (d : Decimal) → IsRounded d p a → length (whole_digits p a) ≡ digit_count d.whole
whole_count p a d r =
    let n : ℕ = magnitude p a / 10 ^ fraction_kept p a in
    length-last_digits (digit_count n) n ∙ ap (λ k. digit_count k) (sym r.whole_is)

text_laid_out : (v : MonetaryValues) (c : MoneyConversion) (a : MoneyAmount) (own other : Look) (digits before fill after : ℕ) → length (whole_digits (precision_of v c) a) ≡ digits →
    before ≡ pad_count (aligned_digits c digits) (parts_text own own.before) (parts_text other other.before) →
    fill ≡ fill_count v c digits (aligned_digits c digits) →
    after ≡ pad_count (aligned_digits c digits) (parts_text own own.after) (parts_text other other.after) →
    text_parts v c a own before fill after ≡ text_with v c a own other
unfolding text_with
text_laid_out v c a own other digits before fill after d b f g = rw (b, f, g, ← d) refl

both_looks : (v : MonetaryValues) (c : MoneyConversion) (a : MoneyAmount) (own other : Look) → own ≡ look_of v c (is_negative a) → other ≡ look_of v c (not (is_negative a)) → text_with v c a own other ≡ aligned_text v c a
both_looks v c a own other o p = ap (λ l. text_with v c a l other) o ∙ ap (λ l. text_with v c a (look_of v c (is_negative a)) l) p

-- the text of an amount is that of its decimal
pub shown_amount : (v : MonetaryValues) (c : MoneyConversion) (a : MoneyAmount) (d : Decimal) (l : Look) (before fill after : ℕ) → IsRounded d (precision_of v c) a → d.precision ≡ precision_of v c → shown_parts v c d l before fill after ≡ text_parts v c a l before fill after
shown_amount v c a d l before fill after r p = rw (r.kept_is, r.magnitude_is, r.whole_is, p) refl

-- the bytes of the text of a decimal
fraction_shown : (v : MonetaryValues) (d : Decimal) → 0 < d.precision → shown_fraction v d ≡ radix_of v ++ (last_digits d.kept d.magnitude ++ replicate (d.precision - d.kept) 48)
fraction_shown v d some = let no : (d.precision == 0) ≡ false = grind (arith, nat_tests) in rw no refl

pub length-shown_fraction : (v : MonetaryValues) (d : Decimal) → 0 < d.precision → d.kept ≤ d.precision → length (shown_fraction v d) ≡ length (radix_of v) + d.precision
length-shown_fraction v d some short =
    let digits : List ℕ = last_digits d.kept d.magnitude ++ replicate (d.precision - d.kept) 48 in
    omega (arith, ap length (fraction_shown v d some), length-append (radix_of v) digits, length-append (last_digits d.kept d.magnitude) (replicate (d.precision - d.kept) 48), length-last_digits d.kept d.magnitude, length-replicate {A = ℕ} (d.precision - d.kept) 48)

-- six texts before another
pub six_before : (a b c d e f rest : List ℕ) → a ++ (b ++ (c ++ (d ++ (e ++ (f ++ rest))))) ≡ (a ++ b ++ c ++ d ++ e ++ f) ++ rest
six_before a b c d e f rest = simp append_assoc refl

pub length-shown_parts : (v : MonetaryValues) (c : MoneyConversion) (d : Decimal) (l : Look) (before fill after : ℕ) →
    length (shown_parts v c d l before fill after) ≡ before + length (parts_text l l.before) + fill + length (shown_number v c d) + length (parts_text l l.after) + after
length-shown_parts v c d l before fill after = simp (length-append, length-replicate) refl

in_field_of : (left : Bool) (w n : ℕ) (t u : List ℕ) → t ≡ u → n ≡ w - length t → with_spaces left n t ≡ in_field left w u
in_field_of left w n t u same e = ap (λ k. with_spaces left k t) e ∙ ap (λ x. in_field left w x) same

length-in_field : (left : Bool) (w : ℕ) (t : List ℕ) → length (in_field left w t) ≡ max w (length t)
length-in_field true w t = let is : in_field true w t ≡ t ++ spaces (w - length t) = refl in omega (arith, ap length is, length-append t (spaces (w - length t)), length-replicate {A = ℕ} (w - length t) 32)
length-in_field false w t = let is : in_field false w t ≡ spaces (w - length t) ++ t = refl in omega (arith, ap length is, length-append (spaces (w - length t)) t, length-replicate {A = ℕ} (w - length t) 32)

pub laid_text : (v : MonetaryValues) (c : MoneyConversion) (a : MoneyAmount) (own other : Look) (digits before fill after width field : ℕ) →
    own ≡ look_of v c (is_negative a) → other ≡ look_of v c (not (is_negative a)) → length (whole_digits (precision_of v c) a) ≡ digits →
    before ≡ pad_count (aligned_digits c digits) (parts_text own own.before) (parts_text other other.before) →
    fill ≡ fill_count v c digits (aligned_digits c digits) →
    after ≡ pad_count (aligned_digits c digits) (parts_text own own.after) (parts_text other other.after) →
    width ≡ length (text_with v c a own other) → field ≡ c.width - width →
    with_spaces c.flags.left field (text_parts v c a own before fill after) ≡ conversion_text v c a
laid_text v c a own other digits before fill after width field o p d b f g w n =
    let text : text_parts v c a own before fill after ≡ text_with v c a own other = text_laid_out v c a own other digits before fill after d b f g in
    in_field_of c.flags.left c.width field (text_parts v c a own before fill after) (aligned_text v c a) (text ∙ both_looks v c a own other o p) (n ∙ ap (λ k. c.width - k) (w ∙ ap length (sym text)))

pub laid_width : (v : MonetaryValues) (c : MoneyConversion) (a : MoneyAmount) (own other : Look) (width field : ℕ) → own ≡ look_of v c (is_negative a) → other ≡ look_of v c (not (is_negative a)) →
    width ≡ length (text_with v c a own other) → field ≡ c.width - width → width + field ≡ length (conversion_text v c a)
laid_width v c a own other width field o p w n =
    let long : length (conversion_text v c a) ≡ max c.width (length (aligned_text v c a)) = length-in_field c.flags.left c.width (aligned_text v c a) in
    let all : width ≡ length (aligned_text v c a) = w ∙ ap length (both_looks v c a own other o p) in
    omega arith

-- ---- answers

-- any amount has a text
pub any_amount : (amounts : List MoneyAmount) → list_all (λ _. true) amounts ≡ true
any_amount [] = refl
any_amount (a ∷ amounts) = any_amount amounts
