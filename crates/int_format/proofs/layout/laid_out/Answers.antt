use Rattle.std.proofs.Common.{◌≡◌, ℕ, ◌+◌, ◌-◌, max, List, length, arith, ap, sym, ◌∙◌}
use Rattle.std.proofs.Math.Facts.{to_z-of_z}
use Rattle.digit_groups.specs.Groups.{grouped}
use Rattle.digit_groups.specs.Digits.{last_digits}
use Rattle.int_format.specs.Digits.{digit_count}
use Rattle.int_format.specs.Ints.{shown, sign_text, least_digits, sizes_of, padded, conversion_text}
use Rattle.digit_groups.proofs.DigitLemmas.{length-last_digits}
use Rattle.int_format.proofs.IntLemmas.{laid_text, length-padded}
use Rattle.int_format.proofs.layout.laid_out.Goals as goal

pub returns-clause-text : goal.returns-clause-text
returns-clause-text c =
    let same = to_z-of_z c.ranges.value in
    let digits : List ℕ = last_digits c.max-digits.result c.magnitude_of-magnitude.result in
    let text : List ℕ = grouped digits (sizes_of c.args.n.now c.args.c.now) c.args.n.now.thousands_sep in
    let wide : length text ≡ c.grouped_width.result = cc (c.grouped_width.ensures.length digits (length-last_digits c.max-digits.result c.magnitude_of-magnitude.result), c.sizes_of.ensures, c.thousands_sep.ensures) in
    let count : c.max-digits.result ≡ max (digit_count c.magnitude_of-magnitude.result) (least_digits c.args.c.now) = cc (c.max-digits.ensures, c.digit_count.ensures.is, c.least_digits.ensures.is) in
    let padding : c.padding_of-padding.result ≡ c.args.c.now.width - (length c.sign_of-sign.result.now + length text) = c.padding_of-padding.ensures.is ∙ ap (λ k. c.args.c.now.width - (length c.sign_of-sign.result.now + k)) (sym wide) in
    let whole : padded c.fill_of.result c.padding_of-padding.result c.sign_of-sign.result.now text ≡ conversion_text c.args.n.now c.args.c.now c.args.value =
    laid_text c.args.n.now c.args.c.now c.args.value c.fill_of.result c.padding_of-padding.result c.sign_of-sign.result.now c.max-digits.result c.magnitude_of-magnitude.result (c.sign_of-sign.ensures.is ∙ ap (λ v. sign_text c.args.c.now v) same) c.fill_of.ensures (c.magnitude_of-magnitude.ensures ∙ ap (λ v. shown c.args.c.now.signed v) same) count padding in
    whole

pub returns-clause-width : goal.returns-clause-width
returns-clause-width c =
    let same = to_z-of_z c.ranges.value in
    let digits : List ℕ = last_digits c.max-digits.result c.magnitude_of-magnitude.result in
    let text : List ℕ = grouped digits (sizes_of c.args.n.now c.args.c.now) c.args.n.now.thousands_sep in
    let wide : length text ≡ c.grouped_width.result = cc (c.grouped_width.ensures.length digits (length-last_digits c.max-digits.result c.magnitude_of-magnitude.result), c.sizes_of.ensures, c.thousands_sep.ensures) in
    let count : c.max-digits.result ≡ max (digit_count c.magnitude_of-magnitude.result) (least_digits c.args.c.now) = cc (c.max-digits.ensures, c.digit_count.ensures.is, c.least_digits.ensures.is) in
    let padding : c.padding_of-padding.result ≡ c.args.c.now.width - (length c.sign_of-sign.result.now + length text) = c.padding_of-padding.ensures.is ∙ ap (λ k. c.args.c.now.width - (length c.sign_of-sign.result.now + k)) (sym wide) in
    let whole : padded c.fill_of.result c.padding_of-padding.result c.sign_of-sign.result.now text ≡ conversion_text c.args.n.now c.args.c.now c.args.value =
    laid_text c.args.n.now c.args.c.now c.args.value c.fill_of.result c.padding_of-padding.result c.sign_of-sign.result.now c.max-digits.result c.magnitude_of-magnitude.result (c.sign_of-sign.ensures.is ∙ ap (λ v. sign_text c.args.c.now v) same) c.fill_of.ensures (c.magnitude_of-magnitude.ensures ∙ ap (λ v. shown c.args.c.now.signed v) same) count padding in
    omega (arith, ap length whole, length-padded c.fill_of.result c.padding_of-padding.result c.sign_of-sign.result.now text, wide)
