use Rattle.std.proofs.Common.{◌≡◌, ◌+◌, Some, None, ap, sym, ◌∙◌, drop}
use Rattle.std.proofs.lemmas.List.{take_rest}
use Rattle.digit_groups.specs.Numbers.{leading_number}
use Rattle.digit_groups.specs.Conversions.{number_after}
use Rattle.strfmon.specs.Formats.{flags, is_international, conversion}
use Rattle.strfmon.proofs.FormatLemmas.{conversion_some, no_flags_there, no_width_there, no_digits_there, no_precision_there, no_letter_there}
use Rattle.strfmon.proofs.format.conversion_of.Goals as goal

pub returns-in_err-flags-clause-is : goal.returns-in_err-flags-clause-is
returns-in_err-flags-clause-is c =
    let e1 : flags c.args.bytes.now ≡ None = sym c.flags_of.ensures.is ∙ c.in_err-flags.was in
    let none : conversion c.args.bytes.now ≡ None = no_flags_there c.args.bytes.now e1 in
    cc

pub returns-in_err-width-clause-is : goal.returns-in_err-width-clause-is
returns-in_err-width-clause-is c =
    let e1 : flags c.args.bytes.now ≡ Some (c.in_ok-flags.flags, c.in_ok-flags.at) = sym c.flags_of.ensures.is ∙ c.in_ok-flags.was in
    let e2 : leading_number (drop (c.in_ok-flags.at) c.args.bytes.now) ≡ None = ap (λ t. leading_number t) (sym (take_rest c.args.bytes.now (c.in_ok-flags.at))) ∙ sym c.leading_number.ensures.is ∙ c.in_err-width.was in
    let none : conversion c.args.bytes.now ≡ None = no_width_there c.args.bytes.now c.in_ok-flags.flags (c.in_ok-flags.at) e1 e2 in
    cc

pub returns-in_err-whole_digits-clause-is : goal.returns-in_err-whole_digits-clause-is
returns-in_err-whole_digits-clause-is c =
    let e1 : flags c.args.bytes.now ≡ Some (c.in_ok-flags.flags, c.in_ok-flags.at) = sym c.flags_of.ensures.is ∙ c.in_ok-flags.was in
    let e2 : leading_number (drop (c.in_ok-flags.at) c.args.bytes.now) ≡ Some (c.in_ok-width.width, c.in_ok-width.digits) = ap (λ t. leading_number t) (sym (take_rest c.args.bytes.now (c.in_ok-flags.at))) ∙ sym c.leading_number.ensures.is ∙ c.in_ok-width.was in
    let e3 : number_after 35 1 (drop (c.in_ok-flags.at + c.in_ok-width.digits) c.args.bytes.now) ≡ None = ap (λ t. number_after 35 1 t) (sym (take_rest c.args.bytes.now (c.in_ok-flags.at + c.in_ok-width.digits))) ∙ sym c.number_after.ensures.is ∙ c.in_err-whole_digits.was in
    let none : conversion c.args.bytes.now ≡ None = no_digits_there c.args.bytes.now c.in_ok-flags.flags (c.in_ok-flags.at) c.in_ok-width.width c.in_ok-width.digits e1 e2 e3 in
    cc

pub returns-in_err-precision-clause-is : goal.returns-in_err-precision-clause-is
returns-in_err-precision-clause-is c =
    let e1 : flags c.args.bytes.now ≡ Some (c.in_ok-flags.flags, c.in_ok-flags.at) = sym c.flags_of.ensures.is ∙ c.in_ok-flags.was in
    let e2 : leading_number (drop (c.in_ok-flags.at) c.args.bytes.now) ≡ Some (c.in_ok-width.width, c.in_ok-width.digits) = ap (λ t. leading_number t) (sym (take_rest c.args.bytes.now (c.in_ok-flags.at))) ∙ sym c.leading_number.ensures.is ∙ c.in_ok-width.was in
    let e3 : number_after 35 1 (drop (c.in_ok-flags.at + c.in_ok-width.digits) c.args.bytes.now) ≡ Some (c.in_ok-whole_digits.whole_digits, c.in_ok-whole_digits.more) = ap (λ t. number_after 35 1 t) (sym (take_rest c.args.bytes.now (c.in_ok-flags.at + c.in_ok-width.digits))) ∙ sym c.number_after.ensures.is ∙ c.in_ok-whole_digits.was in
    let e4 : number_after 46 1 (drop (c.in_ok-flags.at + c.in_ok-width.digits + c.in_ok-whole_digits.more) c.args.bytes.now) ≡ None = ap (λ t. number_after 46 1 t) (sym (take_rest c.args.bytes.now (c.in_ok-flags.at + c.in_ok-width.digits + c.in_ok-whole_digits.more))) ∙ sym c.number_after-2.ensures.is ∙ c.in_err-precision.was in
    let none : conversion c.args.bytes.now ≡ None = no_precision_there c.args.bytes.now c.in_ok-flags.flags (c.in_ok-flags.at) c.in_ok-width.width c.in_ok-width.digits c.in_ok-whole_digits.whole_digits c.in_ok-whole_digits.more e1 e2 e3 e4 in
    cc

pub returns-in_err-international-clause-is : goal.returns-in_err-international-clause-is
returns-in_err-international-clause-is c =
    let e1 : flags c.args.bytes.now ≡ Some (c.in_ok-flags.flags, c.in_ok-flags.at) = sym c.flags_of.ensures.is ∙ c.in_ok-flags.was in
    let e2 : leading_number (drop (c.in_ok-flags.at) c.args.bytes.now) ≡ Some (c.in_ok-width.width, c.in_ok-width.digits) = ap (λ t. leading_number t) (sym (take_rest c.args.bytes.now (c.in_ok-flags.at))) ∙ sym c.leading_number.ensures.is ∙ c.in_ok-width.was in
    let e3 : number_after 35 1 (drop (c.in_ok-flags.at + c.in_ok-width.digits) c.args.bytes.now) ≡ Some (c.in_ok-whole_digits.whole_digits, c.in_ok-whole_digits.more) = ap (λ t. number_after 35 1 t) (sym (take_rest c.args.bytes.now (c.in_ok-flags.at + c.in_ok-width.digits))) ∙ sym c.number_after.ensures.is ∙ c.in_ok-whole_digits.was in
    let e4 : number_after 46 1 (drop (c.in_ok-flags.at + c.in_ok-width.digits + c.in_ok-whole_digits.more) c.args.bytes.now) ≡ Some (c.in_ok-precision.precision, c.in_ok-precision.more) = ap (λ t. number_after 46 1 t) (sym (take_rest c.args.bytes.now (c.in_ok-flags.at + c.in_ok-width.digits + c.in_ok-whole_digits.more))) ∙ sym c.number_after-2.ensures.is ∙ c.in_ok-precision.was in
    let e5 : is_international (drop (c.in_ok-flags.at + c.in_ok-width.digits + c.in_ok-whole_digits.more + c.in_ok-precision.more) c.args.bytes.now) ≡ None = ap (λ t. is_international t) (sym (take_rest c.args.bytes.now (c.in_ok-flags.at + c.in_ok-width.digits + c.in_ok-whole_digits.more + c.in_ok-precision.more))) ∙ sym c.is_international.ensures.is ∙ c.in_err-international.was in
    let none : conversion c.args.bytes.now ≡ None = no_letter_there c.args.bytes.now c.in_ok-flags.flags (c.in_ok-flags.at) c.in_ok-width.width c.in_ok-width.digits c.in_ok-whole_digits.whole_digits c.in_ok-whole_digits.more c.in_ok-precision.precision c.in_ok-precision.more e1 e2 e3 e4 e5 in
    cc

pub returns-clause-is : goal.returns-clause-is
returns-clause-is c =
    let e1 : flags c.args.bytes.now ≡ Some (c.in_ok-flags.flags, c.in_ok-flags.at) = sym c.flags_of.ensures.is ∙ c.in_ok-flags.was in
    let e2 : leading_number (drop (c.in_ok-flags.at) c.args.bytes.now) ≡ Some (c.in_ok-width.width, c.in_ok-width.digits) = ap (λ t. leading_number t) (sym (take_rest c.args.bytes.now (c.in_ok-flags.at))) ∙ sym c.leading_number.ensures.is ∙ c.in_ok-width.was in
    let e3 : number_after 35 1 (drop (c.in_ok-flags.at + c.in_ok-width.digits) c.args.bytes.now) ≡ Some (c.in_ok-whole_digits.whole_digits, c.in_ok-whole_digits.more) = ap (λ t. number_after 35 1 t) (sym (take_rest c.args.bytes.now (c.in_ok-flags.at + c.in_ok-width.digits))) ∙ sym c.number_after.ensures.is ∙ c.in_ok-whole_digits.was in
    let e4 : number_after 46 1 (drop (c.in_ok-flags.at + c.in_ok-width.digits + c.in_ok-whole_digits.more) c.args.bytes.now) ≡ Some (c.in_ok-precision.precision, c.in_ok-precision.more) = ap (λ t. number_after 46 1 t) (sym (take_rest c.args.bytes.now (c.in_ok-flags.at + c.in_ok-width.digits + c.in_ok-whole_digits.more))) ∙ sym c.number_after-2.ensures.is ∙ c.in_ok-precision.was in
    let e5 : is_international (drop (c.in_ok-flags.at + c.in_ok-width.digits + c.in_ok-whole_digits.more + c.in_ok-precision.more) c.args.bytes.now) ≡ Some c.in_ok-international.international = ap (λ t. is_international t) (sym (take_rest c.args.bytes.now (c.in_ok-flags.at + c.in_ok-width.digits + c.in_ok-whole_digits.more + c.in_ok-precision.more))) ∙ sym c.is_international.ensures.is ∙ c.in_ok-international.was in
    sym (conversion_some c.args.bytes.now c.in_ok-flags.flags (c.in_ok-flags.at) c.in_ok-width.width c.in_ok-width.digits c.in_ok-whole_digits.whole_digits c.in_ok-whole_digits.more c.in_ok-precision.precision c.in_ok-precision.more c.in_ok-international.international e1 e2 e3 e4 e5)
