use Rattle.std.proofs.Common.{◌≡◌, ℕ, length, ap, sym, ◌∙◌, subst}
use Rattle.std.specs.Prelude.{not}
use Rattle.strfmon.specs.Decimals.{whole_digits, IsRounded}
use Rattle.strfmon.specs.Looks.{look_of}
use Rattle.strfmon.specs.Money.{precision_of, is_negative, with_spaces}
use Rattle.strfmon.specs.Seen.{seen}
use Rattle.strfmon.proofs.MoneyLemmas.{whole_count, shown_amount, laid_text, laid_width}
use Rattle.strfmon.proofs.layout.laid_out.Goals as goal

pub returns-clause-text : goal.returns-clause-text
returns-clause-text c =
    let own : seen c.look_of-own.result ≡ look_of c.args.m.now c.args.c.now (is_negative c.args.amount) = c.look_of-own.ensures.is ∙ ap (λ b. look_of c.args.m.now c.args.c.now b) c.is_negative-negative.ensures in
    let other : look_of c.args.m.now c.args.c.now (not c.is_negative-negative.result) ≡ look_of c.args.m.now c.args.c.now (not (is_negative c.args.amount)) = ap (λ b. look_of c.args.m.now c.args.c.now (not b)) c.is_negative-negative.ensures in
    let P : ℕ → Type 0 = λ p. IsRounded c.decimal_of-decimal.result p c.args.amount in
    let rounded : IsRounded c.decimal_of-decimal.result (precision_of c.args.m.now c.args.c.now) c.args.amount = subst P c.precision_of.ensures.is c.decimal_of-decimal.ensures.is in
    let count : length (whole_digits (precision_of c.args.m.now c.args.c.now) c.args.amount) ≡ c.decimal_of-decimal.result.digits = whole_count (precision_of c.args.m.now c.args.c.now) c.args.amount c.decimal_of-decimal.result rounded ∙ sym c.decimal_of-decimal.ensures.digits in
    ap (λ t. with_spaces c.args.c.now.flags.left c.field_spaces.result t) (shown_amount c.args.m.now c.args.c.now c.args.amount c.decimal_of-decimal.result (seen c.look_of-own.result) _ _ _ rounded (c.decimal_of-decimal.ensures.precision ∙ c.precision_of.ensures.is))
    ∙ laid_text c.args.m.now c.args.c.now c.args.amount (seen c.look_of-own.result) (look_of c.args.m.now c.args.c.now (not c.is_negative-negative.result)) c.decimal_of-decimal.result.digits _ _ _ _ _ own other count
    c.layout_of-layout.ensures.before c.layout_of-layout.ensures.fill c.layout_of-layout.ensures.after (c.layout_of-layout.ensures.width c.args.amount count) c.field_spaces.ensures.is

pub returns-clause-width : goal.returns-clause-width
returns-clause-width c =
    let own : seen c.look_of-own.result ≡ look_of c.args.m.now c.args.c.now (is_negative c.args.amount) = c.look_of-own.ensures.is ∙ ap (λ b. look_of c.args.m.now c.args.c.now b) c.is_negative-negative.ensures in
    let other : look_of c.args.m.now c.args.c.now (not c.is_negative-negative.result) ≡ look_of c.args.m.now c.args.c.now (not (is_negative c.args.amount)) = ap (λ b. look_of c.args.m.now c.args.c.now (not b)) c.is_negative-negative.ensures in
    let P : ℕ → Type 0 = λ p. IsRounded c.decimal_of-decimal.result p c.args.amount in
    let rounded : IsRounded c.decimal_of-decimal.result (precision_of c.args.m.now c.args.c.now) c.args.amount = subst P c.precision_of.ensures.is c.decimal_of-decimal.ensures.is in
    let count : length (whole_digits (precision_of c.args.m.now c.args.c.now) c.args.amount) ≡ c.decimal_of-decimal.result.digits = whole_count (precision_of c.args.m.now c.args.c.now) c.args.amount c.decimal_of-decimal.result rounded ∙ sym c.decimal_of-decimal.ensures.digits in
    laid_width c.args.m.now c.args.c.now c.args.amount (seen c.look_of-own.result) (look_of c.args.m.now c.args.c.now (not c.is_negative-negative.result)) _ _ own other (c.layout_of-layout.ensures.width c.args.amount count) c.field_spaces.ensures.is
