use Rattle.std.proofs.Common.{◌≡◌, Some, ap, sym, subst, ◌∙◌}
use Rattle.std.specs.Fmt.{decimal}
use Rattle.std.proofs.lemmas.Result.{err_from_is_err_and}
use Rattle.lc_base.specs.Categories.{category_name}
use Rattle.handle_table.specs.declared.op.Refusal.TheVariants as refusals
use Rattle.script_out.specs.declared.output.Why.{Why}
use Rattle.script_out.specs.declared.output.Why.TheVariants as whys
use Rattle.script_out.specs.Output.{field_text}
use Rattle.output_reader.specs.declared.words.WhyForm.TheVariants as forms
use Rattle.output_reader.specs.Ranges.{IsWhy}
use Rattle.output_reader.proofs.FirstWords.{why_has_form, why_of_form}
use Rattle.output_reader.proofs.items.why.Goals as goal

pub returns-in_default-clause-back : goal.returns-in_default-clause-back
returns-in_default-clause-back c = λ w fits is.
    absurd (why_has_form w c.args.bytes.now c.first_word.result.0.now c.first_word.result.1.now c.why_form.result is c.first_word.ensures.back c.why_form.ensures c.in_default.is)

pub returns-in-Whole-clause-back : goal.returns-in-Whole-clause-back
returns-in-Whole-clause-back c = λ w fits is.
    let at : c.why_form.result ≡ Some (forms.Whole c.in-Whole.why) = cc (c.in-Some.is, c.in-Whole.is) in
    let this = why_of_form w c.args.bytes.now c.first_word.result.0.now c.first_word.result.1.now c.why_form.result (forms.Whole c.in-Whole.why) is c.first_word.ensures.back c.why_form.ensures at in
    sym this

pub returns-in-Some-category-clause-back : goal.returns-in-Some-category-clause-back
returns-in-Some-category-clause-back c = λ w fits is.
    let at : c.why_form.result ≡ Some (forms.NoData) = cc (c.in-Some.is, c.in-NoData.is) in
    let this = why_of_form w c.args.bytes.now c.first_word.result.0.now c.first_word.result.1.now c.why_form.result (forms.NoData) is c.first_word.ensures.back c.why_form.ensures at in
    let there = c.behind_space-operand.ensures (category_name this.0) this.2 in
    let found = c.category.ensures this.0 (sym there) in
    let same : c.in-Some-category.category ≡ this.0 = cc (found, c.in-Some-category.is) in
    ap (λ k. whys.Table (refusals.NoData k)) same ∙ sym this.1

pub returns-in-None-clause-back : goal.returns-in-None-clause-back
returns-in-None-clause-back c = λ w fits is.
    let at : c.why_form.result ≡ Some (forms.NoData) = cc (c.in-Some.is, c.in-NoData.is) in
    let this = why_of_form w c.args.bytes.now c.first_word.result.0.now c.first_word.result.1.now c.why_form.result (forms.NoData) is c.first_word.ensures.back c.why_form.ensures at in
    let there = c.behind_space-operand.ensures (category_name this.0) this.2 in
    let found = c.category.ensures this.0 (sym there) in
    absurd (cc (found, c.in-None.is))

pub returns-in-Some-field-clause-back : goal.returns-in-Some-field-clause-back
returns-in-Some-field-clause-back c = λ w fits is.
    let at : c.why_form.result ≡ Some (forms.TmRange) = cc (c.in-Some.is, c.in-TmRange.is) in
    let this = why_of_form w c.args.bytes.now c.first_word.result.0.now c.first_word.result.1.now c.why_form.result (forms.TmRange) is c.first_word.ensures.back c.why_form.ensures at in
    let there = c.behind_space-operand.ensures (field_text this.0) this.2 in
    let found = c.field.ensures this.0 (sym there) in
    let same : c.in-Some-field.field ≡ this.0 = cc (found, c.in-Some-field.is) in
    ap (λ k. whys.TmRange k) same ∙ sym this.1

pub returns-in-None-field-clause-back : goal.returns-in-None-field-clause-back
returns-in-None-field-clause-back c = λ w fits is.
    let at : c.why_form.result ≡ Some (forms.TmRange) = cc (c.in-Some.is, c.in-TmRange.is) in
    let this = why_of_form w c.args.bytes.now c.first_word.result.0.now c.first_word.result.1.now c.why_form.result (forms.TmRange) is c.first_word.ensures.back c.why_form.ensures at in
    let there = c.behind_space-operand.ensures (field_text this.0) this.2 in
    let found = c.field.ensures this.0 (sym there) in
    absurd (cc (found, c.in-None-field.is))

pub returns-in_err-format_at-in-BadFormat-clause-back : goal.returns-in_err-format_at-in-BadFormat-clause-back
returns-in_err-format_at-in-BadFormat-clause-back c = λ w fits is.
    let at : c.why_form.result ≡ Some (forms.BadFormat) = cc (c.in-Some.is, c.in-BadFormat.is) in
    let this = why_of_form w c.args.bytes.now c.first_word.result.0.now c.first_word.result.1.now c.why_form.result (forms.BadFormat) is c.first_word.ensures.back c.why_form.ensures at in
    let there = c.behind_space-operand.ensures (decimal this.0) this.2 in
    let small = subst (λ (v : Why). IsWhy v) this.1 fits in
    let p = err_from_is_err_and c.from_residual.result c.from_residual.ensures.1 in
    rw (p.1, p.2) (c.in_err-format_at-in-BadFormat.ensures.back this.0 small (sym there))

pub returns-in_ok-format_at-in-BadFormat-clause-back : goal.returns-in_ok-format_at-in-BadFormat-clause-back
returns-in_ok-format_at-in-BadFormat-clause-back c = λ w fits is.
    let at : c.why_form.result ≡ Some (forms.BadFormat) = cc (c.in-Some.is, c.in-BadFormat.is) in
    let this = why_of_form w c.args.bytes.now c.first_word.result.0.now c.first_word.result.1.now c.why_form.result (forms.BadFormat) is c.first_word.ensures.back c.why_form.ensures at in
    let there = c.behind_space-operand.ensures (decimal this.0) this.2 in
    let small = subst (λ (v : Why). IsWhy v) this.1 fits in
    ap (λ k. whys.BadFormat k) (c.in_ok-format_at-in-BadFormat.ensures.back this.0 small (sym there)) ∙ sym this.1

pub returns-in_err-amount_at-in-MissingAmount-clause-back : goal.returns-in_err-amount_at-in-MissingAmount-clause-back
returns-in_err-amount_at-in-MissingAmount-clause-back c = λ w fits is.
    let at : c.why_form.result ≡ Some (forms.MissingAmount) = cc (c.in-Some.is, c.in-MissingAmount.is) in
    let this = why_of_form w c.args.bytes.now c.first_word.result.0.now c.first_word.result.1.now c.why_form.result (forms.MissingAmount) is c.first_word.ensures.back c.why_form.ensures at in
    let there = c.behind_space-operand.ensures (decimal this.0) this.2 in
    let small = subst (λ (v : Why). IsWhy v) this.1 fits in
    let p = err_from_is_err_and c.from_residual-in_err-amount_at-in-MissingAmount.result c.from_residual-in_err-amount_at-in-MissingAmount.ensures.1 in
    rw (p.1, p.2) (c.in_err-amount_at-in-MissingAmount.ensures.back this.0 small (sym there))

pub returns-in_ok-amount_at-in-MissingAmount-clause-back : goal.returns-in_ok-amount_at-in-MissingAmount-clause-back
returns-in_ok-amount_at-in-MissingAmount-clause-back c = λ w fits is.
    let at : c.why_form.result ≡ Some (forms.MissingAmount) = cc (c.in-Some.is, c.in-MissingAmount.is) in
    let this = why_of_form w c.args.bytes.now c.first_word.result.0.now c.first_word.result.1.now c.why_form.result (forms.MissingAmount) is c.first_word.ensures.back c.why_form.ensures at in
    let there = c.behind_space-operand.ensures (decimal this.0) this.2 in
    let small = subst (λ (v : Why). IsWhy v) this.1 fits in
    ap (λ k. whys.MissingAmount k) (c.in_ok-amount_at-in-MissingAmount.ensures.back this.0 small (sym there)) ∙ sym this.1

pub returns-in_err-number_at-in-MissingNumber-clause-back : goal.returns-in_err-number_at-in-MissingNumber-clause-back
returns-in_err-number_at-in-MissingNumber-clause-back c = λ w fits is.
    let at : c.why_form.result ≡ Some (forms.MissingNumber) = cc (c.in-Some.is, c.in-MissingNumber.is) in
    let this = why_of_form w c.args.bytes.now c.first_word.result.0.now c.first_word.result.1.now c.why_form.result (forms.MissingNumber) is c.first_word.ensures.back c.why_form.ensures at in
    let there = c.behind_space-operand.ensures (decimal this.0) this.2 in
    let small = subst (λ (v : Why). IsWhy v) this.1 fits in
    let p = err_from_is_err_and c.from_residual-in_err-number_at-in-MissingNumber.result c.from_residual-in_err-number_at-in-MissingNumber.ensures.1 in
    rw (p.1, p.2) (c.in_err-number_at-in-MissingNumber.ensures.back this.0 small (sym there))

pub returns-in_ok-number_at-in-MissingNumber-clause-back : goal.returns-in_ok-number_at-in-MissingNumber-clause-back
returns-in_ok-number_at-in-MissingNumber-clause-back c = λ w fits is.
    let at : c.why_form.result ≡ Some (forms.MissingNumber) = cc (c.in-Some.is, c.in-MissingNumber.is) in
    let this = why_of_form w c.args.bytes.now c.first_word.result.0.now c.first_word.result.1.now c.why_form.result (forms.MissingNumber) is c.first_word.ensures.back c.why_form.ensures at in
    let there = c.behind_space-operand.ensures (decimal this.0) this.2 in
    let small = subst (λ (v : Why). IsWhy v) this.1 fits in
    ap (λ k. whys.MissingNumber k) (c.in_ok-number_at-in-MissingNumber.ensures.back this.0 small (sym there)) ∙ sym this.1

pub returns-in_err-text_at-in-Mismatch-clause-back : goal.returns-in_err-text_at-in-Mismatch-clause-back
returns-in_err-text_at-in-Mismatch-clause-back c = λ w fits is.
    let at : c.why_form.result ≡ Some (forms.Mismatch) = cc (c.in-Some.is, c.in-Mismatch.is) in
    let this = why_of_form w c.args.bytes.now c.first_word.result.0.now c.first_word.result.1.now c.why_form.result (forms.Mismatch) is c.first_word.ensures.back c.why_form.ensures at in
    let there = c.behind_space-operand.ensures (decimal this.0) this.2 in
    let small = subst (λ (v : Why). IsWhy v) this.1 fits in
    let p = err_from_is_err_and c.from_residual-in_err-text_at-in-Mismatch.result c.from_residual-in_err-text_at-in-Mismatch.ensures.1 in
    rw (p.1, p.2) (c.in_err-text_at-in-Mismatch.ensures.back this.0 small (sym there))

pub returns-in_ok-text_at-in-Mismatch-clause-back : goal.returns-in_ok-text_at-in-Mismatch-clause-back
returns-in_ok-text_at-in-Mismatch-clause-back c = λ w fits is.
    let at : c.why_form.result ≡ Some (forms.Mismatch) = cc (c.in-Some.is, c.in-Mismatch.is) in
    let this = why_of_form w c.args.bytes.now c.first_word.result.0.now c.first_word.result.1.now c.why_form.result (forms.Mismatch) is c.first_word.ensures.back c.why_form.ensures at in
    let there = c.behind_space-operand.ensures (decimal this.0) this.2 in
    let small = subst (λ (v : Why). IsWhy v) this.1 fits in
    ap (λ k. whys.Mismatch k) (c.in_ok-text_at-in-Mismatch.ensures.back this.0 small (sym there)) ∙ sym this.1
