use Rattle.std.proofs.Common.{◌≡◌, ◌++◌, Some, ap, sym, subst, ◌∙◌}
use Rattle.std.specs.Prelude.{codes}
use Rattle.std.specs.Fmt.{decimal}
use Rattle.std.proofs.lemmas.Result.{err_from_is_err_and}
use Rattle.script_out.specs.declared.output.Said.{Said}
use Rattle.script_out.specs.declared.output.Said.TheVariants as said
use Rattle.script_out.specs.Output.{space, quoted, handle_text, named_text, year_text, fields_text, fields_behind_year, why_text, reply_text}
use Rattle.output_reader.specs.declared.words.ReplyForm.TheVariants as replies
use Rattle.output_reader.specs.Ranges.{IsSaid}
use Rattle.output_reader.proofs.Giving.{gives_for, given}
use Rattle.output_reader.proofs.FirstWords.{reply_has_form, reply_of_form}
use Rattle.output_reader.proofs.reply.reply.Goals as goal

pub returns-in_default-clause-back : goal.returns-in_default-clause-back
returns-in_default-clause-back c = λ v fits is.
    absurd (reply_has_form c.args.threads.now v c.args.bytes.now c.first_word.result.0.now c.first_word.result.1.now c.reply_form.result is c.first_word.ensures.back c.reply_form.ensures c.in_default.is)

pub returns-in-Freed-clause-back : goal.returns-in-Freed-clause-back
returns-in-Freed-clause-back c = λ v fits is.
    let at : c.reply_form.result ≡ Some replies.Freed = cc (c.in-Some.is, c.in-Freed.is) in
    let this = reply_of_form c.args.threads.now v c.args.bytes.now c.first_word.result.0.now c.first_word.result.1.now c.reply_form.result replies.Freed is c.first_word.ensures.back c.reply_form.ensures at in
    given (reply_text c.args.threads.now) c.args.threads.now v _ (sym this)

pub returns-in-Held-clause-back : goal.returns-in-Held-clause-back
returns-in-Held-clause-back c = λ v fits is.
    let at : c.reply_form.result ≡ Some replies.Held = cc (c.in-Some.is, c.in-Held.is) in
    let this = reply_of_form c.args.threads.now v c.args.bytes.now c.first_word.result.0.now c.first_word.result.1.now c.reply_form.result replies.Held is c.first_word.ensures.back c.reply_form.ensures at in
    given (reply_text c.args.threads.now) c.args.threads.now v _ (sym this)

pub returns-in-Released-clause-back : goal.returns-in-Released-clause-back
returns-in-Released-clause-back c = λ v fits is.
    let at : c.reply_form.result ≡ Some replies.Released = cc (c.in-Some.is, c.in-Released.is) in
    let this = reply_of_form c.args.threads.now v c.args.bytes.now c.first_word.result.0.now c.first_word.result.1.now c.reply_form.result replies.Released is c.first_word.ensures.back c.reply_form.ensures at in
    given (reply_text c.args.threads.now) c.args.threads.now v _ (sym this)

pub returns-in-Posted-clause-back : goal.returns-in-Posted-clause-back
returns-in-Posted-clause-back c = λ v fits is.
    let at : c.reply_form.result ≡ Some replies.Posted = cc (c.in-Some.is, c.in-Posted.is) in
    let this = reply_of_form c.args.threads.now v c.args.bytes.now c.first_word.result.0.now c.first_word.result.1.now c.reply_form.result replies.Posted is c.first_word.ensures.back c.reply_form.ensures at in
    given (reply_text c.args.threads.now) c.args.threads.now v _ (sym this)

pub returns-in-Closed-clause-back : goal.returns-in-Closed-clause-back
returns-in-Closed-clause-back c = λ v fits is.
    let at : c.reply_form.result ≡ Some replies.Closed = cc (c.in-Some.is, c.in-Closed.is) in
    let this = reply_of_form c.args.threads.now v c.args.bytes.now c.first_word.result.0.now c.first_word.result.1.now c.reply_form.result replies.Closed is c.first_word.ensures.back c.reply_form.ensures at in
    given (reply_text c.args.threads.now) c.args.threads.now v _ (sym this)

pub returns-in-Ended-clause-back : goal.returns-in-Ended-clause-back
returns-in-Ended-clause-back c = λ v fits is.
    let at : c.reply_form.result ≡ Some replies.Ended = cc (c.in-Some.is, c.in-Ended.is) in
    let this = reply_of_form c.args.threads.now v c.args.bytes.now c.first_word.result.0.now c.first_word.result.1.now c.reply_form.result replies.Ended is c.first_word.ensures.back c.reply_form.ensures at in
    given (reply_text c.args.threads.now) c.args.threads.now v _ (sym this)

pub returns-in-Yes-clause-back : goal.returns-in-Yes-clause-back
returns-in-Yes-clause-back c = λ v fits is.
    let at : c.reply_form.result ≡ Some replies.Yes = cc (c.in-Some.is, c.in-Yes.is) in
    let this = reply_of_form c.args.threads.now v c.args.bytes.now c.first_word.result.0.now c.first_word.result.1.now c.reply_form.result replies.Yes is c.first_word.ensures.back c.reply_form.ensures at in
    given (reply_text c.args.threads.now) c.args.threads.now v _ (sym this)

pub returns-in-No-clause-back : goal.returns-in-No-clause-back
returns-in-No-clause-back c = λ v fits is.
    let at : c.reply_form.result ≡ Some replies.No = cc (c.in-Some.is, c.in-No.is) in
    let this = reply_of_form c.args.threads.now v c.args.bytes.now c.first_word.result.0.now c.first_word.result.1.now c.reply_form.result replies.No is c.first_word.ensures.back c.reply_form.ensures at in
    given (reply_text c.args.threads.now) c.args.threads.now v _ (sym this)

pub returns-in_err-made-in-Handle-clause-back : goal.returns-in_err-made-in-Handle-clause-back
returns-in_err-made-in-Handle-clause-back c = λ v fits is.
    let at : c.reply_form.result ≡ Some replies.Handle = cc (c.in-Some.is, c.in-Handle.is) in
    let this = reply_of_form c.args.threads.now v c.args.bytes.now c.first_word.result.0.now c.first_word.result.1.now c.reply_form.result replies.Handle is c.first_word.ensures.back c.reply_form.ensures at in
    let there = c.behind_space-operand.ensures (handle_text c.args.threads.now this.0) this.2 in
    let small = subst (λ (u : Said). IsSaid c.args.threads.now u) this.1 fits in
    let p = err_from_is_err_and c.from_residual.result c.from_residual.ensures.1 in
    rw (p.1, p.2) (c.in_err-made-in-Handle.ensures.back this.0 small (sym there))

pub returns-in_ok-made-in-Handle-clause-back : goal.returns-in_ok-made-in-Handle-clause-back
returns-in_ok-made-in-Handle-clause-back c = λ v fits is.
    let at : c.reply_form.result ≡ Some replies.Handle = cc (c.in-Some.is, c.in-Handle.is) in
    let this = reply_of_form c.args.threads.now v c.args.bytes.now c.first_word.result.0.now c.first_word.result.1.now c.reply_form.result replies.Handle is c.first_word.ensures.back c.reply_form.ensures at in
    let there = c.behind_space-operand.ensures (handle_text c.args.threads.now this.0) this.2 in
    let small = subst (λ (u : Said). IsSaid c.args.threads.now u) this.1 fits in
    let read = c.in_ok-made-in-Handle.ensures.back this.0 small (sym there) in
    (ap (λ t. codes "handle " ++ t) read.0 ∙ ap (λ u. reply_text c.args.threads.now u) (sym this.1), λ distinct. ap (λ k. said.Handle k) (read.1 distinct) ∙ sym this.1)

pub returns-in_err-opened-in-Opened-clause-back : goal.returns-in_err-opened-in-Opened-clause-back
returns-in_err-opened-in-Opened-clause-back c = λ v fits is.
    let at : c.reply_form.result ≡ Some replies.Opened = cc (c.in-Some.is, c.in-Opened.is) in
    let this = reply_of_form c.args.threads.now v c.args.bytes.now c.first_word.result.0.now c.first_word.result.1.now c.reply_form.result replies.Opened is c.first_word.ensures.back c.reply_form.ensures at in
    let there = c.behind_space-operand.ensures (handle_text c.args.threads.now this.0) this.2 in
    let small = subst (λ (u : Said). IsSaid c.args.threads.now u) this.1 fits in
    let p = err_from_is_err_and c.from_residual-in_err-opened-in-Opened.result c.from_residual-in_err-opened-in-Opened.ensures.1 in
    rw (p.1, p.2) (c.in_err-opened-in-Opened.ensures.back this.0 small (sym there))

pub returns-in_ok-opened-in-Opened-clause-back : goal.returns-in_ok-opened-in-Opened-clause-back
returns-in_ok-opened-in-Opened-clause-back c = λ v fits is.
    let at : c.reply_form.result ≡ Some replies.Opened = cc (c.in-Some.is, c.in-Opened.is) in
    let this = reply_of_form c.args.threads.now v c.args.bytes.now c.first_word.result.0.now c.first_word.result.1.now c.reply_form.result replies.Opened is c.first_word.ensures.back c.reply_form.ensures at in
    let there = c.behind_space-operand.ensures (handle_text c.args.threads.now this.0) this.2 in
    let small = subst (λ (u : Said). IsSaid c.args.threads.now u) this.1 fits in
    let read = c.in_ok-opened-in-Opened.ensures.back this.0 small (sym there) in
    (ap (λ t. codes "opened " ++ t) read.0 ∙ ap (λ u. reply_text c.args.threads.now u) (sym this.1), λ distinct. ap (λ k. said.Opened k) (read.1 distinct) ∙ sym this.1)

pub returns-in_err-former-in-Was-clause-back : goal.returns-in_err-former-in-Was-clause-back
returns-in_err-former-in-Was-clause-back c = λ v fits is.
    let at : c.reply_form.result ≡ Some replies.Was = cc (c.in-Some.is, c.in-Was.is) in
    let this = reply_of_form c.args.threads.now v c.args.bytes.now c.first_word.result.0.now c.first_word.result.1.now c.reply_form.result replies.Was is c.first_word.ensures.back c.reply_form.ensures at in
    let there = c.behind_space-operand.ensures (named_text c.args.threads.now this.0) this.2 in
    let small = subst (λ (u : Said). IsSaid c.args.threads.now u) this.1 fits in
    let p = err_from_is_err_and c.from_residual-in_err-former-in-Was.result c.from_residual-in_err-former-in-Was.ensures.1 in
    rw (p.1, p.2) (c.in_err-former-in-Was.ensures.back this.0 small (sym there))

pub returns-in_ok-former-in-Was-clause-back : goal.returns-in_ok-former-in-Was-clause-back
returns-in_ok-former-in-Was-clause-back c = λ v fits is.
    let at : c.reply_form.result ≡ Some replies.Was = cc (c.in-Some.is, c.in-Was.is) in
    let this = reply_of_form c.args.threads.now v c.args.bytes.now c.first_word.result.0.now c.first_word.result.1.now c.reply_form.result replies.Was is c.first_word.ensures.back c.reply_form.ensures at in
    let there = c.behind_space-operand.ensures (named_text c.args.threads.now this.0) this.2 in
    let small = subst (λ (u : Said). IsSaid c.args.threads.now u) this.1 fits in
    let read = c.in_ok-former-in-Was.ensures.back this.0 small (sym there) in
    (ap (λ t. codes "was " ++ t) read.0 ∙ ap (λ u. reply_text c.args.threads.now u) (sym this.1), λ distinct. ap (λ k. said.Was k) (read.1 distinct) ∙ sym this.1)

pub returns-in_err-selected-in-Is-clause-back : goal.returns-in_err-selected-in-Is-clause-back
returns-in_err-selected-in-Is-clause-back c = λ v fits is.
    let at : c.reply_form.result ≡ Some replies.Is = cc (c.in-Some.is, c.in-Is.is) in
    let this = reply_of_form c.args.threads.now v c.args.bytes.now c.first_word.result.0.now c.first_word.result.1.now c.reply_form.result replies.Is is c.first_word.ensures.back c.reply_form.ensures at in
    let there = c.behind_space-operand.ensures (named_text c.args.threads.now this.0) this.2 in
    let small = subst (λ (u : Said). IsSaid c.args.threads.now u) this.1 fits in
    let p = err_from_is_err_and c.from_residual-in_err-selected-in-Is.result c.from_residual-in_err-selected-in-Is.ensures.1 in
    rw (p.1, p.2) (c.in_err-selected-in-Is.ensures.back this.0 small (sym there))

pub returns-in_ok-selected-in-Is-clause-back : goal.returns-in_ok-selected-in-Is-clause-back
returns-in_ok-selected-in-Is-clause-back c = λ v fits is.
    let at : c.reply_form.result ≡ Some replies.Is = cc (c.in-Some.is, c.in-Is.is) in
    let this = reply_of_form c.args.threads.now v c.args.bytes.now c.first_word.result.0.now c.first_word.result.1.now c.reply_form.result replies.Is is c.first_word.ensures.back c.reply_form.ensures at in
    let there = c.behind_space-operand.ensures (named_text c.args.threads.now this.0) this.2 in
    let small = subst (λ (u : Said). IsSaid c.args.threads.now u) this.1 fits in
    let read = c.in_ok-selected-in-Is.ensures.back this.0 small (sym there) in
    (ap (λ t. codes "is " ++ t) read.0 ∙ ap (λ u. reply_text c.args.threads.now u) (sym this.1), λ distinct. ap (λ k. said.Is k) (read.1 distinct) ∙ sym this.1)

pub returns-in_err-name-in-Name-clause-back : goal.returns-in_err-name-in-Name-clause-back
returns-in_err-name-in-Name-clause-back c = λ v fits is.
    let p = err_from_is_err_and c.from_residual-in_err-name-in-Name.result c.from_residual-in_err-name-in-Name.ensures.1 in
    rw p.1 p.2

pub returns-in_ok-name-in-Name-clause-back : goal.returns-in_ok-name-in-Name-clause-back
returns-in_ok-name-in-Name-clause-back c = λ v fits is.
    let at : c.reply_form.result ≡ Some replies.Name = cc (c.in-Some.is, c.in-Name.is) in
    let this = reply_of_form c.args.threads.now v c.args.bytes.now c.first_word.result.0.now c.first_word.result.1.now c.reply_form.result replies.Name is c.first_word.ensures.back c.reply_form.ensures at in
    let there = c.behind_space-operand.ensures (this.0) this.2 in
    given (reply_text c.args.threads.now) c.args.threads.now v _ (ap (λ k. said.Name k) (c.in_ok-name-in-Name.ensures ∙ there) ∙ sym this.1)

pub returns-in_err-installs-in-Installed-clause-back : goal.returns-in_err-installs-in-Installed-clause-back
returns-in_err-installs-in-Installed-clause-back c = λ v fits is.
    let at : c.reply_form.result ≡ Some replies.Installed = cc (c.in-Some.is, c.in-Installed.is) in
    let this = reply_of_form c.args.threads.now v c.args.bytes.now c.first_word.result.0.now c.first_word.result.1.now c.reply_form.result replies.Installed is c.first_word.ensures.back c.reply_form.ensures at in
    let there = c.behind_space-operand.ensures (decimal this.0) this.2 in
    let small = subst (λ (u : Said). IsSaid c.args.threads.now u) this.1 fits in
    let p = err_from_is_err_and c.from_residual-in_err-installs-in-Installed.result c.from_residual-in_err-installs-in-Installed.ensures.1 in
    rw (p.1, p.2) (c.in_err-installs-in-Installed.ensures.back this.0 small (sym there))

pub returns-in_ok-installs-in-Installed-clause-back : goal.returns-in_ok-installs-in-Installed-clause-back
returns-in_ok-installs-in-Installed-clause-back c = λ v fits is.
    let at : c.reply_form.result ≡ Some replies.Installed = cc (c.in-Some.is, c.in-Installed.is) in
    let this = reply_of_form c.args.threads.now v c.args.bytes.now c.first_word.result.0.now c.first_word.result.1.now c.reply_form.result replies.Installed is c.first_word.ensures.back c.reply_form.ensures at in
    let there = c.behind_space-operand.ensures (decimal this.0) this.2 in
    let small = subst (λ (u : Said). IsSaid c.args.threads.now u) this.1 fits in
    given (reply_text c.args.threads.now) c.args.threads.now v _ (ap (λ k. said.Installed k) (c.in_ok-installs-in-Installed.ensures.back this.0 small (sym there)) ∙ sym this.1)

pub returns-in_err-pins-in-Pins-clause-back : goal.returns-in_err-pins-in-Pins-clause-back
returns-in_err-pins-in-Pins-clause-back c = λ v fits is.
    let at : c.reply_form.result ≡ Some replies.Pins = cc (c.in-Some.is, c.in-Pins.is) in
    let this = reply_of_form c.args.threads.now v c.args.bytes.now c.first_word.result.0.now c.first_word.result.1.now c.reply_form.result replies.Pins is c.first_word.ensures.back c.reply_form.ensures at in
    let there = c.behind_space-operand.ensures (decimal this.0) this.2 in
    let small = subst (λ (u : Said). IsSaid c.args.threads.now u) this.1 fits in
    let p = err_from_is_err_and c.from_residual-in_err-pins-in-Pins.result c.from_residual-in_err-pins-in-Pins.ensures.1 in
    rw (p.1, p.2) (c.in_err-pins-in-Pins.ensures.back this.0 small (sym there))

pub returns-in_ok-pins-in-Pins-clause-back : goal.returns-in_ok-pins-in-Pins-clause-back
returns-in_ok-pins-in-Pins-clause-back c = λ v fits is.
    let at : c.reply_form.result ≡ Some replies.Pins = cc (c.in-Some.is, c.in-Pins.is) in
    let this = reply_of_form c.args.threads.now v c.args.bytes.now c.first_word.result.0.now c.first_word.result.1.now c.reply_form.result replies.Pins is c.first_word.ensures.back c.reply_form.ensures at in
    let there = c.behind_space-operand.ensures (decimal this.0) this.2 in
    let small = subst (λ (u : Said). IsSaid c.args.threads.now u) this.1 fits in
    given (reply_text c.args.threads.now) c.args.threads.now v _ (ap (λ k. said.Pins k) (c.in_ok-pins-in-Pins.ensures.back this.0 small (sym there)) ∙ sym this.1)

pub returns-in_err-value-in-Value-clause-back : goal.returns-in_err-value-in-Value-clause-back
returns-in_err-value-in-Value-clause-back c = λ v fits is.
    let at : c.reply_form.result ≡ Some replies.Value = cc (c.in-Some.is, c.in-Value.is) in
    let this = reply_of_form c.args.threads.now v c.args.bytes.now c.first_word.result.0.now c.first_word.result.1.now c.reply_form.result replies.Value is c.first_word.ensures.back c.reply_form.ensures at in
    let there = c.behind_space-operand.ensures (decimal this.0) this.2 in
    let small = subst (λ (u : Said). IsSaid c.args.threads.now u) this.1 fits in
    let p = err_from_is_err_and c.from_residual-in_err-value-in-Value.result c.from_residual-in_err-value-in-Value.ensures.1 in
    rw (p.1, p.2) (c.in_err-value-in-Value.ensures.back this.0 small (sym there))

pub returns-in_ok-value-in-Value-clause-back : goal.returns-in_ok-value-in-Value-clause-back
returns-in_ok-value-in-Value-clause-back c = λ v fits is.
    let at : c.reply_form.result ≡ Some replies.Value = cc (c.in-Some.is, c.in-Value.is) in
    let this = reply_of_form c.args.threads.now v c.args.bytes.now c.first_word.result.0.now c.first_word.result.1.now c.reply_form.result replies.Value is c.first_word.ensures.back c.reply_form.ensures at in
    let there = c.behind_space-operand.ensures (decimal this.0) this.2 in
    let small = subst (λ (u : Said). IsSaid c.args.threads.now u) this.1 fits in
    given (reply_text c.args.threads.now) c.args.threads.now v _ (ap (λ k. said.Value k) (c.in_ok-value-in-Value.ensures.back this.0 small (sym there)) ∙ sym this.1)

pub returns-in_err-text-in-Text-clause-back : goal.returns-in_err-text-in-Text-clause-back
returns-in_err-text-in-Text-clause-back c = λ v fits is.
    let at : c.reply_form.result ≡ Some replies.Text = cc (c.in-Some.is, c.in-Text.is) in
    let this = reply_of_form c.args.threads.now v c.args.bytes.now c.first_word.result.0.now c.first_word.result.1.now c.reply_form.result replies.Text is c.first_word.ensures.back c.reply_form.ensures at in
    let there = c.behind_space-operand.ensures (quoted this.0) this.2 in
    let p = err_from_is_err_and c.from_residual-in_err-text-in-Text.result c.from_residual-in_err-text-in-Text.ensures.1 in
    rw (p.1, p.2) (c.in_err-text-in-Text.ensures this.0 (sym there))

pub returns-in_ok-text-in-Text-clause-back : goal.returns-in_ok-text-in-Text-clause-back
returns-in_ok-text-in-Text-clause-back c = λ v fits is.
    let at : c.reply_form.result ≡ Some replies.Text = cc (c.in-Some.is, c.in-Text.is) in
    let this = reply_of_form c.args.threads.now v c.args.bytes.now c.first_word.result.0.now c.first_word.result.1.now c.reply_form.result replies.Text is c.first_word.ensures.back c.reply_form.ensures at in
    let there = c.behind_space-operand.ensures (quoted this.0) this.2 in
    given (reply_text c.args.threads.now) c.args.threads.now v _ (ap (λ k. said.Text k) (c.in_ok-text-in-Text.ensures this.0 (sym there)) ∙ sym this.1)

pub returns-in_err-reason-in-Refused-clause-back : goal.returns-in_err-reason-in-Refused-clause-back
returns-in_err-reason-in-Refused-clause-back c = λ v fits is.
    let at : c.reply_form.result ≡ Some replies.Refused = cc (c.in-Some.is, c.in-Refused.is) in
    let this = reply_of_form c.args.threads.now v c.args.bytes.now c.first_word.result.0.now c.first_word.result.1.now c.reply_form.result replies.Refused is c.first_word.ensures.back c.reply_form.ensures at in
    let there = c.behind_space-operand.ensures (why_text this.0) this.2 in
    let small = subst (λ (u : Said). IsSaid c.args.threads.now u) this.1 fits in
    let p = err_from_is_err_and c.from_residual-in_err-reason-in-Refused.result c.from_residual-in_err-reason-in-Refused.ensures.1 in
    rw (p.1, p.2) (c.in_err-reason-in-Refused.ensures.back this.0 small (sym there))

pub returns-in_ok-reason-in-Refused-clause-back : goal.returns-in_ok-reason-in-Refused-clause-back
returns-in_ok-reason-in-Refused-clause-back c = λ v fits is.
    let at : c.reply_form.result ≡ Some replies.Refused = cc (c.in-Some.is, c.in-Refused.is) in
    let this = reply_of_form c.args.threads.now v c.args.bytes.now c.first_word.result.0.now c.first_word.result.1.now c.reply_form.result replies.Refused is c.first_word.ensures.back c.reply_form.ensures at in
    let there = c.behind_space-operand.ensures (why_text this.0) this.2 in
    let small = subst (λ (u : Said). IsSaid c.args.threads.now u) this.1 fits in
    given (reply_text c.args.threads.now) c.args.threads.now v _ (ap (λ k. said.Refused k) (c.in_ok-reason-in-Refused.ensures.back this.0 small (sym there)) ∙ sym this.1)

pub returns-in-Parsed-clause-back : goal.returns-in-Parsed-clause-back
returns-in-Parsed-clause-back c = λ v fits is.
    let at : c.reply_form.result ≡ Some replies.Parsed = cc (c.in-Some.is, c.in-Parsed.is) in
    let this = reply_of_form c.args.threads.now v c.args.bytes.now c.first_word.result.0.now c.first_word.result.1.now c.reply_form.result replies.Parsed is c.first_word.ensures.back c.reply_form.ensures at in
    let there = c.behind_space-operand.ensures (year_text this.0.year ++ fields_text (fields_behind_year this.0) ++ space ++ decimal this.1) this.3 in
    let small = subst (λ (u : Said). IsSaid c.args.threads.now u) this.2 fits in
    gives_for (reply_text c.args.threads.now) c.args.threads.now v (said.Parsed this.0 this.1) c.parsed.result (sym this.2) (c.parsed.ensures.back this.0 this.1 small.0 small.1 (ap (λ t. codes "parsed " ++ t) (sym there)))

pub returns-in-Conv-clause-back : goal.returns-in-Conv-clause-back
returns-in-Conv-clause-back c = λ v fits is.
    let at : c.reply_form.result ≡ Some replies.Conv = cc (c.in-Some.is, c.in-Conv.is) in
    let this = reply_of_form c.args.threads.now v c.args.bytes.now c.first_word.result.0.now c.first_word.result.1.now c.reply_form.result replies.Conv is c.first_word.ensures.back c.reply_form.ensures at in
    let small = subst (λ (u : Said). IsSaid c.args.threads.now u) this.2 fits in
    gives_for (reply_text c.args.threads.now) c.args.threads.now v (said.Conv this.0 this.1) c.conv.result (sym this.2) (c.conv.ensures.back this.0 this.1 small (sym this.3))
