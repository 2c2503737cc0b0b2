use Rattle.std.proofs.Common.{◌≡◌, ℕ, ◌^◌, ◌<◌, Option, Some, ap, sym, subst, ◌∙◌, arith}
use Rattle.std.specs.Prelude.{IfSome}
use Rattle.std.specs.Fmt.{decimal}
use Rattle.std.proofs.lemmas.Result.{err_from_is_err_and}
use Rattle.script_out.specs.Output.{known_text}
use Rattle.output_reader.proofs.Fields.{day_lacks, is_absent, no_dash}
use Rattle.output_reader.proofs.reply.next_day.Goals as goal

pub returns-in_err-word-clause-back : goal.returns-in_err-word-clause-back
returns-in_err-word-clause-back c = λ v rest fits is.
    absurd (c.in_err-word.ensures.back (known_text v) rest (day_lacks v fits) is)

pub returns-then-is_word-clause-back : goal.returns-then-is_word-clause-back
returns-then-is_word-clause-back c = λ v rest fits is.
    let cut = c.in_ok-word.ensures.back (known_text v) rest (day_lacks v fits) is in
    (is_absent v (sym cut.0 ∙ c.is_word.ensures.is c.if-is_word.true) (λ n e. omega (arith, subst (λ (o : Option ℕ). IfSome o (λ (k : ℕ). k < 2 ^ 16)) e fits)), cut.1)

pub returns-in_err-n-clause-back : goal.returns-in_err-n-clause-back
returns-in_err-n-clause-back c = λ v rest fits is.
    let cut = c.in_ok-word.ensures.back (known_text v) rest (day_lacks v fits) is in
    let there = no_dash v (λ e. cc (c.is_word.ensures.back (cut.0 ∙ e), c.if-is_word.false)) in
    let small : there.0 < 2 ^ 16 = subst (λ (o : Option ℕ). IfSome o (λ (k : ℕ). k < 2 ^ 16)) there.1 fits in
    let digits : decimal there.0 ≡ c.in_ok-word.word.now = ap (λ o. known_text o) (sym there.1) ∙ sym cut.0 in
    let p = err_from_is_err_and c.from_residual-in_err-n.result c.from_residual-in_err-n.ensures.1 in
    rw (p.1, p.2) (c.in_err-n.ensures.back there.0 (omega (arith, small)) digits)

pub returns-then-n-gt65535-clause-back : goal.returns-then-n-gt65535-clause-back
returns-then-n-gt65535-clause-back c = λ v rest fits is.
    let cut = c.in_ok-word.ensures.back (known_text v) rest (day_lacks v fits) is in
    let there = no_dash v (λ e. cc (c.is_word.ensures.back (cut.0 ∙ e), c.if-is_word.false)) in
    let small : there.0 < 2 ^ 16 = subst (λ (o : Option ℕ). IfSome o (λ (k : ℕ). k < 2 ^ 16)) there.1 fits in
    let digits : decimal there.0 ≡ c.in_ok-word.word.now = ap (λ o. known_text o) (sym there.1) ∙ sym cut.0 in
    let same : c.in_ok-n.n ≡ there.0 = c.in_ok-n.ensures.back there.0 (omega (arith, small)) digits in
    absurd (omega (arith, small))

pub returns-clause-back : goal.returns-clause-back
returns-clause-back c = λ v rest fits is.
    let cut = c.in_ok-word.ensures.back (known_text v) rest (day_lacks v fits) is in
    let there = no_dash v (λ e. cc (c.is_word.ensures.back (cut.0 ∙ e), c.if-is_word.false)) in
    let small : there.0 < 2 ^ 16 = subst (λ (o : Option ℕ). IfSome o (λ (k : ℕ). k < 2 ^ 16)) there.1 fits in
    let digits : decimal there.0 ≡ c.in_ok-word.word.now = ap (λ o. known_text o) (sym there.1) ∙ sym cut.0 in
    let same : c.in_ok-n.n ≡ there.0 = c.in_ok-n.ensures.back there.0 (omega (arith, small)) digits in
    (ap (λ k. Some k) same ∙ sym there.1, cut.1)
