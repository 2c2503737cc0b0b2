use Rattle.std.proofs.Common.{◌≡◌, ℕ, ◌^◌, ◌<◌, max, Some, arith, ap, sym, subst, ◌∙◌}
use Rattle.int_format.specs.Digits.{digit_count}
use Rattle.int_format.proofs.ReadLemmas.{IsCounted, counted, wide_at, text_at}
use Rattle.int_format.proofs.read.read_digits.Goals as goal

pub returns-in_err-count-clause-back : goal.returns-in_err-count-clause-back
returns-in_err-count-clause-back c = λ x small text.
    let is : IsCounted c.args.n.now x c.args.body.now = counted c.args.n.now x c.args.body.now small text in
    let found : c.count_in.result ≡ Some (max (digit_count x) 1) = c.count_in.ensures.all (max (digit_count x) 1) is.some is.few (wide_at c.args.n.now (max (digit_count x) 1) _ c.grouping-sizes.result.now c.thousands_sep-sep.result.now c.grouping-sizes.ensures c.thousands_sep-sep.ensures is.wide) in
    cc (found, c.in_err-count.was)

pub returns-in_err-whole-clause-back : goal.returns-in_err-whole-clause-back
returns-in_err-whole-clause-back c = λ x small text.
    let is : IsCounted c.args.n.now x c.args.body.now = counted c.args.n.now x c.args.body.now small text in
    let found : c.count_in.result ≡ Some (max (digit_count x) 1) = c.count_in.ensures.all (max (digit_count x) 1) is.some is.few (wide_at c.args.n.now (max (digit_count x) 1) _ c.grouping-sizes.result.now c.thousands_sep-sep.result.now c.grouping-sizes.ensures c.thousands_sep-sep.ensures is.wide) in
    let same : c.in_ok-count.count ≡ max (digit_count x) 1 = cc (found, c.in_ok-count.was) in
    let read : c.value_of.result ≡ Some x = c.value_of.ensures.back x (subst (λ (m : ℕ). x < 10 ^ m) (sym same) is.below) (text_at c.args.n.now x c.in_ok-count.count c.grouping-sizes.result.now c.thousands_sep-sep.result.now c.args.body.now c.grouping-sizes.ensures c.thousands_sep-sep.ensures same text) in
    cc (read, c.in_err-whole.was)

pub returns-in_err-value-clause-back : goal.returns-in_err-value-clause-back
returns-in_err-value-clause-back c = λ x small text.
    let is : IsCounted c.args.n.now x c.args.body.now = counted c.args.n.now x c.args.body.now small text in
    let found : c.count_in.result ≡ Some (max (digit_count x) 1) = c.count_in.ensures.all (max (digit_count x) 1) is.some is.few (wide_at c.args.n.now (max (digit_count x) 1) _ c.grouping-sizes.result.now c.thousands_sep-sep.result.now c.grouping-sizes.ensures c.thousands_sep-sep.ensures is.wide) in
    let same : c.in_ok-count.count ≡ max (digit_count x) 1 = cc (found, c.in_ok-count.was) in
    let read : c.value_of.result ≡ Some x = c.value_of.ensures.back x (subst (λ (m : ℕ). x < 10 ^ m) (sym same) is.below) (text_at c.args.n.now x c.in_ok-count.count c.grouping-sizes.result.now c.thousands_sep-sep.result.now c.args.body.now c.grouping-sizes.ensures c.thousands_sep-sep.ensures same text) in
    let whole : c.in_ok-whole.whole ≡ x = cc (read, c.in_ok-whole.was) in
    let kept : c.small_value.result ≡ Some x = c.small_value.ensures.back (omega (arith, whole, small)) ∙ ap (λ m. Some m) whole in
    cc (kept, c.in_err-value.was)

pub returns-then-max-count-clause-back : goal.returns-then-max-count-clause-back
returns-then-max-count-clause-back c = λ x small text.
    let is : IsCounted c.args.n.now x c.args.body.now = counted c.args.n.now x c.args.body.now small text in
    let found : c.count_in.result ≡ Some (max (digit_count x) 1) = c.count_in.ensures.all (max (digit_count x) 1) is.some is.few (wide_at c.args.n.now (max (digit_count x) 1) _ c.grouping-sizes.result.now c.thousands_sep-sep.result.now c.grouping-sizes.ensures c.thousands_sep-sep.ensures is.wide) in
    let same : c.in_ok-count.count ≡ max (digit_count x) 1 = cc (found, c.in_ok-count.was) in
    let read : c.value_of.result ≡ Some x = c.value_of.ensures.back x (subst (λ (m : ℕ). x < 10 ^ m) (sym same) is.below) (text_at c.args.n.now x c.in_ok-count.count c.grouping-sizes.result.now c.thousands_sep-sep.result.now c.args.body.now c.grouping-sizes.ensures c.thousands_sep-sep.ensures same text) in
    let whole : c.in_ok-whole.whole ≡ x = cc (read, c.in_ok-whole.was) in
    let kept : c.small_value.result ≡ Some x = c.small_value.ensures.back (omega (arith, whole, small)) ∙ ap (λ m. Some m) whole in
    let value : c.in_ok-value.value ≡ x = cc (kept, c.in_ok-value.was) in
    absurd (omega (arith, same, c.max.ensures, c.digit_count.ensures.is, ap (λ m. digit_count m) value))

pub returns-clause-back : goal.returns-clause-back
returns-clause-back c = λ x small text.
    let is : IsCounted c.args.n.now x c.args.body.now = counted c.args.n.now x c.args.body.now small text in
    let found : c.count_in.result ≡ Some (max (digit_count x) 1) = c.count_in.ensures.all (max (digit_count x) 1) is.some is.few (wide_at c.args.n.now (max (digit_count x) 1) _ c.grouping-sizes.result.now c.thousands_sep-sep.result.now c.grouping-sizes.ensures c.thousands_sep-sep.ensures is.wide) in
    let same : c.in_ok-count.count ≡ max (digit_count x) 1 = cc (found, c.in_ok-count.was) in
    let read : c.value_of.result ≡ Some x = c.value_of.ensures.back x (subst (λ (m : ℕ). x < 10 ^ m) (sym same) is.below) (text_at c.args.n.now x c.in_ok-count.count c.grouping-sizes.result.now c.thousands_sep-sep.result.now c.args.body.now c.grouping-sizes.ensures c.thousands_sep-sep.ensures same text) in
    let whole : c.in_ok-whole.whole ≡ x = cc (read, c.in_ok-whole.was) in
    let kept : c.small_value.result ≡ Some x = c.small_value.ensures.back (omega (arith, whole, small)) ∙ ap (λ m. Some m) whole in
    let value : c.in_ok-value.value ≡ x = cc (kept, c.in_ok-value.was) in
    ap (λ m. Some m) value
