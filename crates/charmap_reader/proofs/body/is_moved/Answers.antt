use Rattle.std.proofs.Common.{◌≡◌, ◌<◌, ℕ, true, Some, length, ltb, eqb, not, sym, ap, ◌∙◌, arith}
use Rattle.std.specs.Prelude.{option_map}
use Rattle.std.proofs.lemmas.Bool.Decides.{nat_tests}
use Rattle.charset.specs.Portable.{portable_code}
use Rattle.charset.specs.CodedSet.{big_endian}
use Rattle.std.specs.Int.{bytes_high_first}
use Rattle.charset.specs.Code.{code_bytes}
use Rattle.charmap_reader.specs.Seen.{seen}
use Rattle.charmap_reader.proofs.Moving.{range_digits, range_not_moved, single_long, single_one}
use Rattle.charmap_reader.proofs.body.is_moved.Goals as goal

pub returns-in_default-2 : goal.returns-in_default-2
returns-in_default-2 c = λ more h.
    let s = seen c.args.subject.now in
    let last = ap (option_map (λ name. name.now)) c.in_default.is-0 in
    sym (range_not_moved s c.in_default.field-0-0.now (code_bytes c.args.code.now) more last (range_digits s c.in_default.field-0-0.now more last h))

pub returns-then-code-gt1 : goal.returns-then-code-gt1
returns-then-code-gt1 c = λ more h.
    let s = seen c.args.subject.now in
    let code = code_bytes c.args.code.now in
    let alone = ap (option_map (λ name. name.now)) c.in-None-Some.is-0 in
    let back : bytes_high_first (length code) (big_endian code) ≡ code = rw (c.value-value.ensures.len, ← c.value-value.ensures.is) c.value-value.ensures.back in
    let named : portable_code s.first ≡ Some c.in-None-Some.own = sym c.portable_code.ensures ∙ c.in-None-Some.is-1 in
    let long : 1 < length code = omega (arith, c.value-value.ensures.len, c.if-code-gt1.true) in
    let test : ltb 1 c.args.code.now.len ≡ true = grind (arith, nat_tests) in
    test ∙ sym (single_long s code more c.in-None-Some.own alone h back named long)

pub returns-else-code-gt1 : goal.returns-else-code-gt1
returns-else-code-gt1 c = λ more h.
    let s = seen c.args.subject.now in
    let code = code_bytes c.args.code.now in
    let alone = ap (option_map (λ name. name.now)) c.in-None-Some.is-0 in
    let back : bytes_high_first (length code) (big_endian code) ≡ code = rw (c.value-value.ensures.len, ← c.value-value.ensures.is) c.value-value.ensures.back in
    let named : portable_code s.first ≡ Some c.in-None-Some.own = sym c.portable_code.ensures ∙ c.in-None-Some.is-1 in
    let one : length code ≡ 1 = omega (arith, c.value-value.ensures.len, c.if-code-gt1.false, c.requires) in
    ap (λ (v : ℕ). not (eqb v c.in-None-Some.own)) c.value-value.ensures.is ∙ sym (single_one s code more c.in-None-Some.own alone h back named one)
