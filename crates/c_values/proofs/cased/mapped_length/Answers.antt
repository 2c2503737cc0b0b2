use Rattle.std.proofs.Common.{◌≡◌, ℕ, ◌+◌, List, length, encode_utf8, ap, ◌∙◌, arith}
use Rattle.core.specs.Str.Iter.{chars_rest}
use Rattle.std.proofs.lemmas.Str.{IsUtf8-past_char}
use Rattle.std.proofs.StrCases.{chars_of_empty}
use Rattle.c_values.specs.Cased.{pairs_of, cased_char, cased_chars, cased_text, length_told}
use Rattle.c_values.proofs.CasedLemmas.{next_text, more_told}
use Rattle.c_values.proofs.cased.mapped_length.Goals as goal

pub loop-c-preserved : goal.loop-c-preserved
loop-c-preserved c =
    let held = c.loop-c.invariant in
    let parts = c.in-Some.ensures.steps.0 in
    let pairs : List (ℕ × ℕ) = pairs_of c.args.view.now c.args.case in
    let step = next_text pairs _ _ c.in-Some.c held.0 parts in
    let size : c.len_utf8.result ≡ length (encode_utf8 (cased_char pairs c.in-Some.c)) = c.len_utf8.ensures.len ∙ ap (λ x. length (encode_utf8 x)) c.cased.ensures in (
      IsUtf8-past_char _ _ c.in-Some.c held.0 parts,
      more_told c.loop-c.length c.len_utf8.result c.saturating_add-length.result _ _ _ step size c.saturating_add-length.ensures ∙ held.1,
      omega (arith, c.saturating_add-length.ensures),
    )

pub returns : goal.returns
returns c =
    let held = c.loop-c.invariant in
    let pairs : List (ℕ × ℕ) = pairs_of c.args.view.now c.args.case in
    let none : length (cased_text pairs (chars_rest c.loop-c.rest)) ≡ 0 = ap (λ cs. length (cased_chars pairs cs)) (chars_of_empty (chars_rest c.loop-c.rest) c.in_default.ensures.steps.0.0) in
    let same : c.loop-c.length ≡ length_told (c.loop-c.length + length (cased_text pairs (chars_rest c.loop-c.rest))) = omega (arith, none, held.2) in
    same ∙ held.1
