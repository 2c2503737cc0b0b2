use Rattle.std.proofs.Common.{◌≡◌, ℕ, ◌+◌, ◌<◌, ◌≤◌, List, [], ◌++◌, length, encode_utf8, ap, ◌∙◌, arith}
use Rattle.core.specs.Str.Iter.{chars_rest}
use Rattle.std.proofs.lemmas.Str.{IsUtf8-past_char}
use Rattle.std.proofs.StrCases.{chars_of_empty}
use Rattle.c_values.specs.Cased.{pairs_of, cased_char, cased_chars, cased_text}
use Rattle.c_values.proofs.CasedLemmas.{next_text, has_room, more_written, rest_stays, still_fits, all_written}
use Rattle.c_values.proofs.cased.write_mapped.Goals as goal

pub put_at-end-requires : goal.put_at-end-requires
put_at-end-requires c =
    let held = c.loop-c.invariant in
    let pairs : List (ℕ × ℕ) = pairs_of c.args.view.now c.args.case in
    let all : List ℕ = cased_text pairs c.args.text.now in
    let piece : List ℕ = encode_utf8 (cased_char pairs c.in-Some.c) in
    let rest : List ℕ = cased_text pairs (chars_rest c.next.new.self) in
    let whole : List ℕ = cased_text pairs (chars_rest c.loop-c.rest) in
    let next : whole ≡ piece ++ rest = next_text pairs _ _ c.in-Some.c held.0 c.in-Some.ensures.steps.0 in
    let is : c.as_bytes.result.now ≡ piece = c.as_bytes.ensures.value ∙ c.encode_utf8-mapped.ensures.value ∙ ap (λ x. encode_utf8 x) c.cased.ensures in
    let room : length all < length c.loop-c.buffer = omega (arith, c.requires, c.loop-c.auto.buffer) in
    has_room c.loop-c.buffer c.loop-c.end piece rest whole all c.as_bytes.result.now held.1 next is held.3 room

pub loop-c-preserved : goal.loop-c-preserved
loop-c-preserved c =
    let held = c.loop-c.invariant in
    let pairs : List (ℕ × ℕ) = pairs_of c.args.view.now c.args.case in
    let all : List ℕ = cased_text pairs c.args.text.now in
    let piece : List ℕ = encode_utf8 (cased_char pairs c.in-Some.c) in
    let rest : List ℕ = cased_text pairs (chars_rest c.next.new.self) in
    let whole : List ℕ = cased_text pairs (chars_rest c.loop-c.rest) in
    let text : List ℕ = c.as_bytes.result.now in
    let next : whole ≡ piece ++ rest = next_text pairs _ _ c.in-Some.c held.0 c.in-Some.ensures.steps.0 in
    let is : text ≡ piece = c.as_bytes.ensures.value ∙ c.encode_utf8-mapped.ensures.value ∙ ap (λ x. encode_utf8 x) c.cased.ensures in
    let below : length all < length c.loop-c.buffer = omega (arith, c.requires, c.loop-c.auto.buffer) in
    let room : c.loop-c.end + length text ≤ length c.loop-c.buffer = has_room c.loop-c.buffer c.loop-c.end piece rest whole all text held.1 next is held.3 below in (
      IsUtf8-past_char _ _ c.in-Some.c held.0 c.in-Some.ensures.steps.0,
      more_written c.loop-c.buffer c.put_at-end.new.target c.loop-c.end c.put_at-end.result piece rest whole all text held.1 next is held.3 c.put_at-end.ensures.ends c.put_at-end.ensures.written,
      rest_stays c.args.buffer.now c.loop-c.buffer c.put_at-end.new.target c.loop-c.end c.put_at-end.result text held.2 held.3 c.put_at-end.ensures.ends c.put_at-end.ensures.written,
      still_fits c.loop-c.buffer c.put_at-end.new.target c.loop-c.end c.put_at-end.result text room c.put_at-end.ensures.ends c.put_at-end.ensures.written,
    )

pub returns : goal.returns
returns c =
    let held = c.loop-c.invariant in
    let pairs : List (ℕ × ℕ) = pairs_of c.args.view.now c.args.case in
    let rest : List ℕ = cased_text pairs (chars_rest c.loop-c.rest) in
    let none : rest ≡ [] = ap (λ cs. cased_chars pairs cs) (chars_of_empty (chars_rest c.loop-c.rest) c.in_default.ensures.steps.0.0) in
    all_written c.args.buffer.now c.loop-c.buffer c.put_byte.new.target c.loop-c.end rest (cased_text pairs c.args.text.now) held.1 none held.2 held.3 c.put_byte.ensures.written
