use Rattle.std.proofs.Common.{◌≡◌, ◌^◌, ◌<◌, ◌≤◌, ◌+◌, min, length, Some, sym, ap, ◌∙◌, arith}
use Rattle.std.specs.Prelude.{option_map}
use Rattle.std.proofs.Math.Nat.{pow-le-pow_right}
use Rattle.charset.specs.Limits.{NAME_LIMIT}
use Rattle.charset.specs.CodedSet.{big_endian}
use Rattle.charset.specs.Code.{code_bytes}
use Rattle.charmap_reader.specs.Seen.{seen}
use Rattle.charmap_reader.proofs.Adding.{counted_over}
use Rattle.charmap_reader.proofs.EncodingLemmas.{length-encoding}
use Rattle.charmap_reader.proofs.body.add_counted.Goals as goal

pub returns-then-len-more : goal.returns-then-len-more
returns-then-len-more c = λ m h.
    let code = code_bytes c.args.first.now in
    let capped : Some (min m 4294967296) ≡ Some c.args.more = sym (ap (option_map (λ n. min n 4294967296)) h) ∙ c.requires.names in
    let same : min m 4294967296 ≡ c.args.more = cc in
    let few : length code ≤ 4 = (length-encoding code c.requires.encoding).1 in
    let bound : 256 ^ length code ≤ 256 ^ 4 = pow-le-pow_right {n = 256} (omega arith) {i = length code} {j = 4} few in
    let past : c.past.result ≡ 256 ^ length code = c.past.ensures ∙ ap (λ n. 256 ^ n) (sym c.value.ensures.len) in
    let short : big_endian code + c.args.more < 256 ^ length code = omega (arith, c.value.ensures.is, c.from.ensures, c.if-from-more.false) in
    let exact : m ≡ c.args.more = omega arith in
    let below : big_endian code + m < 256 ^ length code = omega arith in
    let over : NAME_LIMIT < length c.args.names.now + (m + 1) = omega (arith, c.len.ensures.is, c.if-len-more.true) in
    counted_over c.args.name.now.place c.args.code.now.place c.args.names.now (seen c.args.subject.now) code m below over
