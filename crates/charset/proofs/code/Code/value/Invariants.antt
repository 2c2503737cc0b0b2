use Rattle.std.proofs.Common.{◌≡◌, ◌<◌, ◌≤◌, ◌^◌, length, take, drop}
use Rattle.std.specs.Int.{bytes_high_first}
use Rattle.std.specs.Int.Digits.{number_from_digits_after}
use Rattle.charset.specs.CodedSet.{big_endian}
use Rattle.charset.proofs.code.Code.value.Given as goal

abbrev pub invariant-loop-byte : goal.invariant-loop-byte
invariant-loop-byte l = record {
  few : length l.byte-items ≤ 4;
  rest : number_from_digits_after 256 l.value (drop l.byte-index l.byte-items) ≡ big_endian l.byte-items;
  back : bytes_high_first l.byte-index l.value ≡ take l.byte-index l.byte-items;
  bound : l.value < 256 ^ l.byte-index;
}
