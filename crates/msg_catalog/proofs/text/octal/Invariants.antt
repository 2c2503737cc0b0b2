use Rattle.std.proofs.Common.{◌≡◌, ℕ, ◌+◌, ◌-◌, ◌^◌, ◌<◌, ◌≤◌, drop, length}
use Rattle.msg_catalog.specs.Cursors.{line_of}
use Rattle.msg_catalog.specs.Texts.{octal}
use Rattle.msg_catalog.proofs.text.octal.Given as goal

abbrev pub invariant-loop-count : goal.invariant-loop-count
invariant-loop-count l = record {
  is : (let o : ℕ × ℕ = octal (3 - l.count) l.value (line_of l.rest) in (o.0, l.count + o.1) ≡ octal 3 0 (line_of l.fn.cursor));
  rest : line_of l.rest ≡ drop l.count (line_of l.fn.cursor);
  most : l.count ≤ 3;
  fits : l.value < 8 ^ l.count;
  within : length l.rest.rest.now ≤ length l.fn.cursor.rest.now;
}

abbrev pub decreases-loop-count : goal.decreases-loop-count
decreases-loop-count l = 3 - l.count
