use Rattle.std.proofs.Common.{◌≡◌, ◌+◌, length, take, drop, option_map}
use Rattle.std.specs.Option.{option_copied}
use Rattle.lc_base.specs.Categories.{categories}
use Rattle.mask_compose.specs.Names.{mixed_parts, spans_of, fields_of, length_after}
use Rattle.mask_compose.proofs.SpanLemmas.{spans_in, with_spans}
use Rattle.mask_compose.proofs.names.part_spans.Given as goal

-- the spans so far, with those in the fields to come, are all spans
abbrev pub invariant-loop-i : goal.invariant-loop-i
invariant-loop-i l = record {
  whole : option_map spans_of (mixed_parts l.text) ≡ with_spans (take l.i l.spans) (spans_in l.at (drop l.i categories) (fields_of (option_copied l.rest)));
  fits : l.at + length_after (option_copied l.rest) ≡ length l.text + 1;
  five : length l.spans ≡ 5;
}
