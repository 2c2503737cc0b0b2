use Rattle.std.proofs.Common.{◌≡◌, ◌-◌, ◌≤◌, length, true}
use Rattle.std.specs.List.{list_all}
use Rattle.digit_groups.proofs.TextLemmas.{IsPut}
use Rattle.digit_groups.proofs.text.write_pieces.Given as goal

abbrev pub invariant-loop-at : goal.invariant-loop-at
invariant-loop-at g l = record {
  good : list_all g.C.FormatConversion.is_value l.left ≡ true;
  put : IsPut g.C.FormatConversion.conversion (g.C.FormatConversion.text l.category) g.C.FormatConversion.lacks l.format l.values l.at l.left l.initial.buffer l.buffer l.end;
  within : l.at ≤ length l.format;
}

abbrev pub decreases-loop-at : goal.decreases-loop-at
decreases-loop-at g l = length l.format - l.at
