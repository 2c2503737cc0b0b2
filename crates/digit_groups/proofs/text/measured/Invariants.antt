use Rattle.std.proofs.Common.{◌≡◌, ◌-◌, ◌^◌, ◌≤◌, length, true}
use Rattle.std.specs.List.{list_all}
use Rattle.digit_groups.proofs.TextLemmas.{IsMeasured}
use Rattle.digit_groups.proofs.text.measured.Given as goal

abbrev pub invariant-loop-at : goal.invariant-loop-at
invariant-loop-at g l = record {
  good : list_all g.C.FormatConversion.is_value l.left ≡ true;
  measured : IsMeasured g.C.FormatConversion.conversion (g.C.FormatConversion.text l.category) g.C.FormatConversion.lacks l.format l.values l.at l.left l.total (2 ^ 128 - 1);
  within : l.at ≤ length l.format;
}

abbrev pub decreases-loop-at : goal.decreases-loop-at
decreases-loop-at g l = length l.format - l.at
