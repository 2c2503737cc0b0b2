use Rattle.std.proofs.Common.{◌≡◌, true, take, drop, ◌++◌}
use Rattle.std.specs.List.{list_all}
use Rattle.digit_groups.specs.Groups.{is_size, sizes_used}
use Rattle.digit_groups.proofs.sizes_used.Given as goal

abbrev pub invariant-loop-i : goal.invariant-loop-i
invariant-loop-i l = record {
  used : sizes_used l.sizes ≡ take l.i l.sizes ++ sizes_used (drop l.i l.sizes);
  sizes : list_all is_size (take l.i l.sizes) ≡ true;
}
