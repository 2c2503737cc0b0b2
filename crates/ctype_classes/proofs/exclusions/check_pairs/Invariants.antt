use Rattle.std.proofs.Common.{◌≡◌, ℕ, drop}
use Rattle.lc_base.specs.declared.reason.Class.{Class}
use Rattle.ctype_classes.specs.Exclusions.{kept_apart}
use Rattle.ctype_classes.specs.Excluded.{is_kept_in, IsExcluded, AreApart}
use Rattle.ctype_classes.proofs.exclusions.check_pairs.Given as goal

-- no pair before has a common member, so what holds of the pairs that are left holds of all
abbrev pub invariant-loop-pair : goal.invariant-loop-pair
invariant-loop-pair l = record {
  is : kept_apart l.section l.classes (drop l.pair-index l.pairs) ≡ kept_apart l.section l.classes l.pairs;
  excluded : (a b : Class) (w : ℕ) → IsExcluded (is_kept_in l.classes) (drop l.pair-index l.pairs) a b w → IsExcluded (is_kept_in l.classes) l.pairs a b w;
  apart : AreApart (is_kept_in l.classes) (drop l.pair-index l.pairs) → AreApart (is_kept_in l.classes) l.pairs;
}
