use Rattle.std.proofs.Common.{◌≡◌, ℕ, ◌-◌, ◌≤◌, suc, List, length, get_or, drop, ap, ◌∙◌, sym, arith}
use Rattle.std.specs.BTreeMap.{insert_entry}
use Rattle.std.specs.Ordering.{nat_cmp}
use Rattle.std.proofs.Math.Seq.{drop-cons}
use Rattle.ctype_classes.specs.Case.{map_of}
use Rattle.ctype_classes.proofs.case.entries_of.Goals as goal

-- the map of pairs from one on has that pair before the others
map_of_more : (pairs : List (ℕ × ℕ)) (i j : ℕ) → suc i ≡ j → j ≤ length pairs → map_of (drop i pairs) ≡ insert_entry nat_cmp (map_of (drop j pairs)) (get_or pairs i (0, 0)).0 (get_or pairs i (0, 0)).1
map_of_more pairs i j is within =
    ap (λ (ps : List (ℕ × ℕ)). map_of ps) (drop-cons pairs i (0, 0) (omega arith))
    ∙ ap (λ (k : ℕ). insert_entry nat_cmp (map_of (drop k pairs)) (get_or pairs i (0, 0)).0 (get_or pairs i (0, 0)).1) is

pub loop-left-preserved : goal.loop-left-preserved
loop-left-preserved c =
    let more = map_of_more c.args.pairs.now (c.loop-left.left - 1) c.loop-left.left (omega arith) c.loop-left.invariant.within in
    record {
      entries = rw (c.in_ok-insert.ensures.entries, c.loop-left.invariant.entries) (sym more);
      within = omega arith;
    }
