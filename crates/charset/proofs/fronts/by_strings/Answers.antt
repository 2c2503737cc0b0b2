use Rattle.std.proofs.Common.{rules, ◌≡◌, ℕ, [], get_or, ap}
use Rattle.std.specs.Cmp.Lexicographic.{slice_cmp}
use Rattle.std.specs.Ordering.{nat_cmp, is_lt}
use Rattle.std.proofs.lemmas.Cmp.{nat_list_cmp_total}
use Rattle.std.proofs.lemmas.List.Sorted.{ranks_by}
use Rattle.std.proofs.lemmas.Fn.{always_returns_same}
use Rattle.charset.specs.Fronts.{comes_before}
use Rattle.charset.proofs.fronts.by_strings.Goals as goal

pub returns-clause-rising : goal.returns-clause-rising
returns-clause-rising c =
    c.in_ok-sort_by.ensures.sorted (comes_before c.args.strings.now) (ranks_by nat_list_cmp_total (λ (n : ℕ). get_or c.args.strings.now n [])) (always_returns_same _ _ _ (λ a r g called.
    let is : r ≡ slice_cmp nat_cmp (get_or c.args.strings.now a.0.now []) (get_or c.args.strings.now a.1.0.now []) = search rules in
    (ap is_lt is, search rules)))
