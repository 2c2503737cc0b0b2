use Rattle.std.proofs.Common.{rules, ℕ, [], get_or}
use Rattle.std.specs.Cmp.Lexicographic.{slice_cmp}
use Rattle.std.specs.Ordering.{nat_cmp}
use Rattle.std.proofs.lemmas.List.{get_or_default}
use Rattle.std.proofs.lemmas.Fn.{always_returns_same}
use Rattle.charset.proofs.FrontLemmas.{found_at, absent_from}
use Rattle.charset.proofs.fronts.number_in.Goals as goal

pub returns-in-Ok-clause-found : goal.returns-in-Ok-clause-found
returns-in-Ok-clause-found c =
    let strings = c.args.strings.now in
    let search_is = c.in-Ok.ensures.position (λ (n : ℕ). slice_cmp nat_cmp (get_or strings n []) c.args.string.now) (always_returns_same _ _ _ (λ a r g called. search rules)) in
    let n : ℕ = get_or c.args.sorted.now c.in-Ok.at 0 in
    found_at strings c.args.sorted.now c.args.string.now c.in-Ok.at n c.in-Ok.ensures.bound search_is (get_or_default c.args.sorted.now c.in-Ok.at 0 n c.in-Ok.ensures.bound)

pub returns-in-Err-clause-absent : goal.returns-in-Err-clause-absent
returns-in-Err-clause-absent c =
    let strings = c.args.strings.now in
    let search_is = c.in-Err.ensures.position (λ (n : ℕ). slice_cmp nat_cmp (get_or strings n []) c.args.string.now) (always_returns_same _ _ _ (λ a r g called. search rules)) in
    absent_from strings c.args.sorted.now c.args.string.now _ c.requires search_is
