use Rattle.std.proofs.Common.{ℕ, ◌+◌, ◌≤◌, List, length, subst, sym}
use Rattle.std.proofs.lemmas.Result.{on_ok_weaker}
use Rattle.charset.specs.Portable.{Name}
use Rattle.category_store.proofs.LibraryLemmas.{with_named-few}
use Rattle.category_store.proofs.names.add_name.Goals as goal

pub returns-clause-few : goal.returns-clause-few
returns-clause-few c =
    let before = c.args.names.now in
    on_ok_weaker c.add.result (λ e. subst (λ (ps : List (Name × ℕ)). length ps ≤ length before + 1) (sym e) (with_named-few before c.args.name.now _)) c.add.ensures
