use Rattle.std.proofs.Common.{◌≡◌, sym, subst, List, ℕ, IfOk}
use Rattle.tool_reads.specs.ItemCategories.{item_categories}
use Rattle.tool_reads.proofs.AnswerLemmas.{none_left}
use Rattle.tool_reads.proofs.needs.item_categories.Goals as goal

pub returns-in-empty : goal.returns-in-empty
returns-in-empty c =
    subst (λ (ns : List (List ℕ)). IfOk c.all_categories.result (λ v. v.items ≡ item_categories ns))
    (sym (none_left (λ w. w.now) c.args.names.now c.in-empty.len_below))
    c.all_categories.ensures
