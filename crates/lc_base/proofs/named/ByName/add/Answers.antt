use Rattle.std.proofs.Common.{◌≡◌, ℕ, List, None, subst, sym, ◌∙◌}
use Rattle.indexmap.proofs.CallerLemmas.{insert_entry-new}
use Rattle.lc_base.specs.Tables.{first_named}
use Rattle.lc_base.specs.Named.{pairs_of}
use Rattle.lc_base.proofs.NamedLemmas.{with_named-none, missing-lookup}
use Rattle.lc_base.proofs.named.ByName.add.Goals as goal

pub returns-in_ok-insert-in-None : goal.returns-in_ok-insert-in-None
returns-in_ok-insert-in-None g c =
    let old = c.self.inside.entries in
    let key = c.in_ok-from_slice-in-None.field-0 in
    let is = c.in_ok-from_slice-in-None.ensures.items in
    let missing : first_named (pairs_of old) c.args.name.now ≡ None = rw c.self.view_is (sym c.in-None.ensures) in
    let absent = subst (λ (n : List ℕ). first_named (pairs_of old) n ≡ None) (sym is) missing in
    let last = c.in_ok-insert-in-None.ensures.entries ∙ insert_entry-new _ old key c.args.value (missing-lookup old.entries key.items absent) in
    rw (← c.self.view_is) (with_named-none old.entries _ key c.args.name.now c.args.value is missing last)
