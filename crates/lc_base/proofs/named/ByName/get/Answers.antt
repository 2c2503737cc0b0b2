use Rattle.std.proofs.Common.{sym, ◌∙◌}
use Rattle.lc_base.proofs.NamedLemmas.{first_named-lookup}
use Rattle.lc_base.proofs.named.ByName.get.Goals as goal

pub returns : goal.returns
returns g c = rw (← c.self.view_is) (c.get.ensures.value ∙ sym (first_named-lookup c.args.name.now c.self.inside.entries.entries))
