use Rattle.std.proofs.Common.{sym, ◌∙◌}
use Rattle.lc_base.proofs.NamedLemmas.{place_of-position}
use Rattle.lc_base.proofs.named.ByName.place.Goals as goal

pub returns : goal.returns
returns g c = rw (← c.self.view_is) (c.get_index_of.ensures.index ∙ sym (place_of-position c.args.name.now c.self.inside.entries.entries))
