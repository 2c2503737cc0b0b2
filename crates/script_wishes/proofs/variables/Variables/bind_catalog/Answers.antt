use Rattle.std.proofs.Common.{◌∷◌, ◌∙◌, ap}
use Rattle.script_wishes.specs.Variables.{Bindings, bound, catalog_variable}
use Rattle.script_wishes.proofs.SpaceLemmas.{catalog_bound}
use Rattle.script_wishes.proofs.variables.Variables.bind_catalog.Goals as goal

pub returns : goal.returns
returns c = λ v. catalog_bound c.self.inside.locales c.self.inside.catalogs c.bind.new.self c.args.name.now c.args.handle c.in_ok-bind.ensures v ∙ ap (λ (b : Bindings). bound ((catalog_variable c.args.name.now, c.args.handle) ∷ b) v) c.self.view_is
