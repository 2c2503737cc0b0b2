use Rattle.std.proofs.Common.{◌∷◌, ◌∙◌, ap}
use Rattle.script_wishes.specs.Variables.{Bindings, bound, locale_variable}
use Rattle.script_wishes.proofs.SpaceLemmas.{locale_bound}
use Rattle.script_wishes.proofs.variables.Variables.bind_locale.Goals as goal

pub returns : goal.returns
returns c = λ v. locale_bound c.self.inside.locales c.bind.new.self c.self.inside.catalogs c.args.name.now c.args.handle c.in_ok-bind.ensures v ∙ ap (λ (b : Bindings). bound ((locale_variable c.args.name.now, c.args.handle) ∷ b) v) c.self.view_is
