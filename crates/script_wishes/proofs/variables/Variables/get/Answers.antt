use Rattle.std.proofs.Common.{◌∙◌, sym, ap}
use Rattle.script_wishes.specs.declared.variables.Space.{Space}
use Rattle.script_wishes.specs.Seen.{variable_seen}
use Rattle.script_wishes.specs.Variables.{Bindings, bound}
use Rattle.script_wishes.proofs.SpaceLemmas.{both, bound_locale, bound_catalog}
use Rattle.script_wishes.proofs.variables.Variables.get.Goals as goal

pub returns-in-Locales : goal.returns-in-Locales
returns-in-Locales c =
    c.get.ensures
    ∙ sym (bound_locale c.self.inside.locales c.self.inside.catalogs c.args.variable.name.now)
    ∙ ap (λ (s : Space). bound (both c.self.inside.locales c.self.inside.catalogs) (record { space = s; name = c.args.variable.name.now })) (sym c.in-Locales.is)
    ∙ ap (λ (b : Bindings). bound b (variable_seen c.args.variable)) c.self.view_is

pub returns-in-Catalogs : goal.returns-in-Catalogs
returns-in-Catalogs c =
    c.get-in-Catalogs.ensures
    ∙ sym (bound_catalog c.self.inside.locales c.self.inside.catalogs c.args.variable.name.now)
    ∙ ap (λ (s : Space). bound (both c.self.inside.locales c.self.inside.catalogs) (record { space = s; name = c.args.variable.name.now })) (sym c.in-Catalogs.is)
    ∙ ap (λ (b : Bindings). bound b (variable_seen c.args.variable)) c.self.view_is
