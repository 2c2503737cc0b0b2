use Rattle.std.proofs.Common.{◌≡◌, ◌∷◌, sym, subst}
use Rattle.std.specs.Result.{OnOk}
use Rattle.script_wishes.specs.declared.variables.Space.{Space}
use Rattle.script_wishes.specs.Variables.{Variable, bound}
use Rattle.script_wishes.proofs.variables.Variables.bind.Goals as goal

pub returns-in-Locales : goal.returns-in-Locales
returns-in-Locales c =
    subst (λ (s : Space). OnOk c.bind_locale.result ((v : Variable) → bound c.bind_locale.new.self v ≡ bound ((record { space = s; name = c.args.variable.name.now }, c.args.handle) ∷ c.args.self.now) v)) (sym c.in-Locales.is) c.bind_locale.ensures

pub returns-in-Catalogs : goal.returns-in-Catalogs
returns-in-Catalogs c =
    subst (λ (s : Space). OnOk c.bind_catalog.result ((v : Variable) → bound c.bind_catalog.new.self v ≡ bound ((record { space = s; name = c.args.variable.name.now }, c.args.handle) ∷ c.args.self.now) v)) (sym c.in-Catalogs.is) c.bind_catalog.ensures
