use Rattle.std.proofs.Common.{◌∙◌, ap, sym}
use Rattle.std.specs.Option.{option_copied}
use Rattle.script_wishes.specs.Variables.{bound_name}
use Rattle.script_wishes.proofs.VariableLemmas.{bound_lookup}
use Rattle.script_wishes.proofs.variables.Names.get.Goals as goal

pub returns-in-Some : goal.returns-in-Some
returns-in-Some c =
    sym (ap option_copied c.in-Some.is) ∙ c.get.ensures.value ∙ bound_lookup c.args.name.now c.self.inside.handles.entries
    ∙ ap (λ b. bound_name b c.args.name.now) c.self.view_is

pub returns-in-None : goal.returns-in-None
returns-in-None c =
    sym (ap option_copied c.in-None.is) ∙ c.get.ensures.value ∙ bound_lookup c.args.name.now c.self.inside.handles.entries
    ∙ ap (λ b. bound_name b c.args.name.now) c.self.view_is
