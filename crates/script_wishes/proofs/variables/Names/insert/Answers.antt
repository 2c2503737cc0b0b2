use Rattle.std.proofs.Common.{◌∷◌, ◌∙◌, ap}
use Rattle.script_wishes.specs.Variables.{bound_name}
use Rattle.script_wishes.proofs.VariableLemmas.{bound_insert}
use Rattle.script_wishes.proofs.variables.Names.insert.Goals as goal

pub returns : goal.returns
returns c = λ v. bound_insert c.in_ok-name.name c.args.name.now c.args.handle c.self.inside.handles.entries c.insert.new.self.entries c.in_ok-name.ensures.items c.in_ok-insert.ensures.entries v ∙ ap (λ b. bound_name ((c.args.name.now, c.args.handle) ∷ b) v) c.self.view_is
