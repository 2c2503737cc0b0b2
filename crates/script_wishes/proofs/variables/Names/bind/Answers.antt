use Rattle.std.proofs.Common.{◌∷◌, ◌∙◌, map, sym, ap}
use Rattle.script_wishes.specs.Variables.{bound_name, binding_of}
use Rattle.script_wishes.proofs.VariableLemmas.{bound_set}
use Rattle.script_wishes.proofs.variables.Names.bind.Goals as goal

pub returns-in-Some : goal.returns-in-Some
returns-in-Some c = λ v.
    ap (λ es. bound_name (map binding_of es) v) (c.get_mut.follows.holds c.args.handle).0
    ∙ bound_set c.args.name.now c.args.handle c.in-Some.bound.now c.self.inside.handles.entries (sym c.in-Some.ensures.value) v
    ∙ ap (λ b. bound_name ((c.args.name.now, c.args.handle) ∷ b) v) c.self.view_is
