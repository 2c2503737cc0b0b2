use Rattle.std.proofs.Common.{rules, ◌≡◌, Option, Some, ◌∙◌, subst}
use Rattle.std.specs.Option.{IsSome}
use Rattle.turn_gate.specs.Rule.{terms_of}
use Rattle.turn_gate.specs.Ends.{Closes}
use Rattle.turn_gate.proofs.Views.{one_there}
use Rattle.turn_gate.proofs.Ending.{ends_it}
use Rattle.turn_gate.proofs.close.take_out.Goals as goal

pub unwrap-machine-requires : goal.unwrap-machine-requires
unwrap-machine-requires g c =
    let e = ends_it g.M.Machine.stands g.M.Machine.legal g.M.Machine.setting g.M.Machine.version_of _ _ _ _ _ c.requires.place.idle c.requires.numbers c.close_with-closed.ensures.values.2 in
    let is : Some e.0 ≡ c.take.result = one_there _ 0 _ _ e.1 c.take.ensures.value in
    subst (λ (o : Option g.row.M.Denot). IsSome o) is (search rules)

pub returns : goal.returns
returns g c =
    let e = ends_it g.M.Machine.stands g.M.Machine.legal g.M.Machine.setting g.M.Machine.version_of _ _ _ _ _ c.requires.place.idle c.requires.numbers c.close_with-closed.ensures.values.2 in
    let is : Some e.0 ≡ Some c.unwrap-machine.result = one_there _ 0 _ _ e.1 c.take.ensures.value ∙ c.unwrap-machine.ensures in
    let same : e.0 ≡ c.unwrap-machine.result = cc in
    subst (Closes g.M.Machine.stands g.M.Machine.legal g.M.Machine.setting (terms_of g.M.Machine.setting c.args.room.shared.key) c.args.place.me.0) same e.2
