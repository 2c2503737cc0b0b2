use Rattle.std.proofs.Common.{rules}
use Rattle.turn_gate.proofs.Keeps.{looks}
use Rattle.turn_gate.proofs.steps.look.Goals as goal

pub load-requires : goal.load-requires
load-requires g c = (search rules, search rules, looks g.M.Machine.stands g.M.Machine.legal g.M.Machine.setting g.M.Machine.version_of _ _ _ _)
