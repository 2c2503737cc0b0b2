use Rattle.std.proofs.Common.{rules}
use Rattle.turn_gate.proofs.Keeps.{releases_it}
use Rattle.turn_gate.proofs.steps.release.Goals as goal

pub swap-requires : goal.swap-requires
swap-requires g c = (search rules, search rules, releases_it g.M.Machine.stands g.M.Machine.legal g.M.Machine.setting g.M.Machine.version_of _ _ _ _ _ _ c.requires.release)
