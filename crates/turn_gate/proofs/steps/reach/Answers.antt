use Rattle.std.proofs.Common.{rules, ◌∙◌}
use Rattle.turn_gate.proofs.Keeps.{looks}
use Rattle.turn_gate.proofs.Seats.{later_look, look_later}
use Rattle.turn_gate.proofs.steps.reach.Goals as goal

pub load-word-requires : goal.load-word-requires
load-word-requires g c = (c.loop.invariant.table ∙ c.requires.table.0, search rules, looks g.M.Machine.stands g.M.Machine.legal g.M.Machine.setting g.M.Machine.version_of _ _ _ _)

pub returns-then-count_in-least-clause-looks : goal.returns-then-count_in-least-clause-looks
returns-then-count_in-least-clause-looks g c = look_later g.M.Machine.legal g.M.Machine.version_of c.args.place.now _ _ _ c.loop.invariant c.requires.bare c.requires.quiet c.load-word.ensures.2

pub loop-preserved : goal.loop-preserved
loop-preserved g c = let l = c.load-word.ensures in later_look g.M.Machine.legal g.M.Machine.version_of _ _ _ _ c.loop.invariant (l.0, l.1) l.2
