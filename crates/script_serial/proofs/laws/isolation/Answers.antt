use Rattle.script_plan.proofs.AnsweredApart.{isolated}
use Rattle.script_serial.proofs.laws.isolation.Goals as goal

pub returns : goal.returns
returns c = record { isolation = isolated }
