use Rattle.script_plan.proofs.AnsweredApart.{catalogs_isolated}
use Rattle.script_serial.proofs.laws.catalogs_isolation.Goals as goal

pub returns : goal.returns
returns c = record { catalogs_isolation = catalogs_isolated }
