use Rattle.script_wishes.proofs.HoldLaws.{held_where_holding}
use Rattle.script_serial.proofs.laws.held_where_holding.Goals as goal

pub returns : goal.returns
returns c = record { held_where_holding = held_where_holding }
