use Rattle.script_serial.proofs.OnlySerial.{only_serial}
use Rattle.script_serial.proofs.laws.only_serial.Goals as goal

pub returns : goal.returns
returns c = record { only_serial = only_serial }
