-- In the lines of `serial`, threads that share handles with nobody read what they would read without the others.
use Rattle.std.proofs.Common.{◌≡◌, ℕ, List}
use Rattle.script_out.specs.declared.output.OutLine.{OutLine}
use Rattle.script_plan.specs.Plan.{PlanData}
use Rattle.script_plan.specs.Isolation.{IsIsolated}
use Rattle.script_plan.specs.Serial.{serial_lines, setting}
use Rattle.script_serial.proofs.SerialNewest.{printed_in_order}
use Rattle.script_plan.proofs.AnsweredApart.{isolated}

pub printed_isolated : (plan : PlanData) (rows generations : ℕ) {lines : List OutLine} → lines ≡ serial_lines rows generations plan → IsIsolated (setting plan rows generations) plan lines
printed_isolated plan rows generations {lines} is = isolated (setting plan rows generations) plan lines (printed_in_order plan rows generations is).prints
