-- What an accepted op changes of what its thread has selected and holds.
use Rattle.lc_base.specs.declared.handle.Named.{Named}
use Rattle.script_wishes.specs.declared.holds.HoldChange.{HoldChange}
use Rattle.script_wishes.specs.declared.holds.HoldChange.TheVariants.{Keep}
use Rattle.script_serial.specs.declared.alone.Effect.{Effect}
use Rattle.script_serial.specs.declared.alone.Effect.TheVariants.{Neither, Changes}

-- what the thread has selected then, where it had this selected before
unfoldable pub selected_by : Effect → Named → Named
selected_by Neither before = before
selected_by (Changes next change) before = next

-- what becomes of its open Holds
unfoldable pub change_by : Effect → HoldChange
change_by Neither = Keep
change_by (Changes next change) = change
