use Rattle.std.proofs.Common.{◌∙◌}
use Rattle.std.proofs.lemmas.Result.{IfOk-weaker}
use Rattle.script_reads.proofs.Joined.{joint_is}
use Rattle.script_reads.proofs.names.object_name.Goals as goal

pub returns-in-All : goal.returns-in-All
returns-in-All c =
    rw c.in-All.is (IfOk-weaker c.joint_name.result _ _ (λ name is. is ∙ joint_is _ _ _ _ _ _ _ _ _ _ c.part_name-ctype.ensures c.part_name-numeric.ensures c.part_name-monetary.ensures c.part_name-time.ensures c.part_name-messages.ensures) c.joint_name.ensures)
