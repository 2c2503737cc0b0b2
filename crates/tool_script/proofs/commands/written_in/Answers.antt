use Rattle.std.proofs.Common.{refl, sym, ◌∙◌}
use Rattle.tool_script.proofs.CommandLemmas.{written_end}
use Rattle.tool_script.proofs.commands.written_in.Goals as goal

pub returns : goal.returns
returns c = sym (written_end _ _ _ _ (c.in_default.ensures.«end».0 refl)) ∙ c.loop-line.invariant.so_far
