use Rattle.tool_check.specs.Looks.{AreAlone}
use Rattle.tool_check.proofs.copied.blocks_alone.Given as goal

-- the blocks so far
abbrev pub invariant-loop-number : goal.invariant-loop-number
invariant-loop-number l = AreAlone l.look l.blocks l.alone.items
