use Rattle.tool_check.specs.Looks.{AddsAlone}
use Rattle.tool_check.proofs.copied.add_copied.Given as goal

-- the blocks so far
abbrev pub invariant-loop-copied : goal.invariant-loop-copied
invariant-loop-copied l = AddsAlone l.look l.blocks l.initial.alone.items l.alone.items
