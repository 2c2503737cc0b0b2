use Rattle.std.proofs.Common.{◌≡◌, ◌++◌}
use Rattle.bundle_maker.specs.Generated.{number_behind, commands_text}
use Rattle.bundle_maker.proofs.text.push_commands.Given as goal

-- the number of the command before the next one, and the commands so far
abbrev pub invariant-loop-i : goal.invariant-loop-i
invariant-loop-i l = record {
  number : l.number ≡ number_behind l.seed l.i;
  text : l.text.items ≡ l.initial.text.items ++ commands_text l.seed l.i l.thread;
}
