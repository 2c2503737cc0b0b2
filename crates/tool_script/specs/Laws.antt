-- What holds of the commands of each accepted bundle (our own).
use Rattle.std.specs.Prelude.{◌≡◌, ℕ, false, List, length, Ok}
use Rattle.lc_base.specs.Lines.{lines_of}
use Rattle.script_lang.specs.declared.bundle.Bundle.{Bundle}
use Rattle.script_lang.specs.Accepted.{bundle_of}
use Rattle.tool_script.specs.Commands.{command_lines}

-- each command has a line of its own: as many lines are commands as commands are read
abbrev pub EachHasItsLine : Type 0
EachHasItsLine = (text : List ℕ) (bundle : Bundle) → bundle_of text ≡ Ok bundle → length (command_lines false (lines_of text)) ≡ length bundle.commands
