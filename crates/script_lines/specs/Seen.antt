-- The plain data that the code's callers stand for.
use Rattle.script_lines.specs.declared.lines.Caller.{Caller as Calling}
use Rattle.script_lines.specs.Lines.{Caller}

-- whose line it is, as data
abbrev pub caller : Calling → Caller
caller at = record { round = at.round; thread = at.thread; index = at.index }
