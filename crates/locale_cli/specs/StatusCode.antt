-- The exit codes of the program (our own).
use Rattle.std.specs.Prelude.{ℕ}
use Rattle.locale_cli.specs.declared.answer.Status.{Status}
use Rattle.locale_cli.specs.declared.answer.Status.TheVariants.{Done, Usage, Refused, ReadFault, WriteFault, Memory, TooLarge}

-- the exit code of a status
abbrev pub status_code : Status → ℕ
status_code Done = 0
status_code Usage = 2
status_code Refused = 3
status_code ReadFault = 4
status_code WriteFault = 5
status_code Memory = 6
status_code TooLarge = 7
