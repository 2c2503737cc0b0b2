-- What the code's handles and cells stand for.
use Rattle.std.specs.Prelude.{◌<◌}
use Rattle.script_words.specs.declared.word.Quoting.{Quoting}
use Rattle.script_words.specs.declared.word.Quoting.TheVariants.{Text, Escape, High, Low, Closed}
use Rattle.script_words.specs.declared.word.WrittenHandle as code
use Rattle.script_words.specs.declared.word.WrittenCell as code_cell
use Rattle.script_words.specs.Words.{WrittenHandle, WrittenCell}

-- a handle as it is written
abbrev pub seen_handle : code.WrittenHandle → WrittenHandle
seen_handle h = record { thread = h.thread.now; row = h.row; generation = h.generation }

-- a cell as it is written
abbrev pub seen_cell : code_cell.WrittenCell → WrittenCell
seen_cell c = record { thread = c.thread.now; cell = c.cell }

-- a digit that was read is below 16
abbrev pub IsQuoting : Quoting → Type 0
IsQuoting Text = Unit {0}
IsQuoting Escape = Unit {0}
IsQuoting High = Unit {0}
IsQuoting (Low h) = h < 16
IsQuoting Closed = Unit {0}
