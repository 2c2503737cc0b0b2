-- Lines of parts.
use Rattle.std.specs.Prelude.{ℕ, List, length}
use Rattle.lc_base.specs.Lines.{lines_of}

-- how many lines a text has
abbrev pub line_count : List ℕ → ℕ
line_count text = length (lines_of text)
