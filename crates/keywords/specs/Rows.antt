-- The table of keywords as the code has it.
use Rattle.std.specs.Prelude.{map}
use Rattle.keywords.specs.declared.row.Posix.{Posix}
use Rattle.keywords.specs.declared.row.Posix.TheVariants as kept
use Rattle.keywords.specs.declared.row.Keyword.{Keyword}
use Rattle.keywords.specs.Table.{PosixValue, Nothing, Text, Number, Texts, Ranges, Pairs, TurnedUpper, KeywordRow}

-- a POSIX value as the definitions have it
abbrev pub value_of : Posix → PosixValue
value_of kept.Nothing = Nothing
value_of (kept.Text text) = Text text.now
value_of (kept.Number n) = Number n
value_of (kept.Texts texts) = Texts (map (λ t. t.now) texts.now)
value_of (kept.Ranges ranges) = Ranges ranges.now
value_of (kept.Pairs pairs) = Pairs pairs.now
value_of kept.TurnedUpper = TurnedUpper

-- a row as the definitions have it
abbrev pub row_of : Keyword → KeywordRow
row_of r = record { name = r.name.now; takes = r.takes; rule = r.rule; posix = value_of r.posix }
