-- The table of classes as the code has it.
use Rattle.std.specs.Prelude.{map}
use Rattle.ctype_classes.specs.declared.table.AutomaticMembers.{AutomaticMembers}
use Rattle.ctype_classes.specs.declared.table.ClassRow as coded
use Rattle.ctype_classes.specs.Table.{ClassRow, row}

-- a row as the definitions have it
abbrev pub row_of : coded.ClassRow → ClassRow
row_of r = record { name = r.name.now; always = r.always.now; absent = r.absent.now; parts = map (λ p. p.now) r.parts.now }

-- the row of a class of the table of keywords
abbrev pub automatic_row : AutomaticMembers → ClassRow
automatic_row r = row r.name.now r.always.now (map (λ p. p.now) r.parts.now)
