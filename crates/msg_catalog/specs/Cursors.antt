-- What a cursor has before it.
use Rattle.std.specs.Prelude.{List}
use Rattle.msg_catalog.specs.declared.cursor.Spot.{Spot}
use Rattle.msg_catalog.specs.declared.cursor.Cursor.{Cursor}
use Rattle.msg_catalog.specs.Spots.{spots, front, behind}

-- the bytes to come, each with its place
abbrev pub to_come : Cursor → List Spot
to_come c = spots c.line c.column c.rest.now

-- the bytes to come of the line
abbrev pub line_of : Cursor → List Spot
line_of c = front (to_come c)

-- the bytes behind the line and its LF
abbrev pub later : Cursor → List Spot
later c = behind (to_come c)
