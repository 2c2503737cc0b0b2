-- A row of a store as a logical line.
use Rattle.src_lines.specs.declared.row.LogicalLine.{LogicalLine}
use Rattle.src_lines.specs.Places.{Logical}

abbrev pub line_of : LogicalLine → Logical
line_of r = record { signs = r.signs; line = r.line; bytes = r.bytes.now; joins = r.joins.now }
