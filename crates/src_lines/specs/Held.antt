-- A store of logical lines, as callers see it.
use Rattle.std.specs.Prelude.{ℕ, List}
use Rattle.src_lines.specs.Places.{Logical}

-- the lines that are kept, the line that is being joined, and the number of all bytes and joins that lie there
pub record Held : Type 0 where
  pub kept : List Logical
  pub draft : Logical
  pub room : ℕ
