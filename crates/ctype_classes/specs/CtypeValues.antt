-- What a program can ask of LC_CTYPE (XBD 7.3.1).
use Rattle.std.specs.Prelude.{ℕ, List}
use Rattle.class_ranges.specs.Ranges.{Range}
use Rattle.charset.specs.Portable.{Name}

pub record CtypeValues : Type 0 where
  -- the name of the code set
  pub codeset : List ℕ
  -- the classes, each with the ranges of its members in order
  pub classes : List (Name × List Range)
  -- the case maps, each in the order of the values that it maps
  pub upper : List (ℕ × ℕ)
  pub lower : List (ℕ × ℕ)
