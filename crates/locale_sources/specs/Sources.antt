-- Locale sources that were read.
use Rattle.std.specs.Prelude.{List, Option}
use Rattle.charset.specs.Portable.{Name}
use Rattle.charset.specs.CodedSet.{CodedSet}
use Rattle.keywords.specs.declared.source.Section.{Section}

-- a locale's source that was read: its key where it is a later version, its name, its charset and its sections
pub record Source : Type 0 where
  pub key : Option Name
  pub name : Name
  pub charset : CodedSet
  pub sections : List Section
