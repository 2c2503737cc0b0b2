-- What holds while a bundle is read (our own).
use Rattle.std.specs.Prelude.{ℕ, ◌<◌, ◌≤◌, ◌^◌, length, Option, Some, None}
use Rattle.script_lang.specs.Limits.{CHARMAP_LIMIT, LOCALE_LIMIT, LATER_LIMIT, CATALOG_LIMIT}
use Rattle.script_lang.specs.declared.bundle.Bundle.{Bundle}
use Rattle.script_lang.specs.declared.reading.BlockKind.{BlockKind}
use Rattle.script_lang.specs.declared.reading.BlockKind.TheVariants.{Charmap, Locale, Later, Catalog}
use Rattle.script_lang.specs.declared.reading.Opened.{Opened}
use Rattle.script_lang.specs.declared.reading.Reading.{Reading}
use Rattle.script_lang.specs.Accepted.{IsAccepted}

-- one more block of this kind may stand in the bundle
abbrev pub HasRoomFor : BlockKind → Bundle → Type 0
HasRoomFor Charmap b = length b.charmaps < CHARMAP_LIMIT
HasRoomFor Locale b = length b.locales < LOCALE_LIMIT
HasRoomFor (Later key) b = length b.later < LATER_LIMIT
HasRoomFor Catalog b = length b.catalogs < CATALOG_LIMIT

-- the block that was begun has its room, and begins behind a line, at one of 31 bits
abbrev pub IsBegun : Option Opened → Bundle → Type 0
IsBegun None b = Unit {0}
IsBegun (Some o) b = HasRoomFor o.kind b × (0 < o.block.first_line) × (o.block.first_line < 2 ^ 31)

-- the current thread is one of the bundle's
abbrev pub IsCurrent : Option ℕ → Bundle → Type 0
IsCurrent None b = Unit {0}
IsCurrent (Some t) b = t < length b.threads

-- how many bytes the text of the block has that was begun
abbrev pub begun_size : Option Opened → ℕ
begun_size None = 0
begun_size (Some o) = length o.block.text

-- what was read so far, where the text of the block that was begun has at most so many bytes
pub record IsReading (most : ℕ) (r : Reading) : Type 0 where
  pub accepted : IsAccepted r.bundle
  pub current : IsCurrent r.current r.bundle
  pub begun : IsBegun r.begun r.bundle
  pub size : begun_size r.begun ≤ most
