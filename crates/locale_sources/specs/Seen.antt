-- A source that is kept as a value of the definitions.
use Rattle.std.specs.Option.{option_copied}
use Rattle.locale_sources.specs.declared.source.Source.{Source as Lent}
use Rattle.locale_sources.specs.Sources.{Source}

-- a source that was read
abbrev pub source : Lent → Source
source s = record { key = option_copied s.key; name = s.name.now; charset = s.charset.now; sections = s.sections }
