-- Limits, as numbers (our own).
use Rattle.std.specs.Prelude.{ℕ}

-- the most charmaps of a bundle
abbrev pub CHARMAP_LIMIT : ℕ
CHARMAP_LIMIT = 16

-- the most locales of a bundle
abbrev pub LOCALE_LIMIT : ℕ
LOCALE_LIMIT = 64

-- the most later versions of locales in a bundle
abbrev pub LATER_LIMIT : ℕ
LATER_LIMIT = 64

-- the most message catalogs of a bundle
abbrev pub CATALOG_LIMIT : ℕ
CATALOG_LIMIT = 64

-- the most rounds of a bundle
abbrev pub ROUND_LIMIT : ℕ
ROUND_LIMIT = 64

-- the most commands of a bundle
abbrev pub COMMAND_LIMIT : ℕ
COMMAND_LIMIT = 20000
