-- The sections of sources.
--
-- A source has a number: the i-th by place has i, and 0 is the POSIX locale.
use Rattle.std.specs.Prelude.{ℕ, zero, suc, ◌==◌, List, [], ◌∷◌, slice_get, Option, Some, None, if◌then◌else◌}
use Rattle.lc_base.specs.declared.category.Category.{Category}
use Rattle.lc_base.specs.Mask.{category_bit}
use Rattle.lc_base.specs.Lines.{◌>>=◌}
use Rattle.keywords.specs.declared.source.Section.{Section}
use Rattle.locale_sources.specs.Sources.{Source}

-- the section of a category
abbrev pub section_of : Category → List Section → Option Section
section_of category [] = None
section_of category (s ∷ ss) = if category_bit s.category == category_bit category then Some s else section_of category ss

-- the section of a category in the source with a number
abbrev pub section_at : List Source → Category → ℕ → Option Section
section_at sources category zero = None
section_at sources category (suc k) = slice_get sources k >>= λ s. section_of category s.sections
