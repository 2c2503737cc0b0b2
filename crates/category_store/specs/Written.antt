-- What sources write for a category.
use Rattle.std.specs.Prelude.{ℕ, zero, suc, List, slice_get, Option, Some, None}
use Rattle.lc_base.specs.declared.place.Place.{Place}
use Rattle.lc_base.specs.declared.category.Category.{Category}
use Rattle.lc_base.specs.Lines.{◌>>=◌}
use Rattle.charset.specs.CodedSet.{CodedSet}
use Rattle.keywords.specs.declared.source.Section.{Section}
use Rattle.keywords.specs.declared.source.Entry.{Entry}
use Rattle.keywords.specs.declared.source.Body.TheVariants.{Copy, Entries}
use Rattle.locale_sources.specs.Sources.{Source}
use Rattle.locale_sources.specs.Sections.{section_of}

-- a keyword list, with the place of its section's header and the charset of its source
pub record Written : Type 0 where
  pub charset : CodedSet
  pub place : Place
  pub entries : List Entry

-- the keyword list of a section; one that copies has none
abbrev pub written_in : CodedSet → Option Section → Option Written
written_in charset None = None
written_in charset (Some section) = elim section.body [
  | Copy place name ↦ None
  | Entries es ↦ Some (record { charset = charset; place = section.place; entries = es })
]

-- the keyword list that a source writes for a category
abbrev pub written_for : Category → Source → Option Written
written_for category s = written_in s.charset (section_of category s.sections)

-- the keyword list that the source with a number writes for a category
abbrev pub written_at : List Source → Category → ℕ → Option Written
written_at sources category zero = None
written_at sources category (suc k) = slice_get sources k >>= written_for category
