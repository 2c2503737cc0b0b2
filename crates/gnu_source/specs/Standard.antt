-- Standard sources whose categories compile (XBD 7.3).
use Rattle.std.specs.Prelude.{ℕ, List, [], ◌∷◌, Ok, Err}
use Rattle.lc_base.specs.declared.place.Place.{Place}
use Rattle.lc_base.specs.declared.category.Category.{Category}
use Rattle.lc_base.specs.declared.category.Category.TheVariants.{Ctype, Numeric, Monetary, Time, Messages}
use Rattle.lc_base.specs.declared.reason.Reason.TheVariants.{CopyMissing}
use Rattle.lc_base.specs.Reading.{Reads, ◌>>=◌}
use Rattle.charset.specs.CodedSet.{utf8}
use Rattle.keywords.specs.declared.source.Entry.{Entry}
use Rattle.keywords.specs.declared.source.Section.{Section}
use Rattle.keywords.specs.declared.source.Body.{Body}
use Rattle.keywords.specs.declared.source.Body.TheVariants.{Copy, Entries}
use Rattle.ctype_classes.specs.Ctype.{ctype_values}
use Rattle.numeric_cat.specs.Numeric.{numeric_values}
use Rattle.monetary_cat.specs.Monetary.{monetary_values}
use Rattle.time_cat.specs.Values.{time_values}
use Rattle.messages_cat.specs.Messages.{messages_values}
use Rattle.locale_reader.specs.Source.{source}

-- the keyword list of a category compiles in UTF-8, or its first fault
abbrev pub list_compiled : Category → Place → List Entry → Reads (Unit {0})
list_compiled Ctype place entries = ctype_values entries place utf8 >>= λ _. Ok tt
list_compiled Numeric place entries = numeric_values entries >>= λ _. Ok tt
list_compiled Monetary place entries = monetary_values entries >>= λ _. Ok tt
list_compiled Time place entries = time_values entries >>= λ _. Ok tt
list_compiled Messages place entries = messages_values entries >>= λ _. Ok tt

-- a section compiles that copies no other locale's category
abbrev pub section_compiled : Section → Reads (Unit {0})
section_compiled section = elim section.body [
  | Copy place name ↦ Err (place, CopyMissing)
  | Entries entries ↦ list_compiled section.category section.place entries
]

-- sections compile, or the first fault in them
abbrev pub sections_compiled : List Section → Reads (Unit {0})
sections_compiled [] = Ok tt
sections_compiled (section ∷ sections) = section_compiled section >>= λ _. sections_compiled sections

-- a text is a standard source in UTF-8 that copies nothing and compiles whole, or its first fault
unfoldable pub standard : List ℕ → Reads (Unit {0})
standard text = source text 1 utf8 >>= λ s. sections_compiled s.sections
