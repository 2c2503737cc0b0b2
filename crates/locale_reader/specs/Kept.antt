-- What is kept of a section while it is read.
use Rattle.std.specs.Prelude.{◌≡◌, ℕ, List}
use Rattle.std.specs.List.{list_any}
use Rattle.std.specs.Str.{bytes_eq}
use Rattle.keywords.specs.declared.source.Entry.{Entry}
use Rattle.locale_reader.specs.declared.opened.Opened.TheInside.{Inside}
use Rattle.locale_reader.specs.Opened.{Opened, declares}
use Rattle.locale_reader.specs.Words.{has_word}

-- what the fields stand for
abbrev pub opened : Inside → Opened
opened s = record { copy = s.copy; entries = s.entries.items }

-- the sets have the keywords of the lines, and the names of the classes that they declare
pub record IsKept (s : Inside) : Type 0 where
  pub given : (word : List ℕ) → has_word s.given word ≡ list_any (λ (e : Entry). bytes_eq e.keyword word) s.entries.items
  pub declared : (word : List ℕ) → has_word s.declared word ≡ list_any (declares word) s.entries.items
