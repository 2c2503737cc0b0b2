-- Where the copies of a category end (XBD 7.3, `copy`).
--
-- A source has a number: the i-th by place has i, and 0 is the POSIX locale.
use Rattle.std.specs.Prelude.{ℕ, zero, suc, ◌+◌, Bool, true, false, List, [], ◌∷◌, length, Option, Some, None, is_some, is_none, if◌then◌else◌}
use Rattle.std.specs.Option.{option_or}
use Rattle.lc_base.specs.BuiltIn.{is_posix_locale}
use Rattle.lc_base.specs.declared.place.Place.{Place}
use Rattle.lc_base.specs.declared.category.Category.{Category}
use Rattle.lc_base.specs.declared.reason.Reason.{Reason}
use Rattle.lc_base.specs.declared.reason.Reason.TheVariants.{CopyMissing, CopyCycle}
use Rattle.lc_base.specs.Lines.{◌>>=◌}
use Rattle.lc_base.specs.Tables.{first_named}
use Rattle.charset.specs.Portable.{Name}
use Rattle.keywords.specs.declared.source.Section.{Section}
use Rattle.keywords.specs.declared.source.Body.TheVariants.{Copy, Entries}
use Rattle.lc_base.specs.Named.{with_named}
use Rattle.locale_sources.specs.Sources.{Source}
use Rattle.locale_sources.specs.Sections.{section_at}

-- the numbers of locales by their names, a later version being none, where the first of the sources has this number
abbrev pub numbered_from : List (Name × ℕ) → ℕ → List Source → List (Name × ℕ)
numbered_from named n [] = named
numbered_from named n (s ∷ ss) = numbered_from (if is_none s.key then with_named named s.name n else named) (n + 1) ss

abbrev pub locale_numbers : List Source → List (Name × ℕ)
locale_numbers sources = numbered_from [] 1 sources

-- the number of the locale whose category a copy of this name takes: the POSIX locale, or a locale that has the category
abbrev pub target : List Source → Category → Name → Option ℕ
target sources category name =
    if is_posix_locale name then Some 0 else
    (first_named (locale_numbers sources) name >>= λ n. if is_some (section_at sources category n) then Some n else None)

-- where one copy leads from a number. What is no copy leads nowhere else
abbrev pub step_from : List Source → Category → ℕ → Option Section → Option ℕ
step_from sources category n None = Some n
step_from sources category n (Some section) = elim section.body [
  | Copy place name ↦ target sources category name
  | Entries es ↦ Some n
]

abbrev pub step : List Source → Category → ℕ → Option ℕ
step sources category n = step_from sources category n (section_at sources category n)

-- where so many copies lead
abbrev pub followed : List Source → Category → ℕ → ℕ → Option ℕ
followed sources category zero n = Some n
followed sources category (suc more) n = step sources category n >>= followed sources category more

-- where the copies of a category end that begin at a number: they are followed at most as many times as there are sources.
-- None where they miss
abbrev pub last : List Source → Category → ℕ → Option ℕ
last sources category n = followed sources category (length sources) n

-- whether a section copies
abbrev pub is_copy : Option Section → Bool
is_copy None = false
is_copy (Some section) = elim section.body [
  | Copy place name ↦ true
  | Entries es ↦ false
]

-- whether the copies from a number never end
abbrev pub is_cycle : List Source → Category → ℕ → Bool
is_cycle sources category n = elim (last sources category n) [
  | None ↦ false
  | Some end ↦ is_copy (section_at sources category end)
]

-- the number of the source in which the category of a source is written: its own, or that where its copies end. 0 is that of
-- the POSIX locale, which stands for a category that a source lacks
abbrev pub end_of : List Source → Category → ℕ → ℕ
end_of sources category n =
    if is_some (section_at sources category n) then (elim (last sources category n) [
      | None ↦ 0
      | Some end ↦ end
    ]) else 0

-- ---- the faults of copies

-- the fault of a section of the source with a number: its own target is not there or lacks the category, or its copies never
-- end
abbrev pub section_fault : List Source → ℕ → Section → Option (Place × Reason)
section_fault sources n section = elim section.body [
  | Copy place name ↦
      if is_none (target sources section.category name) then Some (place, CopyMissing) else
      if is_cycle sources section.category n then Some (place, CopyCycle) else None
  | Entries es ↦ None
]

abbrev pub sections_fault : List Source → ℕ → List Section → Option (Place × Reason)
sections_fault sources n [] = None
sections_fault sources n (s ∷ ss) = option_or (section_fault sources n s) (sections_fault sources n ss)

abbrev pub fault_from : List Source → ℕ → List Source → Option (Place × Reason)
fault_from sources n [] = None
fault_from sources n (s ∷ ss) = option_or (sections_fault sources n s.sections) (fault_from sources (n + 1) ss)

-- the first fault of the copies, by place
abbrev pub copy_fault : List Source → Option (Place × Reason)
copy_fault sources = fault_from sources 1 sources
