-- Locale sources: the keyword lists of their sections, or the first broken rule (XBD 7.3).
use Rattle.std.specs.Prelude.{ℕ, zero, suc, ◌+◌, Bool, ◌==◌, List, [], ◌∷◌, ◌++◌, find, take, position, Option, Some, None, Ok, Err, if◌then◌else◌}
use Rattle.std.specs.List.{list_any}
use Rattle.std.specs.Str.{bytes_eq}
use Rattle.lc_base.specs.declared.place.Place.{Place}
use Rattle.lc_base.specs.declared.category.Category.{Category}
use Rattle.lc_base.specs.declared.reason.Reason.{Reason}
use Rattle.lc_base.specs.declared.reason.Reason.TheVariants.{NoEnd, SectionTwice, UnknownKeyword}
use Rattle.lc_base.specs.Categories.{categories, category_name, category_named}
use Rattle.lc_base.specs.Mask.{category_bit}
use Rattle.lc_base.specs.Reading.{Reads, ◌>>=◌}
use Rattle.src_lines.specs.declared.signs.Kind.TheVariants.{Locale}
use Rattle.src_lines.specs.Words.{first_word, second_word}
use Rattle.src_lines.specs.Places.{Logical, start, closes_line}
use Rattle.src_lines.specs.Logical.{ends_head, front}
use Rattle.src_lines.specs.Tokens.{tokens}
use Rattle.charset.specs.Portable.{Name}
use Rattle.charset.specs.CodedSet.{CodedSet}
use Rattle.keywords.specs.declared.source.Section.{Section}
use Rattle.keywords.specs.declared.source.LocaleSource.{LocaleSource}
use Rattle.locale_reader.specs.Section.{body}

-- whether a line opens a section: one word that begins with LC_
abbrev pub opens_section : Logical → Bool
opens_section l = ends_head Locale (first_word l.bytes) (second_word l.bytes)

-- whether sections of a category are among these
abbrev pub has_section : List Section → Category → Bool
has_section sections category = list_any (λ (s : Section). category_bit s.category == category_bit category) sections

-- the sections after one more, whose header has this place and that has these lines; one of another name is not read
unfoldable pub with_section : CodedSet → List Section → Place → List Logical → Option Category → Reads (List Section)
with_section set sections place ls None = Ok sections
with_section set sections place ls (Some category) =
    if has_section sections category then Err (place, SectionTwice)
    else (body category set ls >>= λ b. Ok (sections ++ (record { category = category; place = place; body = b }) ∷ []))

-- the sections after the one that a header opens, and how many lines belong to it beside the header
abbrev pub closed_at : CodedSet → List Section → Logical → List Logical → Option ℕ → Reads (List Section × ℕ)
closed_at set sections l ls None = Err (start l, NoEnd)
closed_at set sections l ls (Some n) =
    with_section set sections (start l) (take n ls) (category_named (first_word l.bytes)) >>= λ more. Ok (more, n + 1)

unfoldable pub section_from : CodedSet → List Section → Logical → List Logical → Reads (List Section × ℕ)
section_from set sections l ls = closed_at set sections l ls (position (closes_line (first_word l.bytes)) ls)

-- the sections after a line outside of sections, and how many of the lines behind it belong to it
unfoldable pub outside : CodedSet → List Section → Logical → List Logical → Reads (List Section × ℕ)
outside set sections l ls =
    if opens_section l then section_from set sections l ls
    else (tokens l >>= λ line. Err (line.place, UnknownKeyword))

-- the sections of lines, of which so many belong to the section before
abbrev pub sections_of : CodedSet → List Section → ℕ → List Logical → Reads (List Section)
sections_of set sections skip [] = Ok sections
sections_of set sections (suc skip) (l ∷ ls) = sections_of set sections skip ls
sections_of set sections zero (l ∷ ls) = outside set sections l ls >>= λ x. sections_of set x.0 x.1 ls

-- a source with these sections, unless a bad head line follows
abbrev pub unless_fault : Option (Place × Reason) → List Section → Reads LocaleSource
unless_fault None sections = Ok (record { sections = sections })
unless_fault (Some fault) sections = Err fault

-- the locale source that a text spells whose first line has this number, or its first broken rule
unfoldable pub source : List ℕ → ℕ → CodedSet → Reads LocaleSource
source text first set =
    let lines = front text first Locale in
    sections_of set [] 0 lines.lines >>= unless_fault lines.fault
