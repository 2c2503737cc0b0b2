-- Locales as plain values: the mark of their library, and the numbers of their parts (XSH newlocale; marks and values are our own).
use Rattle.std.specs.Prelude.{ℕ, ◌+◌, Bool, ◌&&◌, nat_eq, nat_lt, List, length, Option, None, Some, Result, Ok, Err, if◌then◌else◌}
use Rattle.lc_base.specs.declared.category.Category.{Category}
use Rattle.lc_base.specs.Reading.{Reads, ◌>>=◌}
use Rattle.mask_compose.specs.Parts.{Parts}
use Rattle.category_store.specs.Library.{locale_at}
use Rattle.library_parts.specs.Books.{books_read}
use Rattle.script_lang.specs.declared.bundle.Bundle.{Bundle}
use Rattle.script_lang.specs.Accepted.{bundle_of}
use Rattle.shared_objects.specs.declared.fault.NewFault.{NewFault}
use Rattle.shared_objects.specs.declared.fault.NewFault.TheVariants.{NoLocale, NoData}
use Rattle.shared_objects.specs.declared.locale.LocaleParts.{LocaleParts}
use Rattle.shared_objects.specs.Marks.{mark_of}
use Rattle.shared_objects.specs.Marks.Origin.{OfText}
use Rattle.shared_objects.specs.Shared.{Shared, MarkedLibraryData}
use Rattle.shared_objects.specs.Objects.{catalog_of, new_parts}

-- ---- a library that is read

-- the library of a bundle with its catalogs and a mark: the first fault is that of the locales, and then that of the catalogs
abbrev pub marked_of : Bundle → ℕ → Reads MarkedLibraryData
marked_of b mark = catalog_of b >>= λ library. books_read b.catalogs >>= λ books. Ok (record { library = library; books = books; mark = mark })

-- the library of a text in the form of a bundle, or its first fault
abbrev pub marked_in : List ℕ → Reads MarkedLibraryData
marked_in text = bundle_of text >>= λ b. marked_of b (mark_of (OfText text))

-- ---- locales of a library

abbrev pub locale_of : ℕ → Parts → LocaleParts
locale_of mark parts = record { mark = mark; ctype = parts.ctype; numeric = parts.numeric; monetary = parts.monetary; time = parts.time; messages = parts.messages }

abbrev pub parts_of : LocaleParts → Parts
parts_of l = record { ctype = l.ctype; numeric = l.numeric; monetary = l.monetary; time = l.time; messages = l.messages }

-- the POSIX locale has the number 0 in each category
abbrev pub posix_of : MarkedLibraryData → LocaleParts
posix_of marked = record { mark = marked.mark; ctype = 0; numeric = 0; monetary = 0; time = 0; messages = 0 }

-- the POSIX locale, and the locales and later versions, from 1
abbrev pub has_number : MarkedLibraryData → ℕ → Bool
has_number marked n = nat_lt n (length marked.library.locales + 1)

-- the name of the compiled locale with a number, if the library has one
abbrev pub name_with : MarkedLibraryData → ℕ → Option (List ℕ)
name_with marked n = if has_number marked n then Some (locale_at marked.library n).name else None

-- a locale is of a library whose mark it has, if the library has each of its numbers
abbrev pub has_locale : MarkedLibraryData → LocaleParts → Bool
has_locale marked l = nat_eq l.mark marked.mark && has_number marked l.ctype && has_number marked l.numeric && has_number marked l.monetary && has_number marked l.time && has_number marked l.messages

-- the object that a locale of a library is
abbrev pub shared_of : MarkedLibraryData → LocaleParts → Option Shared
shared_of marked l = if has_locale marked l then Some (record { library = marked.library; object = parts_of l }) else None

-- ---- newlocale

abbrev pub located : MarkedLibraryData → Result Parts Category → Result LocaleParts NewFault
located marked (Ok parts) = Ok (locale_of marked.mark parts)
located marked (Err category) = Err (NoData category)

abbrev pub new_from : MarkedLibraryData → ℕ → List ℕ → LocaleParts → Result LocaleParts NewFault
new_from marked mask name base = located marked (new_parts marked.library mask name (parts_of base))

-- the locale of a name, a mask and a base
abbrev pub new_locale : MarkedLibraryData → ℕ → List ℕ → LocaleParts → Result LocaleParts NewFault
new_locale marked mask name base = if has_locale marked base then new_from marked mask name base else Err NoLocale
