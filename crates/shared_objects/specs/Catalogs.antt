-- Message catalogs as plain values: the mark of their library, and a number (XSH catopen and catgets; marks and values are our own).
use Rattle.std.specs.Prelude.{ℕ, Bool, ◌&&◌, nat_eq, nat_lt, List, length, Option, None, Some, Result, Ok, Err, if◌then◌else◌}
use Rattle.lc_base.specs.declared.category.Category.TheVariants.{Messages}
use Rattle.library_parts.specs.Books.{number_of, message_at}
use Rattle.shared_objects.specs.declared.catalog.CatalogParts.{CatalogParts}
use Rattle.shared_objects.specs.declared.fault.OpenFault.{OpenFault}
use Rattle.shared_objects.specs.declared.fault.OpenFault.TheVariants.{NoLocale, NoCatalog}
use Rattle.shared_objects.specs.declared.locale.LocaleParts.{LocaleParts}
use Rattle.shared_objects.specs.Shared.{Shared, MarkedLibraryData}
use Rattle.shared_objects.specs.Objects.{name_in}
use Rattle.shared_objects.specs.Locales.{shared_of}

-- the catalog with a number
abbrev pub catalog_with : MarkedLibraryData → Option ℕ → Result CatalogParts OpenFault
catalog_with marked None = Err NoCatalog
catalog_with marked (Some n) = Ok (record { mark = marked.mark; number = n })

-- the catalog that a name opens for an object: that for the name of its LC_MESSAGES
abbrev pub opened_by : MarkedLibraryData → Option Shared → List ℕ → Result CatalogParts OpenFault
opened_by marked None name = Err NoLocale
opened_by marked (Some o) name = catalog_with marked (number_of name (name_in o Messages) marked.books)

-- the same for a locale
abbrev pub opened : MarkedLibraryData → LocaleParts → List ℕ → Result CatalogParts OpenFault
opened marked l name = opened_by marked (shared_of marked l) name

-- a catalog is of a library whose mark it has, if the library has its number
abbrev pub has_catalog : MarkedLibraryData → CatalogParts → Bool
has_catalog marked c = nat_eq c.mark marked.mark && nat_lt c.number (length marked.books)

-- the text of a message
abbrev pub message_in : MarkedLibraryData → CatalogParts → ℕ → ℕ → Option (List ℕ)
message_in marked c set number = if has_catalog marked c then message_at marked.books c.number set number else None
