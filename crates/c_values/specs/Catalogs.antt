-- Message catalogs as C is given them (XSH catopen and catgets; the codes are our own).
use Rattle.std.specs.Prelude.{ℕ, List, Option, Some, None, Result, Ok, Err, if◌then◌else◌}
use Rattle.shared_objects.specs.declared.catalog.CatalogParts.{CatalogParts}
use Rattle.shared_objects.specs.declared.fault.OpenFault.{OpenFault}
use Rattle.shared_objects.specs.declared.fault.OpenFault.TheVariants.{NoLocale, NoCatalog}
use Rattle.shared_objects.specs.Shared.{MarkedLibraryData}
use Rattle.shared_objects.specs.Catalogs.{has_catalog, message_in}
use Rattle.c_values.specs.declared.answer.LobjAnswer.{LobjAnswer}
use Rattle.c_values.specs.Codes.{OK, NO_LOCALE, NO_CATALOG, NO_MESSAGE}
use Rattle.c_values.specs.Answers.{answered, refused, told}

-- a catalog that is opened, at the place for it, which stays where there is none
abbrev pub catalog_told : CatalogParts → Result CatalogParts OpenFault → LobjAnswer × CatalogParts
catalog_told old (Ok catalog) = (answered OK 0, catalog)
catalog_told old (Err NoLocale) = (answered NO_LOCALE 0, old)
catalog_told old (Err NoCatalog) = (answered NO_CATALOG 0, old)

-- a message, where the catalog has it
abbrev pub message_told : List ℕ → Option (List ℕ) → LobjAnswer × List ℕ
message_told buffer None = refused buffer NO_MESSAGE 0
message_told buffer (Some text) = told buffer text

-- a message of a catalog of a library
abbrev pub message_by : List ℕ → MarkedLibraryData → CatalogParts → ℕ → ℕ → LobjAnswer × List ℕ
message_by buffer marked catalog set number =
    if has_catalog marked catalog then message_told buffer (message_in marked catalog set number) else refused buffer NO_CATALOG 0
