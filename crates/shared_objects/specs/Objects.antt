-- Objects over one library: what they are composed of, and the categories of each (XSH newlocale).
use Rattle.std.specs.Prelude.{ℕ, Bool, not, ◌&&◌, List, map, slice_get, Option, None, Some, unwrap_or, Result, Ok, Err}
use Rattle.std.specs.List.{find}
use Rattle.lc_base.specs.declared.category.Category.{Category}
use Rattle.lc_base.specs.declared.category.Category.TheVariants.{Ctype, Numeric, Monetary, Time, Messages}
use Rattle.lc_base.specs.Categories.{categories, number_for}
use Rattle.lc_base.specs.Mask.{includes}
use Rattle.lc_base.specs.Reading.{Reads, ◌>>=◌}
use Rattle.mask_compose.specs.Parts.{Parts, part_of, composed}
use Rattle.mask_compose.specs.Offer.{Offered, no_offer}
use Rattle.ctype_classes.specs.CtypeValues.{CtypeValues}
use Rattle.numeric_cat.specs.NumericValues.{NumericValues}
use Rattle.monetary_cat.specs.Monetary.{MonetaryValues}
use Rattle.time_cat.specs.TimeValues.{TimeValues}
use Rattle.messages_cat.specs.MessagesValues.{MessagesValues}
use Rattle.category_store.specs.Locale.{Locale}
use Rattle.category_store.specs.LibraryData.{LibraryData}
use Rattle.category_store.specs.Library.{catalog, locale_at, numbers, posix_object, opening}
use Rattle.script_lang.specs.declared.bundle.Bundle.{Bundle}
use Rattle.script_lang.specs.Accepted.{bundle_of}
use Rattle.shared_objects.specs.Shared.{Shared}

-- ---- a library that is read

-- the library of a bundle; its script is no part of it
abbrev pub catalog_of : Bundle → Reads LibraryData
catalog_of b = catalog b.charmaps b.locales b.later b.native

-- the library of a text in the form of a bundle, or its first fault
abbrev pub catalog_in : List ℕ → Reads LibraryData
catalog_in text = bundle_of text >>= catalog_of

-- the POSIX object over a library
abbrev pub first_object : LibraryData → Shared
first_object library = record { library = library; object = posix_object }

-- ---- newlocale

-- what the name with a number offers
abbrev pub offer_of : LibraryData → ℕ → Offered
offer_of library number = unwrap_or (slice_get (opening library) number) no_offer

-- whether the mask has a category that the offer of its name lacks
abbrev pub is_lacking : LibraryData → ℕ → List ℕ → Category → Bool
is_lacking library mask ns category = includes mask category && not (includes (offer_of library (number_for ns category)).available category)

-- the first category of the mask that the offer of its name lacks, or none
abbrev pub lacking : LibraryData → ℕ → List ℕ → Option Category
lacking library mask ns = find (is_lacking library mask ns) categories

-- the part that the offer of a category's name has
abbrev pub picked_part : LibraryData → List ℕ → Category → ℕ
picked_part library ns category = part_of (offer_of library (number_for ns category)).object category

-- the parts that the offers of names have
abbrev pub picked : LibraryData → List ℕ → Parts
picked library ns = record {
  ctype = picked_part library ns Ctype;
  numeric = picked_part library ns Numeric;
  monetary = picked_part library ns Monetary;
  time = picked_part library ns Time;
  messages = picked_part library ns Messages;
}

-- the parts of an object, unless a category lacks data
abbrev pub unless_lacking : Option Category → Parts → Result Parts Category
unless_lacking (Some category) parts = Err category
unless_lacking None parts = Ok parts

-- the parts of names in the categories of the mask, and those of the base in the others
abbrev pub composed_from : LibraryData → ℕ → List ℕ → Parts → Result Parts Category
composed_from library mask ns base = unless_lacking (lacking library mask ns) (composed mask (picked library ns) base)

-- the parts of the numbers that a name has, or the first category whose name no block has
abbrev pub from_numbers : LibraryData → ℕ → Parts → Result (List ℕ) Category → Result Parts Category
from_numbers library mask base (Ok ns) = composed_from library mask ns base
from_numbers library mask base (Err category) = Err category

-- the parts of a name, a mask and a base, or the first category of the mask without data
abbrev pub new_parts : LibraryData → ℕ → List ℕ → Parts → Result Parts Category
new_parts library mask name base = from_numbers library mask base (numbers library name mask)

-- ---- the categories of an object, each as its locale has it

abbrev pub compiled_in : Shared → Category → Locale
compiled_in o category = locale_at o.library (part_of o.object category)

abbrev pub ctype_in : Shared → CtypeValues
ctype_in o = (compiled_in o Ctype).ctype

abbrev pub numeric_in : Shared → NumericValues
numeric_in o = (compiled_in o Numeric).numeric

abbrev pub monetary_in : Shared → MonetaryValues
monetary_in o = (compiled_in o Monetary).monetary

abbrev pub time_in : Shared → TimeValues
time_in o = (compiled_in o Time).time

abbrev pub messages_in : Shared → MessagesValues
messages_in o = (compiled_in o Messages).messages

-- the name of the locale that has a category: the one that was named, also where it copies
abbrev pub name_in : Shared → Category → List ℕ
name_in o category = (compiled_in o category).name

-- the names of the categories, in order
abbrev pub names_in : Shared → List (List ℕ)
names_in o = map (name_in o) categories
