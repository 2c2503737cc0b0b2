-- Objects over a small library: what newlocale gives, and what is read of an object.
use Rattle.std.proofs.Common.{ap}
use Rattle.std.specs.Prelude.{◌≡◌, ℕ, pos, List, [], ◌∷◌, codes, None, Some, Ok, Err, refl}
use Rattle.lc_base.specs.declared.place.Place.{Place}
use Rattle.lc_base.specs.declared.reason.Reason.{Reason}
use Rattle.lc_base.specs.Reading.{Reads, ◌>>=◌}
use Rattle.lc_base.specs.declared.category.Category.TheVariants.{Ctype, Time}
use Rattle.monetary_cat.specs.Monetary as monetary
use Rattle.time_cat.specs.Values as time
use Rattle.mask_compose.specs.Parts.{Parts}
use Rattle.category_store.specs.Locale.{Locale, posix_locale}
use Rattle.category_store.specs.LibraryData.{LibraryData}
use Rattle.script_lang.specs.declared.bundle.Bundle.{Bundle}
use Rattle.script_lang.specs.Accepted.{bundle_of}
use Rattle.shared_objects.specs.Shared.{Shared, MarkedLibraryData}
use Rattle.shared_objects.specs.declared.fault.NewFault.TheVariants.{NoLocale, NoData}
use Rattle.shared_objects.specs.declared.locale.LocaleParts.{LocaleParts}
use Rattle.shared_objects.specs.Objects.{ctype_in, numeric_in, monetary_in, time_in, messages_in, names_in}
use Rattle.shared_objects.specs.Marks.{mark_of}
use Rattle.shared_objects.specs.Marks.Origin.{OfText}
use Rattle.shared_objects.specs.Locales.{marked_of, marked_in, posix_of, locale_of, name_with, shared_of, new_locale}

-- a locale with the categories of a mask
abbrev locale : List ℕ → ℕ → Locale
locale name mask = record posix_locale { name = name; available = mask }

-- a locale with all categories, and the native one, which has LC_NUMERIC alone
abbrev library : LibraryData
library = record {
  locales = locale (codes "us") 31 ∷ locale (codes "half") 2 ∷ [];
  names = (codes "us", 1) ∷ (codes "half", 2) ∷ [];
  first = (codes "us", 1) ∷ (codes "half", 2) ∷ [];
  keys = [];
  native = Some 2;
}

abbrev parts : ℕ → ℕ → ℕ → ℕ → ℕ → Parts
parts c n m t g = record { ctype = c; numeric = n; monetary = m; time = t; messages = g }

abbrev object : Parts → Shared
object ps = record { library = library; object = ps }

abbrev two_locales : MarkedLibraryData
two_locales = record { library = library; books = []; mark = 7 }

-- a locale of the library with these parts
abbrev made : Parts → LocaleParts
made ps = locale_of 7 ps

-- ---- a library that is read

-- a bundle that is refused gives its own fault
bundle_first : (text : List ℕ) (fault : Place × Reason) → bundle_of text ≡ Err fault → marked_in text ≡ Err fault
bundle_first text fault h = ap (λ (b : Reads Bundle). b >>= λ (b : Bundle). marked_of b (mark_of (OfText text))) h

-- no locale, whatever the threads and rounds of the script are
no_blocks : (threads : List (List ℕ)) (rounds : ℕ) → marked_of (record { charmaps = []; locales = []; later = []; catalogs = []; native = None; threads = threads; rounds = rounds; commands = [] }) 7
    ≡ Ok (record { library = record { locales = []; names = []; first = []; keys = []; native = None }; books = []; mark = 7 })
no_blocks threads rounds = refl

-- ---- locales of a library

own_locale : shared_of two_locales (made (parts 1 2 0 1 0)) ≡ Some (object (parts 1 2 0 1 0))
own_locale = refl

-- another mark, or a number above the last
foreign : shared_of two_locales (locale_of 8 (parts 0 0 0 0 0)) ∷ shared_of two_locales (made (parts 3 0 0 0 0)) ∷ shared_of two_locales (made (parts 0 3 0 0 0)) ∷ shared_of two_locales (made (parts 0 0 3 0 0))
    ∷ shared_of two_locales (made (parts 0 0 0 3 0)) ∷ shared_of two_locales (made (parts 0 0 0 0 3)) ∷ []
    ≡ None ∷ None ∷ None ∷ None ∷ None ∷ None ∷ []
foreign = refl

-- each number of a locale has its name, and there is none above the last
own_names : name_with two_locales 0 ∷ name_with two_locales 1 ∷ name_with two_locales 2 ∷ name_with two_locales 3 ∷ [] ≡ Some (codes "C") ∷ Some (codes "us") ∷ Some (codes "half") ∷ None ∷ []
own_names = refl

-- the name of each category
category_names : names_in (object (parts 1 2 0 0 1)) ≡ codes "us" ∷ codes "half" ∷ codes "C" ∷ codes "C" ∷ codes "us" ∷ []
category_names = refl

-- ---- newlocale

-- the first locale has the POSIX locale in each category
first_is_posix : posix_of two_locales ≡ made (parts 0 0 0 0 0)
first_is_posix = refl

all_categories : new_locale two_locales 31 (codes "us") (posix_of two_locales) ≡ Ok (made (parts 1 1 1 1 1))
all_categories = refl

-- a category outside of the mask keeps what the base has
others_of_the_base : new_locale two_locales 2 (codes "half") (made (parts 1 1 0 1 0)) ≡ Ok (made (parts 1 2 0 1 0))
others_of_the_base = refl

posix_by_name : new_locale two_locales 9 (codes "POSIX") (made (parts 1 2 1 1 1)) ≡ Ok (made (parts 0 2 1 0 1))
posix_by_name = refl

-- the first category of the mask for which there is no data
no_ctype : new_locale two_locales 31 (codes "half") (posix_of two_locales) ≡ Err (NoData Ctype)
no_ctype = refl

no_time : new_locale two_locales 26 (codes "half") (posix_of two_locales) ≡ Err (NoData Time)
no_time = refl

no_locale : new_locale two_locales 24 (codes "de") (posix_of two_locales) ≡ Err (NoData Time)
no_locale = refl

-- an empty mask asks for nothing, and an empty name for the native locale
empty_mask : new_locale two_locales 0 (codes "de") (made (parts 1 2 0 1 0)) ≡ Ok (made (parts 1 2 0 1 0))
empty_mask = refl

native : new_locale two_locales 2 [] (posix_of two_locales) ≡ Ok (made (parts 0 2 0 0 0))
native = refl

-- each category has its own part of a mixed name
mixed : new_locale two_locales 19 (codes "LC_CTYPE=us;LC_NUMERIC=half;LC_MONETARY=de;LC_TIME=de;LC_MESSAGES=us") (posix_of two_locales) ≡ Ok (made (parts 1 2 0 0 1))
mixed = refl

-- a base of another library goes before all else
other_base : new_locale two_locales 24 (codes "de") (locale_of 8 (parts 0 0 0 0 0)) ≡ Err NoLocale
other_base = refl

-- ---- the categories of an object

-- a locale that differs from the POSIX locale in each category
abbrev marked : Locale
marked = record posix_locale {
  ctype = record { codeset = codes "marked"; classes = []; upper = []; lower = [] };
  numeric = record { decimal_point = codes "marked"; thousands_sep = []; grouping = [] };
  monetary = record monetary.posix_values { mon_grouping = pos 9 ∷ [] };
  time = record time.posix_values { era_list = codes "marked" };
  messages = record { yesexpr = codes "marked"; noexpr = [] };
}

abbrev with_marked : Parts → Shared
with_marked ps = record { library = record { locales = marked ∷ []; names = []; first = []; keys = []; native = None }; object = ps }

own_ctype : (ctype_in (with_marked (parts 1 0 0 0 0))).codeset ≡ codes "marked"
own_ctype = refl

own_numeric : (numeric_in (with_marked (parts 0 1 0 0 0))).decimal_point ≡ codes "marked"
own_numeric = refl

own_monetary : (monetary_in (with_marked (parts 0 0 1 0 0))).mon_grouping ≡ pos 9 ∷ []
own_monetary = refl

own_time : (time_in (with_marked (parts 0 0 0 1 0))).era_list ≡ codes "marked"
own_time = refl

own_messages : (messages_in (with_marked (parts 0 0 0 0 1))).yesexpr ≡ codes "marked"
own_messages = refl
