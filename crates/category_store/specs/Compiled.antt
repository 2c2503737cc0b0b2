-- The categories of a bundle's locales, compiled in order, up to the first fault in them.
use Rattle.std.specs.Prelude.{ℕ, ◌+◌, List, [], ◌∷◌, Option, Some, None, Ok}
use Rattle.lc_base.specs.declared.category.Category.{Category}
use Rattle.lc_base.specs.declared.category.Category.TheVariants.{Ctype, Numeric, Monetary, Time, Messages}
use Rattle.lc_base.specs.Reading.{Reads, ◌>>=◌}
use Rattle.ctype_classes.specs.CtypeValues.{CtypeValues}
use Rattle.ctype_classes.specs.Ctype.{ctype_values, posix_values as posix_classes}
use Rattle.numeric_cat.specs.NumericValues.{NumericValues}
use Rattle.numeric_cat.specs.Numeric.{numeric_values, posix_values}
use Rattle.monetary_cat.specs.Monetary.{MonetaryValues, monetary_values, posix_values as posix_money}
use Rattle.time_cat.specs.TimeValues.{TimeValues}
use Rattle.time_cat.specs.Values.{time_values, posix_values as posix_times}
use Rattle.messages_cat.specs.MessagesValues.{MessagesValues}
use Rattle.messages_cat.specs.Messages.{messages_values, posix_values as posix_messages}
use Rattle.locale_sources.specs.Sources.{Source}
use Rattle.locale_sources.specs.Copies.{end_of}
use Rattle.locale_sources.specs.Rows.{available}
use Rattle.category_store.specs.Written.{Written, written_at}
use Rattle.category_store.specs.Locale.{Locale}

-- ---- what keyword lists give, category by category

-- LC_CTYPE, over the charset of the source in which the list is written (XBD 7.3.1)
abbrev pub ctype_of : Written → Reads CtypeValues
ctype_of written = ctype_values written.entries written.place written.charset

-- LC_NUMERIC (XBD 7.3.4)
abbrev pub numeric_of : Written → Reads NumericValues
numeric_of written = numeric_values written.entries

-- LC_MONETARY (XBD 7.3.3)
abbrev pub monetary_of : Written → Reads MonetaryValues
monetary_of written = monetary_values written.entries

-- LC_TIME (XBD 7.3.5)
abbrev pub time_of : Written → Reads TimeValues
time_of written = time_values written.entries

-- LC_MESSAGES (XBD 7.3.6)
abbrev pub messages_of : Written → Reads MessagesValues
messages_of written = messages_values written.entries

-- ---- locales

-- what a keyword list gives; where none is written it is the POSIX locale's category
abbrev pub read_or : {V : Type 0} → V → (Written → Reads V) → Option Written → Reads V
read_or posix read None = Ok posix
read_or posix read (Some written) = read written

-- a category of the source with a number: of the keyword list that is written where its copies end
abbrev pub category_of : {V : Type 0} → V → (Written → Reads V) → List Source → Category → ℕ → Reads V
category_of posix read sources category n = read_or posix read (written_at sources category (end_of sources category n))

-- the locale of a source, compiled: its categories in their order
abbrev pub locale_of : List Source → ℕ → Source → Reads Locale
locale_of sources n s =
    category_of posix_classes ctype_of sources Ctype n >>= λ ctype.
    category_of posix_values numeric_of sources Numeric n >>= λ numeric.
    category_of posix_money monetary_of sources Monetary n >>= λ monetary.
    category_of posix_times time_of sources Time n >>= λ time.
    category_of posix_messages messages_of sources Messages n >>= λ messages.
    Ok (record {
      name = s.name;
      available = available sources n;
      ctype = ctype;
      numeric = numeric;
      monetary = monetary;
      time = time;
      messages = messages;
    })

-- the locales of sources, of which the first has this number
abbrev pub locales_from : List Source → ℕ → List Source → Reads (List Locale)
locales_from sources n [] = Ok []
locales_from sources n (s ∷ ss) = locale_of sources n s >>= λ l. locales_from sources (n + 1) ss >>= λ ls. Ok (l ∷ ls)

abbrev pub locales_of : List Source → Reads (List Locale)
locales_of sources = locales_from sources 1 sources
