-- The fields of localeconv, as C has them (XSH localeconv; the numbers of the texts are our own).
use Rattle.std.specs.Prelude.{ℕ, List, slice_get, Option, None, Some}
use Rattle.langinfo.specs.declared.conv.Lconv.{Lconv}
use Rattle.langinfo.specs.Conv.{conv, bare_numbers, bare_texts}
use Rattle.shared_objects.specs.Shared.{Shared}
use Rattle.shared_objects.specs.Objects.{numeric_in, monetary_in}
use Rattle.c_values.specs.declared.conv.LobjLconv.{LobjLconv}

-- the fields of an object
abbrev pub conv_in : Shared → Lconv
conv_in o = conv (numeric_in o) (monetary_in o)

-- the text with a number, from 0
abbrev pub conv_text : Shared → ℕ → Option (List ℕ)
conv_text o number = slice_get (bare_texts (conv_in o).texts) number

-- the numbers
abbrev pub lconv_of : Shared → LobjLconv
lconv_of o = record { numbers = bare_numbers (conv_in o).numbers }

-- the numbers of a locale; what is no locale of the library leaves them as they are
abbrev pub lconv_by : LobjLconv → Option Shared → LobjLconv
lconv_by old None = old
lconv_by old (Some o) = lconv_of o
