-- What a keyword list of LC_CTYPE defines, or its first broken rule (XBD 7.3.1).
use Rattle.std.specs.Prelude.{List, [], Ok}
use Rattle.lc_base.specs.declared.place.Place.{Place}
use Rattle.lc_base.specs.Reading.{Reads, ◌>>=◌}
use Rattle.charset.specs.CodedSet.{CodedSet, posix, set_name}
use Rattle.keywords.specs.declared.source.Entry.{Entry}
use Rattle.ctype_classes.specs.Classes.{Classes, twelve_classes}
use Rattle.ctype_classes.specs.Lists.{classes_of}
use Rattle.ctype_classes.specs.Exclusions.{all_kept_apart}
use Rattle.ctype_classes.specs.Case.{upper_pairs, lower_pairs, map_of}
use Rattle.ctype_classes.specs.CtypeValues.{CtypeValues}

-- the category with these classes
abbrev pub ctype_with : CodedSet → List Entry → Classes → CtypeValues
ctype_with set entries classes = record {
  codeset = set_name set;
  classes = classes;
  upper = map_of (upper_pairs entries);
  lower = map_of (lower_pairs entries);
}

-- the category that a keyword list defines over a charset, or its first broken rule: a fault of a line, or else an exclusion,
-- at the header of the section
unfoldable pub ctype_values : List Entry → Place → CodedSet → Reads CtypeValues
ctype_values entries section set =
    classes_of set entries >>= λ classes.
    all_kept_apart section classes >>= λ _.
    Ok (ctype_with set entries classes)

-- the category of the POSIX locale: that of an empty list over the charset POSIX
unfoldable pub posix_values : CtypeValues
posix_values = ctype_with posix [] (twelve_classes posix [])
