-- The values that a keyword list defines (XBD 7.3.5.2).
use Rattle.std.specs.Prelude.{ℕ, List, [], codes, Ok}
use Rattle.std.specs.List.{flat_map}
use Rattle.std.specs.Option.{option_to_list}
use Rattle.lc_base.specs.declared.category.Category.TheVariants as categories
use Rattle.lc_base.specs.Reading.{Reads, ◌>>=◌}
use Rattle.keywords.specs.declared.source.Entry.{Entry}
use Rattle.keywords.specs.Keywords.{text_value, texts_value}
use Rattle.time_cat.specs.declared.segment.Segment.{Segment}
use Rattle.time_cat.specs.declared.texts.NameLists.{NameLists}
use Rattle.time_cat.specs.declared.texts.FormatTexts.{FormatTexts}
use Rattle.time_cat.specs.Eras.{segment}
use Rattle.time_cat.specs.Faults.{checked}
use Rattle.time_cat.specs.TimeValues.{TimeValues, joined}

-- the names of a list
abbrev pub names_in : List Entry → NameLists
names_in list = record {
  abday = texts_value categories.Time list (codes "abday");
  day = texts_value categories.Time list (codes "day");
  abmon = texts_value categories.Time list (codes "abmon");
  mon = texts_value categories.Time list (codes "mon");
  am_pm = texts_value categories.Time list (codes "am_pm");
}

-- the formats of a list
abbrev pub formats_in : List Entry → FormatTexts
formats_in list = record {
  d_t_fmt = text_value categories.Time list (codes "d_t_fmt");
  d_fmt = text_value categories.Time list (codes "d_fmt");
  t_fmt = text_value categories.Time list (codes "t_fmt");
  t_fmt_ampm = text_value categories.Time list (codes "t_fmt_ampm");
  era_d_t_fmt = text_value categories.Time list (codes "era_d_t_fmt");
  era_d_fmt = text_value categories.Time list (codes "era_d_fmt");
  era_t_fmt = text_value categories.Time list (codes "era_t_fmt");
}

-- the segment that a text spells, if it spells one
abbrev pub spelled : List ℕ → List Segment
spelled text = option_to_list (segment text)

-- the segments that texts spell
abbrev pub segments_in : List (List ℕ) → List Segment
segments_in texts = flat_map spelled texts

abbrev pub values_by : NameLists → FormatTexts → List Segment → List ℕ → List (List ℕ) → TimeValues
values_by names formats era era_list alt_digits = record { names = names; formats = formats; era = era; era_list = era_list; alt_digits = alt_digits }

-- the texts of eras
abbrev pub eras_of : List Entry → List (List ℕ)
eras_of list = texts_value categories.Time list (codes "era")

-- the alternative digits
abbrev pub digits_of : List Entry → List (List ℕ)
digits_of list = texts_value categories.Time list (codes "alt_digits")

-- the values of a list, where each keyword that is absent has its POSIX value
unfoldable pub values_of : List Entry → TimeValues
values_of list =
    values_by (names_in list) (formats_in list) (segments_in (eras_of list)) (joined (eras_of list)) (digits_of list)

-- the values of the POSIX locale
abbrev pub posix_values : TimeValues
posix_values = values_of []

-- the values that a keyword list defines, or its first broken rule
abbrev pub time_values : List Entry → Reads TimeValues
time_values list = checked list >>= λ _. Ok (values_of list)
