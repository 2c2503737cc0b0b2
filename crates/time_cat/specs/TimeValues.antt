-- What a program can ask of LC_TIME (XBD 7.3.5.2).
use Rattle.std.specs.Prelude.{◌≡◌, ℕ, List, [], ◌∷◌, ◌++◌, length, slice_index_or}
use Rattle.std.specs.List.{flat_map}
use Rattle.time_cat.specs.declared.conversion.TimeText.{TimeText}
use Rattle.time_cat.specs.declared.conversion.TimeText.TheVariants.{DateTime, Date, Clock, HalfDayClock, EraDateTime, EraDate, EraClock}
use Rattle.time_cat.specs.declared.segment.Segment.{Segment}
use Rattle.time_cat.specs.declared.texts.NameLists.{NameLists}
use Rattle.time_cat.specs.declared.texts.FormatTexts.{FormatTexts}
use Rattle.time_cat.specs.Faults.{IsFormat}

-- the names, the formats, the segments of eras with their texts joined, and the alternative digits
pub record TimeValues : Type 0 where
  pub names : NameLists
  pub formats : FormatTexts
  pub era : List Segment
  pub era_list : List ℕ
  pub alt_digits : List (List ℕ)

-- a format of the locale
abbrev pub format_text : TimeValues → TimeText → List ℕ
format_text v DateTime = v.formats.d_t_fmt
format_text v Date = v.formats.d_fmt
format_text v Clock = v.formats.t_fmt
format_text v HalfDayClock = v.formats.t_fmt_ampm
format_text v EraDateTime = v.formats.era_d_t_fmt
format_text v EraDate = v.formats.era_d_fmt
format_text v EraClock = v.formats.era_t_fmt

-- the rank of a format of the locale (our own)
abbrev pub rank_of : TimeText → ℕ
rank_of DateTime = 4
rank_of Date = 3
rank_of Clock = 3
rank_of HalfDayClock = 2
rank_of EraDateTime = 4
rank_of EraDate = 3
rank_of EraClock = 3

-- a name of a list
abbrev pub text_at : List (List ℕ) → ℕ → List ℕ
text_at texts i = slice_index_or texts i []

-- texts in a row with `;` between
abbrev pub joined : List (List ℕ) → List ℕ
joined [] = []
joined (text ∷ texts) = text ++ flat_map (λ t. 59 ∷ t) texts

-- as many names as there are days of the week, months and half days
pub record AreCounted (names : NameLists) : Type 0 where
  pub abday : length names.abday ≡ 7
  pub day : length names.day ≡ 7
  pub abmon : length names.abmon ≡ 12
  pub mon : length names.mon ≡ 12
  pub am_pm : length names.am_pm ≡ 2

-- formats of their ranks
pub record AreFormats (formats : FormatTexts) : Type 0 where
  pub d_t_fmt : IsFormat 4 formats.d_t_fmt
  pub d_fmt : IsFormat 3 formats.d_fmt
  pub t_fmt : IsFormat 3 formats.t_fmt
  pub t_fmt_ampm : IsFormat 2 formats.t_fmt_ampm
  pub era_d_t_fmt : IsFormat 4 formats.era_d_t_fmt
  pub era_d_fmt : IsFormat 3 formats.era_d_fmt
  pub era_t_fmt : IsFormat 3 formats.era_t_fmt

-- segments with formats of their rank
abbrev pub AreSegments : List Segment → Type 0
AreSegments [] = Unit {0}
AreSegments (s ∷ ss) = IsFormat 1 s.format × AreSegments ss

-- values that obey the rules of the category
pub record IsWhole (v : TimeValues) : Type 0 where
  pub names : AreCounted v.names
  pub formats : AreFormats v.formats
  pub era : AreSegments v.era
