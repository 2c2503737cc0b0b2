-- Steps, eras, keyword lists and their values, times, weeks and texts, by their definitions.
use Rattle.std.proofs.Common.{◌≡◌, ◌≤◌, ℕ, ◌+◌, true, false, List, [], ◌∷◌, ◌++◌, get_or, Option, Some, None, Ok, Err, refl, ap, arith}
use Rattle.std.specs.Prelude.{codes, pos, negsuc, replicate}
use Rattle.lc_base.specs.declared.place.Place.{Place}
use Rattle.lc_base.specs.declared.reason.Reason.TheVariants.{WrongCount, BadEra, BadFormat, FormatRank, OverLimit}
use Rattle.lc_base.specs.declared.reason.Limit.TheVariants.{Conversions}
use Rattle.keywords.specs.declared.source.Value.{Value}
use Rattle.keywords.specs.declared.source.Value.TheVariants.{Text}
use Rattle.keywords.specs.declared.source.Entry.{Entry}
use Rattle.lc_base.specs.Cuts.{cut_at}
use Rattle.lc_base.specs.Numbers.{few_digits}
use Rattle.time_cat.specs.Conversions.{conversion}
use Rattle.time_cat.specs.declared.conversion.TimeText.TheVariants.{HalfDayClock, EraDate}
use Rattle.time_cat.specs.declared.step.Step.TheVariants.{End, Byte, Conv, Bad}
use Rattle.time_cat.specs.declared.tm.TmField.TheVariants.{Year, Mon, Offset}
use Rattle.time_cat.specs.Formats.{Literal, Converted, pieces, bad_place, step, counted}
use Rattle.time_cat.specs.declared.segment.Date.{Date}
use Rattle.time_cat.specs.declared.segment.End.TheVariants.{On, AfterAll}
use Rattle.time_cat.specs.Eras.{Hit, year_of, date, end_of, segment, date_is_no_later, is_no_later, era}
use Rattle.time_cat.specs.Keywords.{takes_of}
use Rattle.time_cat.specs.Names.{IsFront}
use Rattle.time_cat.specs.Faults.{format_reason, line_checked, checked}
use Rattle.time_cat.specs.TimeValues.{TimeValues, format_text, text_at, joined}
use Rattle.time_cat.specs.Values.{segments_in, values_of, posix_values}
use Rattle.time_cat.specs.Times.{TmValues, time_of}
use Rattle.time_cat.specs.Weeks.{sunday_week, monday_week, iso_year, iso_week}
use Rattle.time_cat.specs.Shown.{expanded, time_text}

-- ---- weeks: 3 January 2021 is a Sunday, 30 December 2024 a Monday, 1 January 2023 a Sunday

january_3 : (sunday_week 2 0) ∷ (monday_week 2 0) ∷ (iso_week 2021 2 0) ∷ (iso_year 2021 2 0) ∷ [] ≡ 1 ∷ 0 ∷ 53 ∷ 2020 ∷ []
january_3 = refl

december_30 : (sunday_week 364 1) ∷ (monday_week 364 1) ∷ (iso_week 2024 364 1) ∷ (iso_year 2024 364 1) ∷ [] ≡ 52 ∷ 53 ∷ 1 ∷ 2025 ∷ []
december_30 = refl

january_1 : (sunday_week 0 0) ∷ (monday_week 0 0) ∷ (iso_week 2023 0 0) ∷ (iso_year 2023 0 0) ∷ [] ≡ 1 ∷ 0 ∷ 52 ∷ 2022 ∷ []
january_1 = refl

-- the last days of years: Thursday 31 December 2020 is in week 53, Friday 31 December 2021 in week 52
last_days : (iso_week 2020 365 4) ∷ (iso_week 2021 364 5) ∷ (iso_week 2019 364 2) ∷ (iso_year 2019 364 2) ∷ [] ≡ 53 ∷ 52 ∷ 1 ∷ 2020 ∷ []
last_days = refl

-- ---- steps and pieces

some_steps : step 5 (codes "a%") ∷ step 5 (codes "%EY-") ∷ step 5 (codes "%Od") ∷ step 5 (codes "%Q") ∷ step 5 [] ∷ [] ≡ Byte 97 ∷ Conv 69 89 1 8 ∷ Conv 79 100 0 8 ∷ Bad ∷ End ∷ []
unfolding conversion
some_steps = refl

counts : counted (Conv 0 100 0 2) ∷ counted (Byte 97) ∷ counted Bad ∷ counted End ∷ [] ≡ 1 ∷ 0 ∷ 0 ∷ 0 ∷ []
counts = refl

some_pieces : pieces (codes "a%d%%%Ey%Od") ≡ Literal 97 ∷ Converted 0 100 0 ∷ Converted 0 37 0 ∷ Converted 69 121 0 ∷ Converted 79 100 0 ∷ []
unfolding pieces conversion
some_pieces = refl

ranks : pieces (codes "%c%x%r%EY%Ec") ≡ Converted 0 99 4 ∷ Converted 0 120 3 ∷ Converted 0 114 2 ∷ Converted 69 89 1 ∷ Converted 69 99 4 ∷ []
unfolding pieces conversion
ranks = refl

wrong_ends : (bad_place (pieces (codes "a%"))) ∷ (bad_place (pieces (codes "%E"))) ∷ (bad_place (pieces (codes "a%Q%Q"))) ∷ (bad_place (pieces (codes "%Ea"))) ∷ (bad_place (pieces (codes "%OY"))) ∷ [] ≡ (Some 1) ∷ (Some 0) ∷ (Some 1) ∷ (Some 0) ∷ (Some 0) ∷ []
unfolding pieces conversion
wrong_ends = refl

-- ---- eras

abbrev reiwa : List (List ℕ)
reiwa = codes "+:1:2019/05/01:+*:Reiwa:%EC %Ey" ∷ codes "+:1:1989/01/08:2019/04/30:Heisei:%EC %Ey" ∷ []

abbrev Found : Type 0
Found = Option Hit

abbrev hit : List ℕ → ℕ → List ℕ → Found
hit name year format = Some (record { year = pos year; name = name; format = format })

reiwa_1 : era (segments_in reiwa) 2019 5 1 ≡ hit (codes "Reiwa") 1 (codes "%EC %Ey")
unfolding cut_at few_digits year_of date end_of segment
reiwa_1 = refl

heisei_31 : era (segments_in reiwa) 2019 4 30 ≡ hit (codes "Heisei") 31 (codes "%EC %Ey")
unfolding cut_at few_digits year_of date end_of segment
heisei_31 = refl

before_heisei : era (segments_in reiwa) 1989 1 7 ≡ None
unfolding cut_at few_digits year_of date end_of segment
before_heisei = refl

-- from -543 to 2021 are 2563 years, since there is no year 0
buddhist : era (segments_in (codes "+:1:-543/01/01:+*:BE:" ∷ [])) 2021 1 1 ≡ hit (codes "BE") 2564 []
unfolding cut_at few_digits year_of date end_of segment
buddhist = refl

-- years count down from the offset, below 0 too; a segment may begin at its later end
backward : era (segments_in (codes "-:1:10/12/31:-*:B:" ∷ [])) 7 1 1 ≡ Some (record { year = negsuc 1; name = codes "B"; format = [] })
unfolding cut_at few_digits year_of date end_of segment
backward = refl

abbrev date_at : ℕ → ℕ → ℕ → Date
date_at year month day = record { year = year; month = month; day = day }

-- by year, then month, then day, before what is after all
orders : date_is_no_later (date_at 2019 4 30) (date_at 2019 5 1) ∷ date_is_no_later (date_at 2019 5 1) (date_at 2019 4 30) ∷ date_is_no_later (date_at 2018 12 31) (date_at 2019 1 1) ∷ date_is_no_later (date_at 2019 5 1) (date_at 2019 5 1) ∷ is_no_later AfterAll (On (date_at 2019 1 1)) ∷ [] ≡ true ∷ false ∷ true ∷ true ∷ false ∷ []
orders = refl

not_segments : (segment (codes "+:1:2019/05/01:+*")) ∷ (segment (codes "*:1:2019/05/01:+*:a:")) ∷ (segment (codes "+:12345:2019/05/01:+*:a:")) ∷ (segment (codes "+:1:2019/13/01:+*:a:")) ∷ (segment (codes "+:1:+*:2019/05/01:a:")) ∷ [] ≡ None ∷ None ∷ None ∷ None ∷ None ∷ []
unfolding cut_at few_digits year_of date end_of segment
not_segments = refl

-- ---- keyword lists

abbrev at : ℕ → ℕ → Place
at line column = record { line = line; column = column }

-- a keyword at the first column of the second line, with operands each at a column of its own
abbrev operands : ℕ → List (List ℕ) → List (Place × Value)
operands column [] = []
operands column (t ∷ ts) = (at 2 column, Text t) ∷ operands (column + 10) ts

abbrev line : List ℕ → List (List ℕ) → List Entry
line keyword texts = record { place = at 2 1; keyword = keyword; values = operands 20 texts } ∷ []

equal_rank : checked (line (codes "t_fmt") (codes "%X" ∷ [])) ≡ Err (at 2 20, FormatRank)
unfolding takes_of line_checked format_reason pieces conversion
equal_rank = refl

no_conversion : checked (line (codes "t_fmt_ampm") (codes "a%Q" ∷ [])) ≡ Err (at 2 20, BadFormat 1)
unfolding takes_of line_checked format_reason pieces conversion
no_conversion = refl

six_days : checked (line (codes "abday") ([] ∷ [] ∷ [] ∷ [] ∷ [] ∷ [] ∷ [])) ≡ Err (at 2 1, WrongCount)
unfolding takes_of line_checked
six_days = refl

no_segment : checked (line (codes "era") (codes "+:1:2019/05/01:+*" ∷ [])) ≡ Err (at 2 20, BadEra)
unfolding takes_of line_checked format_reason pieces conversion cut_at few_digits year_of date end_of segment
no_segment = refl

-- the place of a fault in an era's format counts from the segment's first byte
era_format_at : checked (line (codes "era") (codes "+:1:2019/05/01:+*:R:a%Q" ∷ [])) ≡ Err (at 2 20, BadFormat 21)
unfolding takes_of line_checked format_reason pieces conversion cut_at few_digits year_of date end_of segment
era_format_at = refl

era_format_rank : checked (line (codes "era") (reiwa ++ codes "+:1:1/1/1:+*:x:%EY" ∷ [])) ≡ Err (at 2 40, FormatRank)
unfolding takes_of line_checked format_reason pieces conversion cut_at few_digits year_of date end_of segment
era_format_rank = refl

-- a `%` that begins no conversion goes before a rank that is too high
bad_before_rank : checked (line (codes "d_fmt") (codes "%c%" ∷ [])) ≡ Err (at 2 20, BadFormat 2)
unfolding takes_of line_checked format_reason pieces conversion
bad_before_rank = refl

seventeen : checked (line (codes "d_fmt") (codes "%d%d%d%d%d%d%d%d%d%d%d%d%d%d%d%d%%" ∷ [])) ≡ Err (at 2 20, OverLimit Conversions)
unfolding takes_of line_checked format_reason pieces conversion
seventeen = refl

sixteen : checked (line (codes "d_fmt") (codes "%d%d%d%d%d%d%d%d%d%d%d%d%d%d%d%d" ∷ [])) ≡ Ok tt
unfolding takes_of line_checked format_reason pieces conversion
sixteen = refl

-- ---- values

posix_texts : text_at posix_values.names.abday 0 ∷ text_at posix_values.names.mon 11 ∷ text_at posix_values.names.am_pm 1 ∷ format_text posix_values HalfDayClock ∷ format_text posix_values EraDate ∷ [] ≡ codes "Sun" ∷ codes "December" ∷ codes "PM" ∷ codes "%I:%M:%S %p" ∷ [] ∷ []
unfolding values_of
posix_texts = refl

-- the first line of a keyword counts, and the rest is that of the POSIX locale
first_line : (let v = values_of (line (codes "am_pm") (codes "a" ∷ codes "p" ∷ []) ++ line (codes "am_pm") (codes "x" ∷ codes "y" ∷ [])) in text_at v.names.am_pm 1 ∷ text_at v.names.day 6 ∷ []) ≡ codes "p" ∷ codes "Saturday" ∷ []
unfolding values_of
first_line = refl

lists : joined (values_of (line (codes "alt_digits") (codes "zero" ∷ [] ∷ codes "two" ∷ []))).alt_digits ∷ (values_of (line (codes "era") reiwa)).era_list ∷ [] ≡ codes "zero;;two" ∷ codes "+:1:2019/05/01:+*:Reiwa:%EC %Ey;+:1:1989/01/08:2019/04/30:Heisei:%EC %Ey" ∷ []
unfolding values_of
lists = refl

-- ---- times

-- the first field that is out of its range
not_times : time_of (pos 0) (pos 13) (pos 3) (pos 0) (pos 0) (pos 0) (pos 0) (pos 2) None [] ∷ time_of (pos 2021) (pos 13) (pos 32) (pos 0) (pos 0) (pos 0) (pos 0) (pos 2) None [] ∷ time_of (pos 2021) (pos 1) (pos 3) (pos 0) (pos 0) (pos 0) (pos 0) (pos 2) (Some (negsuc 1439)) [] ∷ [] ≡ Err (record { field = Year }) ∷ Err (record { field = Mon }) ∷ Err (record { field = Offset }) ∷ []
unfolding time_of
not_times = refl

last_second : time_of (pos 9999) (pos 12) (pos 31) (pos 23) (pos 59) (pos 60) (pos 6) (pos 365) (Some (negsuc 1438)) (codes "CET") ≡ Ok (record { year = 9999; mon = 12; mday = 31; hour = 23; min = 59; sec = 60; wday = 6; yday = 365; offset = Some (negsuc 1438); zone = codes "CET" })
unfolding time_of
last_second = refl

-- ---- texts of times

abbrev day : ℕ → ℕ → ℕ → ℕ → ℕ → TmValues
day year mon mday wday yday = record { year = year; mon = mon; mday = mday; hour = 14; min = 5; sec = 6; wday = wday; yday = yday; offset = Some (negsuc 89); zone = codes "CET" }

date_and_time : time_text posix_values (day 2021 1 3 0 2) (codes "%a %b %e %H:%M:%S") ≡ Ok (codes "Sun Jan  3 14:05:06")
unfolding values_of expanded pieces conversion
date_and_time = refl

weeks_of : time_text posix_values (day 2021 1 3 0 2) (codes "%U %W %V %g") ≡ Ok (codes "01 00 53 20")
unfolding values_of expanded pieces conversion
weeks_of = refl

small_year : time_text posix_values (day 5 1 1 6 0) (codes "%F %C %y %z %Z %j %p %I") ≡ Ok (codes "0005-01-01 00 05 -0130 CET 001 PM 02")
unfolding values_of expanded pieces conversion
small_year = refl

no_text : time_text posix_values (day 2021 1 3 0 2) (codes "a%Q") ≡ Err 1
unfolding values_of expanded pieces conversion
no_text = refl

abbrev japanese : TimeValues
japanese = values_of (line (codes "era") reiwa ++ line (codes "alt_digits") (codes "zero" ∷ codes "one" ∷ codes "two" ∷ []))

era_names : time_text japanese (day 2019 5 1 3 120) (codes "%EC") ∷ time_text japanese (day 2019 4 30 2 119) (codes "%EC") ∷ time_text japanese (day 1989 1 7 6 6) (codes "%EC%Ey") ∷ [] ≡ Ok (codes "Reiwa") ∷ Ok (codes "Heisei") ∷ Ok (codes "1989") ∷ []
unfolding values_of expanded pieces conversion cut_at few_digits year_of date end_of segment
era_names = refl

alternative_digits : (time_text japanese (day 2021 2 2 2 32) (codes "%Od %Oe")) ∷ (time_text japanese (day 2021 2 3 3 33) (codes "%Od %Oe")) ∷ [] ≡ (Ok (codes "two two")) ∷ (Ok (codes "03  3")) ∷ []
unfolding values_of expanded pieces conversion
alternative_digits = refl

-- ---- fronts of names: a short name with anything behind it; where the name is long, any 16 bytes

short_front : IsFront (codes "Mon") (codes "Mon" ++ replicate 13 0)
short_front = record { wide = refl; short = λ few. refl }

full_front : IsFront (codes "Sixteen bytes it") (codes "Sixteen bytes it")
full_front = record { wide = refl; short = λ few. refl }

long_front : IsFront (codes "Eighteen bytes are") (replicate 16 0)
long_front = record { wide = refl; short = λ few. let wrong : 18 ≤ 16 = few in absurd (omega (arith, wrong)) }

not_its_front : IsFront (codes "Mon") (codes "Tue" ++ replicate 13 0) → ⊥
not_its_front front =
    let small : 3 ≤ 16 = omega arith in
    let first : 84 ≡ 77 = ap (λ (bytes : List ℕ). get_or bytes 0 0) (front.short small) in
    omega (arith, first)

narrow_front : IsFront (codes "Mon") (codes "Mon") → ⊥
narrow_front front = let wide : 3 ≡ 16 = front.wide in omega (arith, wide)
