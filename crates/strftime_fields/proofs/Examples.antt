-- Texts of times, by their definitions.
use Rattle.std.proofs.Common.{◌≡◌, ℕ, ◌+◌, List, [], ◌∷◌, true, Some, None, Result, Ok, Err, refl}
use Rattle.std.specs.Prelude.{codes, negsuc}
use Rattle.std.specs.Fmt.{digits}
use Rattle.lc_base.specs.declared.place.Place.{Place}
use Rattle.lc_base.specs.declared.refusal.FormatRefusal.{FormatRefusal}
use Rattle.lc_base.specs.declared.refusal.FormatRefusal.TheVariants.{BadFormat, TooBig}
use Rattle.keywords.specs.declared.source.Value.{Value}
use Rattle.keywords.specs.declared.source.Value.TheVariants.{Text}
use Rattle.keywords.specs.declared.source.Entry.{Entry}
use Rattle.lc_base.specs.Cuts.{cut_at}
use Rattle.lc_base.specs.Numbers.{few_digits}
use Rattle.time_cat.specs.Conversions.{conversion}
use Rattle.time_cat.specs.Formats.{pieces, rest_of}
use Rattle.time_cat.specs.Eras.{year_of, date, end_of, segment}
use Rattle.time_cat.specs.Times.{TmValues}
use Rattle.time_cat.specs.TimeValues.{TimeValues}
use Rattle.time_cat.specs.Values.{values_of, posix_values}
use Rattle.time_cat.specs.Shown.{expanded}
use Rattle.strftime_fields.specs.declared.fault.TimeFault.{TimeFault}
use Rattle.strftime_fields.specs.declared.fault.TimeFault.TheVariants as stops
use Rattle.strftime_fields.specs.Answers.{answer, refusal_of, with_text}
use Rattle.strftime_fields.specs.Cost.{cost, reads}
use Rattle.strftime_fields.specs.Going.{text_of, reads_of, bad_of, text_left, reads_left}
use Rattle.strftime_fields.specs.Going as going

-- a day at 14:05:06, an hour and a half west of UTC
abbrev day : ℕ → ℕ → ℕ → ℕ → ℕ → TmValues
day year mon mday wday yday = record { year = year; mon = mon; mday = mday; hour = 14; min = 5; sec = 6; wday = wday; yday = yday; offset = Some (negsuc 89); zone = codes "CET" }

abbrev Answer : Type 0
Answer = Result (List ℕ) FormatRefusal

abbrev posix : ℕ → ℕ → ℕ → ℕ → ℕ → List ℕ → Answer
posix year mon mday wday yday format = answer posix_values (day year mon mday wday yday) format 4096

date_and_time : posix 2021 1 3 0 2 (codes "%c") ≡ Ok (codes "Sun Jan  3 14:05:06 2021")
unfolding values_of expanded pieces conversion digits
date_and_time = refl

weeks : posix 2021 1 3 0 2 (codes "%U %W %V %G %g %u") ∷ posix 2024 12 30 1 364 (codes "%U %W %V %G %g %u") ∷ posix 2023 1 1 0 0 (codes "%U %W %V %G %g %u") ∷ [] ≡ Ok (codes "01 00 53 2020 20 7") ∷ Ok (codes "52 53 01 2025 25 1") ∷ Ok (codes "01 00 52 2022 22 7") ∷ []
unfolding values_of expanded pieces conversion digits
weeks = refl

small_year : posix 5 1 1 6 0 (codes "%Y %F %C %y") ≡ Ok (codes "5 0005-01-01 00 05")
unfolding values_of expanded pieces conversion digits
small_year = refl

zone : posix 2021 1 3 0 2 (codes "%z %Z") ≡ Ok (codes "-0130 CET")
unfolding values_of expanded pieces conversion
zone = refl

formats : posix 2021 1 3 0 2 (codes "%x %X %r") ≡ Ok (codes "01/03/21 14:05:06 02:05:06 PM")
unfolding values_of expanded pieces conversion
formats = refl

names : posix 2021 1 3 0 2 (codes "%a %A %b %B %h %p") ≡ Ok (codes "Sun Sunday Jan January Jan PM")
unfolding values_of expanded pieces conversion
names = refl

numbers : posix 2021 1 3 0 2 (codes "%d %e %H %I %M %S %m %j %w") ≡ Ok (codes "03  3 14 02 05 06 01 003 0")
unfolding values_of expanded pieces conversion digits
numbers = refl

no_eras : posix 2021 1 3 0 2 (codes "%EC %Ey %EY %Ex %EX") ≡ Ok (codes "20 21 2021 01/03/21 14:05:06")
unfolding values_of expanded pieces conversion digits
no_eras = refl

-- a `%` that begins no conversion goes before a text that is too long
faults : answer posix_values (day 2021 1 3 0 2) (codes "a%d%Q") 0 ∷ answer posix_values (day 2021 1 3 0 2) (codes "%F") 9 ∷ answer posix_values (day 2021 1 3 0 2) (codes "%F") 10 ∷ [] ≡ Err (BadFormat 3) ∷ Err TooBig ∷ Ok (codes "2021-01-03") ∷ []
unfolding values_of expanded pieces conversion
faults = refl

-- a fault is the refusal of its name, and out of memory is none
refusals : refusal_of (stops.BadFormat 3) ∷ refusal_of stops.TooBig ∷ refusal_of stops.Memory ∷ [] ≡ Some (BadFormat 3) ∷ Some TooBig ∷ None ∷ []
refusals = refl

-- what a format costs: its conversions once, and again with those of the format for which one stands, until the text is too long
abbrev costs : List ℕ → ℕ → ℕ
costs format max = cost posix_values (day 2021 1 3 0 2) format max

steps : costs (codes "%c") 4096 ∷ costs (codes "%c") 4 ∷ costs (codes "%c") 3 ∷ costs (codes "%c") 2 ∷ [] ≡ 9 ∷ 4 ∷ 3 ∷ 3 ∷ []
unfolding values_of expanded reads pieces conversion digits
steps = refl

steps_of_few : costs (codes "%d%d") 4 ∷ costs (codes "%d%d") 2 ∷ costs (codes "%d%d") 1 ∷ costs (codes "a%d%Q%d") 4096 ∷ costs (codes "ab") 4096 ∷ [] ≡ 4 ∷ 4 ∷ 3 ∷ 1 ∷ 0 ∷ []
unfolding values_of expanded reads pieces conversion
steps_of_few = refl

-- what was put elsewhere counts where all went well, and a fault stands whatever was left there
abbrev put_elsewhere : List ℕ → Result ℕ TimeFault → Result (List ℕ) TimeFault
put_elsewhere text result = with_text text result

texts_elsewhere : put_elsewhere (codes "Sun") (Ok 0) ∷ put_elsewhere [] (Ok 0) ∷ put_elsewhere [] (Err stops.TooBig) ∷ put_elsewhere (codes "Sun") (Err stops.TooBig) ∷ [] ≡ Ok (codes "Sun") ∷ Ok [] ∷ Err stops.TooBig ∷ Err stops.TooBig ∷ []
texts_elsewhere = refl

-- ---- eras

abbrev at : ℕ → ℕ → Place
at line column = record { line = line; column = column }

abbrev operands : ℕ → List (List ℕ) → List (Place × Value)
operands column [] = []
operands column (t ∷ ts) = (at 2 column, Text t) ∷ operands (column + 10) ts

abbrev line : List ℕ → List (List ℕ) → List Entry
line keyword texts = record { place = at 2 1; keyword = keyword; values = operands 20 texts } ∷ []

abbrev segments : List (List ℕ)
segments = codes "+:1:2019/05/01:+*:Reiwa:%EC %Ey" ∷ codes "+:1:1989/01/08:2019/04/30:Heisei:%EC %Ey" ∷ codes "-:1:10/12/31:-543/01/01:B:%Ey" ∷ []

abbrev japanese : TimeValues
japanese = values_of (line (codes "era") segments)

abbrev in_era : ℕ → ℕ → ℕ → Answer
in_era year mon mday = answer japanese (day year mon mday 0 0) (codes "%EY") 4096

era_years : in_era 2019 5 1 ∷ in_era 2019 4 30 ∷ in_era 1989 1 7 ∷ in_era 2021 2 3 ∷ in_era 7 1 1 ∷ [] ≡ Ok (codes "Reiwa 1") ∷ Ok (codes "Heisei 31") ∷ Ok (codes "1989") ∷ Ok (codes "Reiwa 3") ∷ Ok (codes "-2") ∷ []
unfolding values_of expanded pieces conversion digits cut_at few_digits year_of date end_of segment
era_years = refl

steps_of_eras : cost japanese (day 2021 2 3 0 0) (codes "%EY") 4096 ∷ cost japanese (day 1989 1 7 0 0) (codes "%EY") 4096 ∷ [] ≡ 4 ∷ 2 ∷ []
unfolding values_of expanded reads pieces conversion digits cut_at few_digits year_of date end_of segment
steps_of_eras = refl

-- what is left of a format of the caller's behind its first conversion
abbrev behind_hours : going.Place
behind_hours = record { format = codes "%H:%r%"; rest = codes ":%r%"; levels = 2; whole = true }

behind : text_of posix_values (day 2021 1 3 0 2) behind_hours ≡ codes ":02:05:06 PM"
unfolding values_of text_left expanded pieces rest_of conversion digits
behind = refl

behind_costs : reads_of 4096 posix_values (day 2021 1 3 0 2) 2 behind_hours ≡ 5
unfolding values_of reads_left reads expanded pieces rest_of conversion digits
behind_costs = refl

behind_wrong : bad_of behind_hours ≡ Some 5
unfolding rest_of conversion
behind_wrong = refl
