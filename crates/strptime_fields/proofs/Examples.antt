-- Texts that are read, by their definitions.
use Rattle.std.proofs.Common.{◌≡◌, ℕ, ◌+◌, List, [], ◌∷◌, Some, None, Ok, Err, refl}
use Rattle.std.specs.Prelude.{pos, codes}
use Rattle.lc_base.specs.declared.place.Place.{Place}
use Rattle.lc_base.specs.declared.refusal.FormatRefusal.TheVariants.{BadFormat, Mismatch}
use Rattle.keywords.specs.declared.source.Value.{Value}
use Rattle.keywords.specs.declared.source.Value.TheVariants.{Text}
use Rattle.keywords.specs.declared.source.Entry.{Entry}
use Rattle.time_cat.specs.Conversions.{conversion}
use Rattle.time_cat.specs.Formats.{pieces}
use Rattle.time_cat.specs.TimeValues.{TimeValues}
use Rattle.time_cat.specs.Values.{values_of, posix_values}
use Rattle.time_cat.specs.declared.parsed.Parsed.{Parsed}
use Rattle.strptime_fields.specs.declared.fault.ScanFault.TheVariants as faults
use Rattle.strptime_fields.specs.Items.{item}
use Rattle.strptime_fields.specs.Reading.{number, longest}
use Rattle.strptime_fields.specs.Scans.{Scanned, followed, scan, answer_of, cost}

abbrev posix : List ℕ → List ℕ → Scanned
posix format text = scan posix_values format text

-- no field
abbrev none : Parsed
none = record { year = None; mon = None; mday = None; hour = None; min = None; sec = None; wday = None; yday = None }

abbrev found : Parsed → ℕ → Scanned
found fields at = Ok (fields, at)

abbrev mismatch : ℕ → Scanned
mismatch at = Err (Mismatch at)

abbrev bad_format : ℕ → Scanned
bad_format at = Err (BadFormat at)

date_and_time : posix (codes "%a %b %d %H:%M:%S %Y") (codes "sun Jan  3 14:05:06 2021")
    ≡ found (record { year = Some (pos 2021); mon = Some 1; mday = Some 3; hour = Some 14; min = Some 5; sec = Some 6; wday = Some 0; yday = None }) 24
unfolding values_of followed pieces conversion item number longest
date_and_time = refl

-- the first byte that is not read
rest : posix (codes "%d") (codes "7x") ≡ found (record none { mday = Some 7 }) 1
unfolding values_of followed pieces conversion item number longest
rest = refl

-- a year of a century that is not said
near_years : posix (codes "%y") (codes "68") ∷ posix (codes "%y") (codes "69") ∷ posix (codes "%C") (codes "19") ∷ posix (codes "%y%C") (codes "7019") ∷ posix (codes "%Y%C") (codes "202019") ∷ []
    ≡ found (record none { year = Some (pos 2068) }) 2 ∷ found (record none { year = Some (pos 1969) }) 2 ∷ found (record none { year = Some (pos 1900) }) 2 ∷ found (record none { year = Some (pos 1970) }) 4 ∷ found (record none { year = Some (pos 2020) }) 6 ∷ []
unfolding values_of followed pieces conversion item number longest
near_years = refl

half_days : posix (codes "%I %p") (codes "12 am") ∷ posix (codes "%p %I") (codes "PM 12") ∷ posix (codes "%I") (codes "12") ∷ posix (codes "%p") (codes "pm") ∷ posix (codes "%I %p %H") (codes "3 pm 4") ∷ []
    ≡ found (record none { hour = Some 0 }) 5 ∷ found (record none { hour = Some 12 }) 5 ∷ found (record none { hour = Some 0 }) 2 ∷ found none 2 ∷ found (record none { hour = Some 4 }) 6 ∷ []
unfolding values_of followed pieces conversion item number longest
half_days = refl

-- the place of a mismatch is where the item begins, before the white space that it skips
mismatches : posix (codes "%d") (codes "32") ∷ posix (codes "%H:%M") (codes "10-20") ∷ posix (codes "%H%M") (codes "10 60") ∷ posix (codes "%d") [] ∷ posix (codes "%a") (codes " sun") ∷ posix (codes "%Y %m") (codes "2021") ∷ []
    ≡ mismatch 0 ∷ mismatch 2 ∷ mismatch 2 ∷ mismatch 0 ∷ mismatch 0 ∷ mismatch 4 ∷ []
unfolding values_of followed pieces conversion item number longest
mismatches = refl

-- a wrong `%` goes before a mismatch
wrong_formats : posix (codes "x%Ey") (codes "x") ∷ posix (codes "%d%") (codes "x") ∷ posix (codes "%d%Z%z") (codes "x") ∷ posix (codes "%F") [] ∷ []
    ≡ bad_format 1 ∷ bad_format 2 ∷ bad_format 2 ∷ bad_format 0 ∷ []
unfolding values_of followed pieces conversion item number longest
wrong_formats = refl

-- a fault is the refusal of its name, at its place
answers : answer_of (Ok (none, 1)) ∷ answer_of (Err (faults.BadFormat 3)) ∷ answer_of (Err (faults.Mismatch 4)) ∷ [] ≡ found none 1 ∷ bad_format 3 ∷ mismatch 4 ∷ []
answers = refl

-- most digits, and the bounds of each number
numbers : posix (codes "%d%H") (codes "311") ∷ posix (codes "%Y%m") (codes "202112") ∷ posix (codes "%j") (codes "0366") ∷ posix (codes "%j") (codes "366") ∷ posix (codes "%w") (codes "7") ∷ posix (codes "%w%w") (codes "16") ∷ posix (codes "%S") (codes "60") ∷ posix (codes "%U%W") (codes "5354") ∷ []
    ≡ found (record none { mday = Some 31; hour = Some 1 }) 3 ∷ found (record none { year = Some (pos 2021); mon = Some 12 }) 6 ∷ found (record none { yday = Some 35 }) 3 ∷ found (record none { yday = Some 365 }) 3 ∷ mismatch 0 ∷ found (record none { wday = Some 6 }) 2 ∷ found (record none { sec = Some 60 }) 2 ∷ mismatch 2 ∷ []
unfolding values_of followed pieces conversion item number longest
numbers = refl

-- white space of each kind, in the format and in the text
white_space : posix (codes "%n%d\t:") (codes "\n\t 7:") ∷ posix (codes "a b%t") (codes "ab") ∷ posix (codes "%%%d") (codes "% 3") ∷ []
    ≡ found (record none { mday = Some 7 }) 5 ∷ found none 2 ∷ found (record none { mday = Some 3 }) 3 ∷ []
unfolding values_of followed pieces conversion item number longest
white_space = refl

-- the formats of the locale, and those of the table
formats : posix (codes "%c") (codes "SUNday january 3 14:05:06 2021") ∷ posix (codes "%D %R") (codes "1/2/03 4:5") ∷ posix (codes "%r") (codes "01:02:03 pm") ∷ posix (codes "%x %X") (codes "12/31/69 23:59:60x") ∷ []
    ≡ found (record { year = Some (pos 2021); mon = Some 1; mday = Some 3; hour = Some 14; min = Some 5; sec = Some 6; wday = Some 0; yday = None }) 30 ∷ found (record none { year = Some (pos 2003); mon = Some 1; mday = Some 2; hour = Some 4; min = Some 5 }) 10 ∷ found (record none { hour = Some 13; min = Some 2; sec = Some 3 }) 11
    ∷ found (record none { year = Some (pos 1969); mon = Some 12; mday = Some 31; hour = Some 23; min = Some 59; sec = Some 60 }) 17 ∷ []
unfolding values_of followed pieces conversion item number longest
formats = refl

-- the last item of a kind counts
last_items : posix (codes "%d %e") (codes "1 2") ∷ posix (codes "%B %m") (codes "May 6") ∷ posix (codes "%m %b") (codes "6 mayor") ∷ posix (codes "%w %A") (codes "3 friday") ∷ []
    ≡ found (record none { mday = Some 2 }) 3 ∷ found (record none { mon = Some 6 }) 5 ∷ found (record none { mon = Some 5 }) 5 ∷ found (record none { wday = Some 5 }) 8 ∷ []
unfolding values_of followed pieces conversion item number longest
last_items = refl

-- ---- names that begin with each other

abbrev at : ℕ → ℕ → Place
at line column = record { line = line; column = column }

abbrev operands : ℕ → List (List ℕ) → List (Place × Value)
operands column [] = []
operands column (t ∷ ts) = (at 2 column, Text t) ∷ operands (column + 10) ts

abbrev line : List ℕ → List (List ℕ) → List Entry
line keyword texts = record { place = at 2 1; keyword = keyword; values = operands 20 texts } ∷ []

-- the short names of the first days are empty, and longer than one another, and equal
abbrev odd : TimeValues
odd = values_of (line (codes "abday") ([] ∷ codes "A" ∷ codes "AB" ∷ codes "ab" ∷ codes "ABC" ∷ codes "x" ∷ codes "y" ∷ []))

odd_names : scan odd (codes "%a") (codes "ab") ∷ scan odd (codes "%a") (codes "abc") ∷ scan odd (codes "%a") (codes "a") ∷ scan odd (codes "%a") (codes "z") ∷ scan odd (codes "%a") (codes "Sunday") ∷ scan odd (codes "%a") (codes "sun") ∷ []
    ≡ found (record none { wday = Some 2 }) 2 ∷ found (record none { wday = Some 4 }) 3 ∷ found (record none { wday = Some 1 }) 1 ∷ mismatch 0 ∷ found (record none { wday = Some 0 }) 6 ∷ mismatch 0 ∷ []
unfolding values_of followed pieces conversion item number longest
odd_names = refl

-- ---- steps

costs : cost posix_values (codes "%c") ∷ cost posix_values (codes "%r %T") ∷ cost posix_values (codes "%d%Z%d") ∷ cost posix_values (codes "ab%%") ∷ cost posix_values (codes "%d%") ∷ []
    ≡ 8 ∷ 9 ∷ 2 ∷ 1 ∷ 1 ∷ []
unfolding values_of followed pieces conversion item
costs = refl
