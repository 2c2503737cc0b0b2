-- What an item reads at the front of a text (XSH strptime; the most digits, and which name counts, are our own).
use Rattle.std.specs.Prelude.{ℕ, zero, suc, ◌+◌, ◌==◌, nat_lt, List, [], ◌∷◌, length, take, drop, Option, Some, None, if◌then◌else◌}
use Rattle.std.specs.Int.{is_in_range}
use Rattle.std.specs.Char.{is_ascii_digit, eq_ignore_ascii_case}
use Rattle.std.specs.List.{take_while}
use Rattle.std.specs.Str.Parse.{digits_value}
use Rattle.time_cat.specs.TimeValues.{TimeValues, text_at}
use Rattle.strptime_fields.specs.declared.item.Kind.{Kind}
use Rattle.strptime_fields.specs.declared.item.Kind.TheVariants as kinds
use Rattle.strptime_fields.specs.declared.item.Digits.{Digits}
use Rattle.strptime_fields.specs.declared.item.Names.{Names}
use Rattle.strptime_fields.specs.declared.item.Names.TheVariants.{Weekdays, Months, HalfDays}
use Rattle.strptime_fields.specs.declared.item.Item.{Item}
use Rattle.strptime_fields.specs.declared.item.Item.TheVariants.{White, Sign, Number, YearDay, Year, Name, Format}
use Rattle.strptime_fields.specs.declared.last_read.LastRead.{LastRead}
use Rattle.strptime_fields.specs.Items.{is_white, most_digits}
use Rattle.strptime_fields.specs.Keeping.{keep, keep_year_day, keep_year}

-- a value, and what is left of the text behind it
abbrev pub Value : Type 0
Value = ℕ × List ℕ

-- ---- numbers

-- what is left behind white space
abbrev pub behind_white : List ℕ → List ℕ
behind_white [] = []
behind_white (c ∷ cs) = if is_white c then behind_white cs else c ∷ cs

-- the digits at the front, so many at most
abbrev pub leading_digits : ℕ → List ℕ → List ℕ
leading_digits most text = take_while is_ascii_digit (take most text)

-- the value of digits, at least one, within bounds
abbrev pub within : ℕ → ℕ → List ℕ → List ℕ → Option Value
within low high [] rest = None
within low high (d ∷ ds) rest = if is_in_range low high (digits_value 10 (d ∷ ds)) then Some (digits_value 10 (d ∷ ds), rest) else None

-- a number behind perhaps white space, with as many digits as it may have
unfoldable pub number : Digits → ℕ → ℕ → List ℕ → Option Value
number digits low high text =
    let left = behind_white text in
    let ds = leading_digits (most_digits digits) left in
    within low high ds (drop (length ds) left)

-- ---- names

-- what is left behind a name, where ASCII letters of either case are equal
abbrev pub behind : List ℕ → List ℕ → Option (List ℕ)
behind [] text = Some text
behind (c ∷ cs) [] = None
behind (c ∷ cs) (d ∷ ds) = if eq_ignore_ascii_case c d then behind cs ds else None

-- what is left behind the best name so far, or the whole text
abbrev pub left_by : List ℕ → Option Value → List ℕ
left_by text None = text
left_by text (Some best) = best.1

-- the better of two names: one of which less is left, or else the earlier one
abbrev pub better : List ℕ → Option Value → ℕ → Option (List ℕ) → Option Value
better text best value None = best
better text best value (Some rest) = if nat_lt (length rest) (length (left_by text best)) then Some (value, rest) else best

abbrev pub or_name : List ℕ → Option Value → ℕ → List ℕ → Option Value
or_name text best value name = better text best value (behind name text)

-- the names of an index, short and full; a half of the day has one
abbrev pub short_name : TimeValues → Names → ℕ → List ℕ
short_name v Weekdays i = text_at v.names.abday i
short_name v Months i = text_at v.names.abmon i
short_name v HalfDays i = text_at v.names.am_pm i

abbrev pub full_name : TimeValues → Names → ℕ → List ℕ
full_name v Weekdays i = text_at v.names.day i
full_name v Months i = text_at v.names.mon i
full_name v HalfDays i = []

-- how many there are, and the value of the first one
abbrev pub name_count : Names → ℕ
name_count Weekdays = 7
name_count Months = 12
name_count HalfDays = 2

abbrev pub first_value : Names → ℕ
first_value Weekdays = 0
first_value Months = 1
first_value HalfDays = 0

-- the longest of the names with the first indices, so many, that stand at the front; an empty name is longer than none
abbrev pub longest_of : TimeValues → Names → List ℕ → ℕ → Option Value
longest_of v names text zero = None
longest_of v names text (suc i) = or_name text (or_name text (longest_of v names text i) (first_value names + i) (short_name v names i)) (first_value names + i) (full_name v names i)

unfoldable pub longest : TimeValues → Names → List ℕ → Option Value
longest v names text = longest_of v names text (name_count names)

-- ---- items

-- what is left of a text, and what was kept
abbrev pub Read : Type 0
Read = List ℕ × LastRead

-- a value that was read is kept
abbrev pub kept_as : (ℕ → LastRead → LastRead) → LastRead → Option Value → Option Read
kept_as keeps k None = None
kept_as keeps k (Some found) = Some (found.1, keeps found.0 k)

abbrev pub kind_of : Names → Kind
kind_of Weekdays = kinds.Weekday
kind_of Months = kinds.Month
kind_of HalfDays = kinds.HalfDay

-- a byte at the front
abbrev pub sign : ℕ → List ℕ → LastRead → Option Read
sign c [] k = None
sign c (d ∷ ds) k = if d == c then Some (ds, k) else None

-- what an item reads; a format reads by its own items
abbrev pub read : TimeValues → Item → List ℕ → LastRead → Option Read
read v White text k = Some (behind_white text, k)
read v (Sign c) text k = sign c text k
read v (Number kind digits low high) text k = kept_as (keep kind) k (number digits low high text)
read v (YearDay digits low high) text k = kept_as keep_year_day k (number digits low high text)
read v (Year digits low high) text k = kept_as keep_year k (number digits low high text)
read v (Name names) text k = kept_as (keep (kind_of names)) k (longest v names text)
read v (Format form) text k = Some (text, k)
