-- What is left of a text is never longer than the text.
use Rattle.std.proofs.Common.{ℕ, zero, suc, ◌+◌, ◌≤◌, Bool, true, false, cond, eqb, ltb, List, [], ◌∷◌, length, drop, Option, Some, None, Ok, Err, arith, length-drop}
use Rattle.std.specs.Char.{eq_ignore_ascii_case}
use Rattle.std.specs.Int.{is_in_range}
use Rattle.std.specs.Str.Parse.{digits_value}
use Rattle.time_cat.specs.Formats.{Piece}
use Rattle.time_cat.specs.TimeValues.{TimeValues}
use Rattle.strptime_fields.specs.declared.item.Digits.{Digits}
use Rattle.strptime_fields.specs.declared.item.Names.{Names}
use Rattle.strptime_fields.specs.declared.item.Item.{Item}
use Rattle.strptime_fields.specs.declared.item.Item.TheVariants.{White, Sign, Number, YearDay, Year, Name, Format}
use Rattle.strptime_fields.specs.declared.last_read.LastRead.{LastRead}
use Rattle.strptime_fields.specs.Items.{is_white, most_digits, item_of}
use Rattle.strptime_fields.specs.Keeping.{keep, keep_year_day, keep_year}
use Rattle.strptime_fields.specs.Reading.{Value, behind_white, leading_digits, within, number, behind, left_by, better, or_name, first_value, short_name, full_name, name_count, longest_of, longest, Read, kept_as, kind_of, sign, read}
use Rattle.strptime_fields.specs.Scans.{Progress, IsWithin, or_missed, read_onward, by_item, onward, run}

-- ---- numbers

white_by : (c : ℕ) (cs : List ℕ) (b : Bool) → length (behind_white cs) ≤ length cs → length (cond b (behind_white cs) (c ∷ cs)) ≤ length (c ∷ cs)
white_by c cs true is = omega (arith, is)
white_by c cs false is = omega arith

pub shorter_white : (text : List ℕ) → length (behind_white text) ≤ length text
shorter_white [] = omega arith
shorter_white (c ∷ cs) = white_by c cs (is_white c) (shorter_white cs)

-- a value, if there is one, with no more than so much left
abbrev FitsValue : ℕ → Option Value → Type 0
FitsValue n None = Unit {0}
FitsValue n (Some found) = length found.1 ≤ n

chosen_fits : (n : ℕ) (b : Bool) (found : Value) → length found.1 ≤ n → FitsValue n (cond b (Some found) None)
chosen_fits n true found is = is
chosen_fits n false found is = tt

within_fits : (n low high : ℕ) (ds rest : List ℕ) → length rest ≤ n → FitsValue n (within low high ds rest)
within_fits n low high [] rest is = tt
within_fits n low high (d ∷ ds) rest is = chosen_fits n (is_in_range low high (digits_value 10 (d ∷ ds))) (digits_value 10 (d ∷ ds), rest) is

number_fits : (digits : Digits) (low high : ℕ) (text : List ℕ) → FitsValue (length text) (number digits low high text)
unfolding number
number_fits digits low high text =
    let left = behind_white text in
    let ds = leading_digits (most_digits digits) left in
    within_fits (length text) low high ds (drop (length ds) left) (omega (arith, shorter_white text, length-drop (length ds) left))

-- ---- names

abbrev FitsText : ℕ → Option (List ℕ) → Type 0
FitsText n None = Unit {0}
FitsText n (Some rest) = length rest ≤ n

letter_fits : (n : ℕ) (b : Bool) (o : Option (List ℕ)) → FitsText n o → FitsText n (cond b o None)
letter_fits n true o is = is
letter_fits n false o is = tt

longer_fits : (n m : ℕ) (o : Option (List ℕ)) → n ≤ m → FitsText n o → FitsText m o
longer_fits n m None few is = tt
longer_fits n m (Some rest) few is = omega (arith, few, is)

behind_fits : (name text : List ℕ) → FitsText (length text) (behind name text)
behind_fits [] text = omega arith
behind_fits (c ∷ cs) [] = tt
behind_fits (c ∷ cs) (d ∷ ds) = letter_fits (length (d ∷ ds)) (eq_ignore_ascii_case c d) (behind cs ds) (longer_fits (length ds) (length (d ∷ ds)) (behind cs ds) (omega arith) (behind_fits cs ds))

two_fit : (n : ℕ) (b : Bool) (found : Value) (best : Option Value) → length found.1 ≤ n → FitsValue n best → FitsValue n (cond b (Some found) best)
two_fit n true found best is is' = is
two_fit n false found best is is' = is'

better_fits : (text : List ℕ) (best : Option Value) (value : ℕ) (o : Option (List ℕ)) → FitsValue (length text) best → FitsText (length text) o → FitsValue (length text) (better text best value o)
better_fits text best value None is fits = is
better_fits text best value (Some rest) is fits = two_fit (length text) (ltb (length rest) (length (left_by text best))) (value, rest) best fits is

name_fits : (text : List ℕ) (best : Option Value) (value : ℕ) (name : List ℕ) → FitsValue (length text) best → FitsValue (length text) (or_name text best value name)
name_fits text best value name is = better_fits text best value (behind name text) is (behind_fits name text)

names_fit : (v : TimeValues) (names : Names) (text : List ℕ) (i : ℕ) → FitsValue (length text) (longest_of v names text i)
names_fit v names text zero = tt
names_fit v names text (suc i) =
    name_fits text _ (first_value names + i) (full_name v names i) (name_fits text (longest_of v names text i) (first_value names + i) (short_name v names i) (names_fit v names text i))

longest_fits : (v : TimeValues) (names : Names) (text : List ℕ) → FitsValue (length text) (longest v names text)
unfolding longest
longest_fits v names text = names_fit v names text (name_count names)

-- ---- items

abbrev FitsRead : ℕ → Option Read → Type 0
FitsRead n None = Unit {0}
FitsRead n (Some r) = length r.0 ≤ n

kept_fits : (n : ℕ) (keeps : ℕ → LastRead → LastRead) (k : LastRead) (o : Option Value) → FitsValue n o → FitsRead n (kept_as keeps k o)
kept_fits n keeps k None is = tt
kept_fits n keeps k (Some found) is = is

byte_fits : (n : ℕ) (b : Bool) (r : Read) → length r.0 ≤ n → FitsRead n (cond b (Some r) None)
byte_fits n true r is = is
byte_fits n false r is = tt

sign_fits : (c : ℕ) (text : List ℕ) (k : LastRead) → FitsRead (length text) (sign c text k)
sign_fits c [] k = tt
sign_fits c (d ∷ ds) k = byte_fits (length (d ∷ ds)) (eqb d c) (ds, k) (omega arith)

read_fits : (v : TimeValues) (i : Item) (text : List ℕ) (k : LastRead) → FitsRead (length text) (read v i text k)
read_fits v White text k = shorter_white text
read_fits v (Sign c) text k = sign_fits c text k
read_fits v (Number kind digits low high) text k = kept_fits (length text) (keep kind) k _ (number_fits digits low high text)
read_fits v (YearDay digits low high) text k = kept_fits (length text) keep_year_day k _ (number_fits digits low high text)
read_fits v (Year digits low high) text k = kept_fits (length text) keep_year k _ (number_fits digits low high text)
read_fits v (Name names) text k = kept_fits (length text) (keep (kind_of names)) k _ (longest_fits v names text)
read_fits v (Format form) text k = omega arith

-- ---- pieces

missed_within : (n : ℕ) (left : List ℕ) (o : Option Read) → length left ≤ n → FitsRead (length left) o → IsWithin n (or_missed left o)
missed_within n left None few is = few
missed_within n left (Some r) few is = omega (arith, few, is)

item_within : (n : ℕ) (v : TimeValues) (progress : Progress) (i : Item) → IsWithin n progress → IsWithin n (read_onward v progress i)
item_within n v (Err left) i is = is
item_within n v (Ok r) i is = missed_within n r.0 (read v i r.0 r.1) is (read_fits v i r.0 r.1)

piece_within : (n : ℕ) (v : TimeValues) (progress : Progress) (o : Option Item) → IsWithin n progress → IsWithin n (by_item v progress o)
piece_within n v progress None is = is
piece_within n v progress (Some i) is = item_within n v progress i is

pub run_within : (n : ℕ) (v : TimeValues) (ps : List Piece) (progress : Progress) → IsWithin n progress → IsWithin n (run v progress ps)
run_within n v [] progress is = is
run_within n v (p ∷ ps) progress is = run_within n v ps (onward v progress p) (piece_within n v progress (item_of p) is)
