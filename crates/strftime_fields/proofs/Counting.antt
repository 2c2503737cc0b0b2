-- How many conversions are read of what is left of a format.
use Rattle.std.proofs.Common.{◌≡◌, ℕ, zero, suc, ◌+◌, ◌-◌, ◌<◌, ◌≤◌, true, false, cond, leb, List, [], ◌∷◌, length, Option, Some, None, Result, Ok, Err, refl, ap, subst, arith}
use Rattle.std.proofs.lemmas.Bool.{le-leb, lt-leb}
use Rattle.time_cat.specs.declared.conversion.TimeConversion.{TimeConversion}
use Rattle.time_cat.specs.declared.conversion.Shows.TheVariants.{Format}
use Rattle.time_cat.specs.declared.conversion.TimeText.{TimeText}
use Rattle.time_cat.specs.Conversions.{conversion}
use Rattle.time_cat.specs.declared.step.Step.{Step}
use Rattle.time_cat.specs.declared.step.Step.TheVariants as steps
use Rattle.time_cat.specs.Formats.{Piece, Literal, Converted, Wrong, pieces, rest_of, bad_place, counted, IsStep}
use Rattle.time_cat.specs.Times.{TmValues}
use Rattle.time_cat.specs.TimeValues.{TimeValues, format_text}
use Rattle.time_cat.specs.Shown.{expanded, converted, piece_text, format_for, conversions_of}
use Rattle.strftime_fields.specs.declared.stop.Stop.{Stop}
use Rattle.strftime_fields.specs.declared.stop.Stop.TheVariants as stops
use Rattle.strftime_fields.specs.declared.read.Short.{Short}
use Rattle.strftime_fields.specs.declared.read.Short.TheVariants.{Byte, Plain}
use Rattle.strftime_fields.specs.Appending.{Appends}
use Rattle.strftime_fields.specs.Answers.{fault_of}
use Rattle.strftime_fields.specs.Cost.{read_for, piece_reads, pieces_read, reads, cost, CountsTo, Counts}
use Rattle.strftime_fields.specs.declared.read.Seen.TheVariants.{Inner}
use Rattle.strftime_fields.specs.Going.{reads_left}
use Rattle.strftime_fields.specs.Kept.{Kind}
use Rattle.strftime_fields.specs.Reading.{IsShort, IsFormatless, IsSeen, width, short_text}
use Rattle.strftime_fields.proofs.Left.{plain_conversion, format_conversion, nothing_left}

pub reads_at_start : (max levels : ℕ) (v : TimeValues) (t : TmValues) (before : ℕ) (format : List ℕ) → 0 < levels → reads_left max levels v t before format 0 ≡ reads max levels v t before format
unfolding reads_left reads rest_of pieces
reads_at_start max zero v t before format some = absurd (omega arith)
reads_at_start max (suc levels) v t before format some = let one : suc levels - 1 ≡ levels = omega arith in rw one refl

pub reads_at_end : (max levels : ℕ) (v : TimeValues) (t : TmValues) (before : ℕ) (format : List ℕ) (at : ℕ) → rest_of format at ≡ [] → reads_left max levels v t before format at ≡ 0
unfolding reads_left
reads_at_end max levels v t before format at is = rw is refl

pub reads_at_wrong : (max levels : ℕ) (v : TimeValues) (t : TmValues) (before : ℕ) (format : List ℕ) (at : ℕ) → rest_of format at ≡ Wrong at ∷ [] → reads_left max levels v t before format at ≡ 0
unfolding reads_left
reads_at_wrong max levels v t before format at is = rw is refl

pub reads_at_byte : (max levels : ℕ) (v : TimeValues) (t : TmValues) (before : ℕ) (format : List ℕ) (at c next : ℕ) → rest_of format at ≡ Literal c ∷ rest_of format next → reads_left max levels v t before format at ≡ reads_left max levels v t (before + 1) format next
unfolding reads_left
reads_at_byte max levels v t before format at c next is =
    let same : (n : ℕ) → 0 + n ≡ n = λ n. omega arith in
    rw is (same (pieces_read max v t (expanded (levels - 1) v t) (reads max (levels - 1) v t) (before + 1) (rest_of format next)))

read_here : (max before n : ℕ) → before ≤ max → cond (leb before max) n 0 ≡ n
read_here max before n fits = let b : leb before max ≡ true = le-leb before max fits in rw b refl

pub reads_at_conversion : (max levels : ℕ) (v : TimeValues) (t : TmValues) (before : ℕ) (format : List ℕ) (at modifier letter rank next : ℕ) → rest_of format at ≡ Converted modifier letter rank ∷ rest_of format next → before ≤ max
    → reads_left max levels v t before format at ≡ (1 + read_for v t (reads max (levels - 1) v t before) (conversion modifier letter)) + reads_left max levels v t (before + length (converted v t (expanded (levels - 1) v t) (conversion modifier letter))) format next
unfolding reads_left
reads_at_conversion max levels v t before format at modifier letter rank next is fits =
    rw is (ap (λ (n : ℕ). n + pieces_read max v t (expanded (levels - 1) v t) (reads max (levels - 1) v t) (before + length (converted v t (expanded (levels - 1) v t) (conversion modifier letter))) (rest_of format next)) (read_here max before (1 + read_for v t (reads max (levels - 1) v t before) (conversion modifier letter)) fits))

-- nothing is read behind a text that is too long
none_here : (v : TimeValues) (t : TmValues) (inner : List ℕ → ℕ) (p : Piece) → piece_reads v t inner false p ≡ 0
none_here v t inner (Literal c) = refl
none_here v t inner (Converted modifier letter rank) = refl
none_here v t inner (Wrong at) = refl

none_read : (max : ℕ) (v : TimeValues) (t : TmValues) (expand : List ℕ → List ℕ) (inner : ℕ → List ℕ → ℕ) (before : ℕ) (ps : List Piece) → max < before → pieces_read max v t expand inner before ps ≡ 0
none_read max v t expand inner before [] long = refl
none_read max v t expand inner before (p ∷ ps) long =
    let b : leb before max ≡ false = lt-leb before max long in
    let here : piece_reads v t (inner before) (leb before max) p ≡ 0 = rw b (none_here v t (inner before) p) in
    let later = none_read max v t expand inner (before + length (piece_text v t expand p)) ps (omega (arith, long)) in
    omega (arith, here, later)

pub none_left : (max levels : ℕ) (v : TimeValues) (t : TmValues) (before : ℕ) (format : List ℕ) (at : ℕ) → max < before → reads_left max levels v t before format at ≡ 0
unfolding reads_left
none_left max levels v t before format at long = none_read max v t (expanded (levels - 1) v t) (reads max (levels - 1) v t) before (rest_of format at) long

-- nothing is read of a format without levels
pub no_levels_read : (max levels : ℕ) (v : TimeValues) (t : TmValues) (before : ℕ) (format : List ℕ) → levels ≡ 0 → reads max levels v t before format ≡ 0
unfolding reads
no_levels_read max levels v t before format none = rw none refl

-- ---- what a conversion reads behind it

pub plain_read : (v : TimeValues) (t : TmValues) (inner : List ℕ → ℕ) (o : Option TimeConversion) (c : TimeConversion) → o ≡ Some c → format_for v t c.shows ≡ None → read_for v t inner o ≡ 0
plain_read v t inner o c some none = rw some (rw none refl)

pub format_read : (v : TimeValues) (t : TmValues) (inner : List ℕ → ℕ) (o : Option TimeConversion) (c : TimeConversion) (format : List ℕ) → o ≡ Some c → format_for v t c.shows ≡ Some format → read_for v t inner o ≡ inner format
format_read v t inner o c format some is = rw some (rw is refl)

-- ---- counts

pub counts_same : (r : Result (Unit {0}) Stop) (wanted steps : ℕ) → steps ≡ wanted → CountsTo r wanted steps
counts_same (Ok x) wanted steps is = is
counts_same (Err stops.TooBig) wanted steps is = is
counts_same (Err stops.Memory) wanted steps is = omega (arith, is)

-- the same of the fault of a text that is given up
pub counts_fault : (A : Type 0) (e : Stop) (wanted steps : ℕ) → CountsTo (Err e) wanted steps → Counts {A = A} (Err (fault_of e)) wanted steps
counts_fault A stops.TooBig wanted steps is = is
counts_fault A stops.Memory wanted steps is = is

-- the price of a format with a wrong `%`, and of one without
pub cost_wrong : (v : TimeValues) (t : TmValues) (format : List ℕ) (max at : ℕ) → bad_place (pieces format) ≡ Some at → cost v t format max ≡ conversions_of format
cost_wrong v t format max at bad = rw bad (omega arith)

pub cost_right : (v : TimeValues) (t : TmValues) (format : List ℕ) (max : ℕ) → bad_place (pieces format) ≡ None → cost v t format max ≡ conversions_of format + reads max 5 v t 0 format
cost_right v t format max good = rw good refl

-- where a piece can't be added, nothing is read behind it
pub counts_stop : (kind : Kind) (max : ℕ) (out piece new : List ℕ) (e : Stop) (here rest total steps : ℕ) → Appends kind max out piece new (Err e) → CountsTo (Err e) here steps → here + rest ≡ total → (max < length out + length piece → rest ≡ 0) → CountsTo (Err e) total steps
counts_stop kind max out piece new stops.TooBig here rest total steps long is whole none = omega (arith, is, whole, none long)
counts_stop kind max out piece new stops.Memory here rest total steps lacking is whole none = omega (arith, is, whole)

-- ---- pieces that are told at first sight

pub short_reads : (max levels : ℕ) (v : TimeValues) (t : TmValues) (before : ℕ) (format : List ℕ) (at : ℕ) (s : Step) (short : Short) → IsStep format at s → IsShort at s short → IsFormatless v t short → before ≤ max
    → reads_left max levels v t before format at ≡ counted s + reads_left max levels v t (before + length (short_text v t short)) format (at + width short)
short_reads max levels v t before format at s (Byte c) stands is none fits =
    let here : IsStep format at (steps.Byte c) = subst (λ (x : Step). IsStep format at x) is stands in
    let left = reads_at_byte max levels v t before format at c (at + 1) here.1 in
    rw is (omega (arith, left))
short_reads max levels v t before format at s (Plain letter found) stands is none fits =
    let here : IsStep format at (steps.Conv 0 letter found.rank (at + 2)) = subst (λ (x : Step). IsStep format at x) is.0 stands in
    let left = reads_at_conversion max levels v t before format at 0 letter found.rank (at + 2) here.2 fits in
    let gives = plain_conversion v t (expanded (levels - 1) v t) (conversion 0 letter) found is.1 none in
    let more = plain_read v t (reads max (levels - 1) v t before) (conversion 0 letter) found is.1 none in
    let left' = rw gives at left in
    rw is.0 (omega (arith, left', more))

-- a byte is no step, and a conversion is one
pub counted_byte : (at : ℕ) (s : Step) (short : Short) (c : ℕ) → IsShort at s short → short ≡ Byte c → counted s ≡ 0
counted_byte at s short c piece is =
    let here : IsShort at s (Byte c) = subst (λ (x : Short). IsShort at s x) is piece in
    ap counted here

pub counted_plain : (at : ℕ) (s : Step) (short : Short) (letter : ℕ) (found : TimeConversion) → IsShort at s short → short ≡ Plain letter found → counted s ≡ 1
counted_plain at s short letter found piece is =
    let here : IsShort at s (Plain letter found) = subst (λ (x : Short). IsShort at s x) is piece in
    ap counted here.0

-- ---- a conversion without a modifier that stands for a format of the locale

pub inner_reads : (max levels : ℕ) (v : TimeValues) (t : TmValues) (before : ℕ) (format : List ℕ) (at : ℕ) (s : Step) (key : TimeText) → IsStep format at s → IsSeen at s (Inner key) → before ≤ max
    → reads_left max levels v t before format at ≡ counted s + reads max (levels - 1) v t before (format_text v key) + reads_left max levels v t (before + length (expanded (levels - 1) v t (format_text v key))) format (at + 2)
inner_reads max levels v t before format at s key stands is fits =
    let here : IsStep format at (steps.Conv 0 is.0 is.1 (at + 2)) = subst (λ (x : Step). IsStep format at x) is.2 stands in
    let left = reads_at_conversion max levels v t before format at 0 is.0 is.1 (at + 2) here.2 fits in
    let gives = format_conversion v t (expanded (levels - 1) v t) (conversion 0 is.0) (record { rank = is.1; shows = Format key }) (format_text v key) is.3 refl in
    let more = format_read v t (reads max (levels - 1) v t before) (conversion 0 is.0) (record { rank = is.1; shows = Format key }) (format_text v key) is.3 refl in
    let left' = rw gives at left in
    rw is.2 (omega (arith, left', more))

pub inner_ends_reads : (max levels : ℕ) (v : TimeValues) (t : TmValues) (before : ℕ) (format : List ℕ) (at : ℕ) (s : Step) (key : TimeText) → IsStep format at s → IsSeen at s (Inner key) → before ≤ max → length format ≤ at + 2 → 1 < levels
    → reads_left max levels v t before format at ≡ counted s + reads_left max (levels - 1) v t before (format_text v key) 0
inner_ends_reads max levels v t before format at s key stands is fits end deep =
    let all = inner_reads max levels v t before format at s key stands is fits in
    let none = reads_at_end max levels v t (before + length (expanded (levels - 1) v t (format_text v key))) format (at + 2) (nothing_left format (at + 2) end) in
    let start = reads_at_start max (levels - 1) v t before (format_text v key) (omega (arith, deep)) in
    omega (arith, all, none, start)
