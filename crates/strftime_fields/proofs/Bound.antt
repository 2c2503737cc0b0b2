-- How many conversions a format costs at most.
use Rattle.std.proofs.Common.{◌≡◌, ℕ, zero, suc, ◌+◌, ◌*◌, ◌≤◌, Bool, true, false, cond, leb, List, [], ◌∷◌, length, Option, Some, None, refl, arith, count_by}
use Rattle.std.specs.Prelude.{find, option_map}
use Rattle.std.proofs.Math.Nat.{mul-le-mul_left}
use Rattle.std.proofs.lemmas.List.Sums.{sum_by-cons}
use Rattle.time_cat.specs.declared.conversion.TimeConversion.{TimeConversion}
use Rattle.time_cat.specs.declared.conversion.Shows.{Shows}
use Rattle.time_cat.specs.declared.conversion.Shows.TheVariants.{Name, Number, Alternative, Format, EraFormat, EraName, EraYear, EraFull, SlashedDate, DashedDate, ShortTime, FullTime, Offset, Zone, Sign}
use Rattle.time_cat.specs.declared.conversion.TimeText.{TimeText}
use Rattle.time_cat.specs.declared.conversion.TimeText.TheVariants.{DateTime, Date, Clock, HalfDayClock, EraDateTime, EraDate, EraClock}
use Rattle.time_cat.specs.declared.segment.Segment.{Segment}
use Rattle.time_cat.specs.Conversions.{conversion}
use Rattle.time_cat.specs.Eras.{hit_in}
use Rattle.time_cat.specs.Formats.{Piece, Literal, Converted, Wrong, pieces, is_conversion, bad_place}
use Rattle.time_cat.specs.Times.{TmValues}
use Rattle.time_cat.specs.TimeValues.{TimeValues, format_text, AreSegments, IsWhole}
use Rattle.time_cat.specs.Shown.{era_format, or_plain, format_for, piece_text, expanded, conversions_of}
use Rattle.strftime_fields.specs.Cost.{read_of, read_for, pieces_read, reads, unless_wrong, cost}

-- ---- formats of the locale

-- each format for which a conversion stands has at most 16 conversions
abbrev pub AreFew : TimeValues → TmValues → Type 0
AreFew v t = (shows : Shows) (format : List ℕ) → format_for v t shows ≡ Some format → conversions_of format ≤ 16

few_text : (v : TimeValues) → IsWhole v → (key : TimeText) → conversions_of (format_text v key) ≤ 16
few_text v whole DateTime = whole.formats.d_t_fmt.few
few_text v whole Date = whole.formats.d_fmt.few
few_text v whole Clock = whole.formats.t_fmt.few
few_text v whole HalfDayClock = whole.formats.t_fmt_ampm.few
few_text v whole EraDateTime = whole.formats.era_d_t_fmt.few
few_text v whole EraDate = whole.formats.era_d_fmt.few
few_text v whole EraClock = whole.formats.era_t_fmt.few

few_chosen : (format plain : List ℕ) → conversions_of format ≤ 16 → conversions_of plain ≤ 16 → conversions_of (or_plain format plain) ≤ 16
few_chosen [] plain few few' = few'
few_chosen (c ∷ cs) plain few few' = few

few_era : (year : ℕ) (contains : Segment → Bool) (segments : List Segment) → AreSegments segments → (format : List ℕ) → era_format (option_map (hit_in year) (find contains segments)) ≡ Some format → conversions_of format ≤ 16
few_era year contains [] whole format is = absurd cc
few_era year contains (s ∷ ss) whole format is =
    let P : Bool → Type 0 = λ b. era_format (option_map (hit_in year) (cond b (Some s) (find contains ss))) ≡ Some format → conversions_of format ≤ 16 in
    (elim (contains s) as P [
      | true ↦ λ (e : Some s.format ≡ Some format). (let same : s.format ≡ format = cc in rw (same) at whole.0.few)
      | false ↦ λ e. few_era year contains ss whole.1 format e
    ]) is

of_text : (text format : List ℕ) → Some text ≡ Some format → conversions_of text ≤ 16 → conversions_of format ≤ 16
of_text text format is few = let same : text ≡ format = cc in rw same at few

pub are_few : (v : TimeValues) (t : TmValues) → IsWhole v → AreFew v t
are_few v t whole (Name n) format is = absurd cc
are_few v t whole (Number q l) format is = absurd cc
are_few v t whole (Alternative q l) format is = absurd cc
are_few v t whole (Format key) format is = of_text (format_text v key) format is (few_text v whole key)
are_few v t whole (EraFormat key plain) format is = of_text (or_plain (format_text v key) (format_text v plain)) format is (few_chosen (format_text v key) (format_text v plain) (few_text v whole key) (few_text v whole plain))
are_few v t whole EraName format is = absurd cc
are_few v t whole EraYear format is = absurd cc
are_few v t whole EraFull format is = few_era _ _ v.era whole.era format is
are_few v t whole SlashedDate format is = absurd cc
are_few v t whole DashedDate format is = absurd cc
are_few v t whole ShortTime format is = absurd cc
are_few v t whole FullTime format is = absurd cc
are_few v t whole Offset format is = absurd cc
are_few v t whole Zone format is = absurd cc
are_few v t whole (Sign c) format is = absurd cc

-- ---- what they cost

-- for a conversion of a format with so many formats within one another: itself, and the 16 of the format for which it stands
abbrev most : ℕ → ℕ
most zero = 0
most (suc levels) = 1 + 16 * most levels

-- so many are read for each conversion of a format at most
abbrev AtMost : ℕ → (List ℕ → ℕ) → Type 0
AtMost each inner = (format : List ℕ) → inner format ≤ each * conversions_of format

few_read : (each : ℕ) (inner : List ℕ → ℕ) (format : List ℕ) → inner format ≤ each * conversions_of format → conversions_of format ≤ 16 → inner format ≤ 16 * each
few_read each inner format most few = omega (arith, mul-le-mul_left each few, most)

read_of_most : (each : ℕ) (inner : List ℕ → ℕ) (o : Option (List ℕ)) → AtMost each inner → ((format : List ℕ) → o ≡ Some format → conversions_of format ≤ 16) → read_of inner o ≤ 16 * each
read_of_most each inner None at_most few = omega arith
read_of_most each inner (Some format) at_most few = few_read each inner format (at_most format) (few format refl)

read_for_most : (each : ℕ) (v : TimeValues) (t : TmValues) (inner : List ℕ → ℕ) (o : Option TimeConversion) → AtMost each inner → AreFew v t → read_for v t inner o ≤ 16 * each
read_for_most each v t inner None at_most few = omega arith
read_for_most each v t inner (Some c) at_most few = read_of_most each inner (format_for v t c.shows) at_most (λ format is. few c.shows format is)

chosen_most : (b : Bool) (n most : ℕ) → n ≤ most → cond b n 0 ≤ most
chosen_most true n most le = le
chosen_most false n most le = omega arith

none_more : (x k n : ℕ) → x ≤ k * n → 0 + x ≤ k * (0 + n)
none_more x k n le = omega (arith, le)

one_more : (x y k n : ℕ) → x ≤ k → y ≤ k * n → x + y ≤ k * (1 + n)
one_more x y k n le le' = omega (arith, le, le')

pieces_most : (each max : ℕ) (v : TimeValues) (t : TmValues) (expand : List ℕ → List ℕ) (inner : ℕ → List ℕ → ℕ) → ((before : ℕ) → AtMost each (inner before)) → AreFew v t → (before : ℕ) (ps : List Piece)
    → pieces_read max v t expand inner before ps ≤ (1 + 16 * each) * count_by is_conversion ps
pieces_most each max v t expand inner at_most few before [] = omega arith
pieces_most each max v t expand inner at_most few before (Literal c ∷ ps) =
    let later = pieces_most each max v t expand inner at_most few (before + 1) ps in
    let same : count_by is_conversion (Literal c ∷ ps) ≡ 0 + count_by is_conversion ps = sum_by-cons (λ (p : Piece). cond (is_conversion p) 1 0) (Literal c) ps in
    rw same (none_more _ (1 + 16 * each) (count_by is_conversion ps) later)
pieces_most each max v t expand inner at_most few before (Wrong at ∷ ps) =
    let later = pieces_most each max v t expand inner at_most few (before + 0) ps in
    let same : count_by is_conversion (Wrong at ∷ ps) ≡ 0 + count_by is_conversion ps = sum_by-cons (λ (p : Piece). cond (is_conversion p) 1 0) (Wrong at) ps in
    rw same (none_more _ (1 + 16 * each) (count_by is_conversion ps) later)
pieces_most each max v t expand inner at_most few before (Converted modifier letter rank ∷ ps) =
    let p : Piece = Converted modifier letter rank in
    let later = pieces_most each max v t expand inner at_most few (before + length (piece_text v t expand p)) ps in
    let here = chosen_most (leb before max) (1 + read_for v t (inner before) (conversion modifier letter)) (1 + 16 * each) (omega (arith, read_for_most each v t (inner before) (conversion modifier letter) (at_most before) few)) in
    let more : count_by is_conversion (p ∷ ps) ≡ 1 + count_by is_conversion ps = sum_by-cons (λ (q : Piece). cond (is_conversion q) 1 0) p ps in
    rw more (one_more _ _ (1 + 16 * each) (count_by is_conversion ps) here later)

reads_most : (levels max : ℕ) (v : TimeValues) (t : TmValues) → AreFew v t → (before : ℕ) (format : List ℕ) → reads max levels v t before format ≤ most levels * conversions_of format
unfolding reads
reads_most zero max v t few before format = omega arith
reads_most (suc levels) max v t few before format = pieces_most (most levels) max v t (expanded levels v t) (reads max levels v t) (λ before' format'. reads_most levels max v t few before' format') few before (pieces format)

unless_most : (o : Option ℕ) (n most : ℕ) → n ≤ most → unless_wrong o n ≤ most
unless_most None n most le = le
unless_most (Some at) n most le = omega arith

-- the price of a format
pub cost_most : (v : TimeValues) (t : TmValues) (format : List ℕ) (max : ℕ) → IsWhole v → cost v t format max ≤ 69906 * conversions_of format
cost_most v t format max whole =
    let text : reads max 5 v t 0 format ≤ 69905 * conversions_of format = reads_most 5 max v t (are_few v t whole) 0 format in
    omega (arith, unless_most (bad_place (pieces format)) (reads max 5 v t 0 format) (69905 * conversions_of format) text)
